-- The canonical form is the one that is told by longest runs. The last marker of a draft is a group that is still open:
-- what follows is put into it segment by segment, and its words are those of that group joined to the groups of the rest.
-- Assumes nothing.
use Prim.Native.Nat.{ℕ, zero, suc, ◌+◌, ◌-◌, ◌*◌, ◌/◌, ◌≤◌, ◌<◌}
use mathlib.Core.Bool.{Bool, true, false, cond, ◌&&◌}
use mathlib.Core.Path.{◌≡◌, refl, sym, ap, ◌∙◌}
use mathlib.Core.List.{List, [], ◌∷◌, ◌++◌, foldl, append-nil, append_assoc}
use lib.Dec.{eqb, ltb}
use lib.ListN.{length, replicate, length-append}
use lib.Seq.{take_at, drop_at}
use native.Mathlib.Omega.{arith}
use borrow.Author.Tests.{lt-ltb, ltb-true, ltb-false, eqb-true, eq-eqb, ne_eqb}
use Rattle.meaning.specs.Limits.{most_clean, most_dirty, most_fill}
use Rattle.meaning.specs.Segment.{Segment, clean, mixed, last_rows}
use Rattle.meaning.specs.Ewah.{marker}
use Rattle.meaning.specs.Canonical.{draft, body, opened, put, ewah_of}
use Rattle.meaning.specs.Wah.{wah_draft, run_words, wah_body, wah_put, wah_of}
use Rattle.laws.specs.Paragraph.{Group, group, before, groups, with_dirty, group_words, groups_words, last_of_run, wah_groups_words}
use Rattle.laws.proofs.Segments.{both, fits-clean}
use Rattle.laws.proofs.WahBody.{joins}

-- an open group in front of groups
joined : (v c : ℕ) → List ℕ → List Group → List Group
joined v c ds [] = group v c ds ∷ []
joined v c ds (group u zero ys ∷ gs) = group v c (ds ++ ys) ∷ gs
joined v c ds (group u (suc n) ys ∷ gs) =
    cond (eqb (length ds) 0 && eqb v u) (group v (c + suc n) ys ∷ gs) (group v c ds ∷ group u (suc n) ys ∷ gs)

empty : (ds : List ℕ) → length ds ≡ 0 → ds ≡ []
empty [] e = refl
empty (d ∷ ds) e = absurd (omega arith)

-- ---- a segment goes into the open group, or opens one

same_count : (v : ℕ) {c k : ℕ} (ys : List ℕ) (gs : List Group) → c ≡ k → group v c ys ∷ gs ≡ group v k ys ∷ gs
same_count v ys gs e = rw e

join-clean : (v c : ℕ) (gs : List Group) → joined v (suc c) [] gs ≡ joined v c [] (before (clean v) gs)
unfolding joined before
join-clean v c [] = rw (eq-eqb v v refl) (same_count v [] [] (omega arith))
join-clean v c (group u zero ys ∷ gs) = rw (eq-eqb v v refl) (same_count v ys gs (omega arith))
join-clean v c (group u (suc n) ys ∷ gs) = go (eqb v u)
  where
    go : (t : Bool)
        → cond t (group v (suc c + suc n) ys ∷ gs) (group v (suc c) [] ∷ group u (suc n) ys ∷ gs)
        ≡ joined v c [] (cond t (group v (suc (suc n)) ys ∷ gs) (group v 1 [] ∷ group u (suc n) ys ∷ gs))
    go true = rw (eq-eqb v v refl) (same_count v ys gs (omega arith))
    go false = rw (eq-eqb v v refl) (same_count v [] (group u (suc n) ys ∷ gs) (omega arith))

open-clean : (v : ℕ) (gs : List Group) → joined v 1 [] gs ≡ before (clean v) gs
unfolding joined before
open-clean v [] = refl
open-clean v (group u zero ys ∷ gs) = refl
open-clean v (group u (suc n) ys ∷ gs) =
    ap (λ (l : List Group). cond (eqb v u) l (group v 1 [] ∷ group u (suc n) ys ∷ gs)) (same_count v ys gs (omega arith))

join-mixed : (v c : ℕ) (ds : List ℕ) (x : ℕ) (gs : List Group) → joined v c (ds ++ x ∷ []) gs ≡ joined v c ds (before (mixed x) gs)
unfolding joined before
join-mixed v c ds x [] = refl
join-mixed v c ds x (group u zero ys ∷ gs) = rw append_assoc
join-mixed v c ds x (group u (suc n) ys ∷ gs) =
    rw (ne_eqb (length (ds ++ x ∷ [])) 0 (λ e. omega (arith, length-append ds (x ∷ []))))

open-mixed : (x : ℕ) (gs : List Group) → joined 0 0 (x ∷ []) gs ≡ before (mixed x) gs
unfolding joined before
open-mixed x [] = refl
open-mixed x (group u zero ys ∷ gs) = refl
open-mixed x (group u (suc n) ys ∷ gs) = refl

-- ---- a group's words, marker by marker

words-cons : (g : Group) (gs : List Group) → groups_words (g ∷ gs) ≡ group_words g ++ groups_words gs
unfolding groups_words
words-cons g gs = refl

-- the words with the counts of full and further markers and the remainder given
words-by : (v n : ℕ) (xs : List ℕ) (full more c : ℕ) → (n - 1) / most_clean ≡ full → (length xs - 1) / most_dirty ≡ more → n ≡ full * most_clean + c
    → group_words (group v n xs) ≡ replicate full (marker v most_clean 0) ++ with_dirty more v c xs
unfolding group_words
words-by v n xs full more c f m e = let r : n - full * most_clean ≡ c = omega arith in rw (f, m, r)

-- a group that one marker can hold
one-marker : (v c : ℕ) (ds : List ℕ) → c ≤ most_clean → length ds ≤ most_dirty → group_words (group v c ds) ≡ marker v c (length ds) ∷ ds
unfolding with_dirty
one-marker v c ds h k = words-by v c ds 0 0 c (omega arith) (omega arith) (omega arith)

-- a group whose first marker is full of clean segments
full-clean : (v n : ℕ) (ys : List ℕ) → group_words (group v (most_clean + suc n) ys) ≡ marker v most_clean 0 ∷ group_words (group v (suc n) ys)
full-clean v n ys =
    words-by v (most_clean + suc n) ys (suc full) more c (omega arith) refl (omega arith)
    ∙ ap (λ (l : List ℕ). marker v most_clean 0 ∷ l) (sym (words-by v (suc n) ys full more c (omega arith) refl (omega arith)))
  where
    full : ℕ
    full = n / most_clean

    more : ℕ
    more = (length ys - 1) / most_dirty

    c : ℕ
    c = suc n - full * most_clean

-- or of dirty words: what follows stands under value 0 and clean count 0
more-dirty : (more v c : ℕ) (ds xs : List ℕ) → length ds ≡ most_dirty → with_dirty (suc more) v c (ds ++ xs) ≡ marker v c most_dirty ∷ ds ++ with_dirty more 0 0 xs
unfolding with_dirty
more-dirty more v c ds xs k = rw (take_at ds xs most_dirty k, drop_at ds xs most_dirty k)

full-dirty : (v c : ℕ) (ds : List ℕ) (x : ℕ) (ys : List ℕ) → c ≤ most_clean → length ds ≡ most_dirty
    → group_words (group v c (ds ++ x ∷ ys)) ≡ marker v c most_dirty ∷ ds ++ group_words (group 0 0 (x ∷ ys))
full-dirty v c ds x ys h k =
    words-by v c (ds ++ x ∷ ys) 0 (suc (length ys / most_dirty)) c (omega arith) (omega (arith, length-append ds (x ∷ ys))) (omega arith)
    ∙ more-dirty (length ys / most_dirty) v c ds (x ∷ ys) k
    ∙ ap (λ (l : List ℕ). marker v c most_dirty ∷ ds ++ l) (sym (words-by 0 0 (x ∷ ys) 0 (length ys / most_dirty) 0 (omega arith) (omega arith) (omega arith)))

-- ---- a segment opens a new marker

-- the group that a clean segment begins, or a mixed one
first-clean : (b : ℕ) (gs : List Group) → (m : ℕ) × (ys : List ℕ) × (rest : List Group) × (before (clean b) gs ≡ group b (suc m) ys ∷ rest)
unfolding before
first-clean b [] = (0, [], [], refl)
first-clean b (group u zero ys ∷ gs) = (0, ys, gs, refl)
first-clean b (group u (suc n) ys ∷ gs) = go (eqb b u)
  where
    go : (t : Bool) → (m : ℕ) × (zs : List ℕ) × (rest : List Group)
        × (cond t (group b (suc (suc n)) ys ∷ gs) (group b 1 [] ∷ group u (suc n) ys ∷ gs) ≡ group b (suc m) zs ∷ rest)
    go true = (suc n, ys, gs, refl)
    go false = (0, [], group u (suc n) ys ∷ gs, refl)

first-mixed : (x : ℕ) (gs : List Group) → (ys : List ℕ) × (rest : List Group) × (before (mixed x) gs ≡ group 0 0 (x ∷ ys) ∷ rest)
unfolding before
first-mixed x [] = ([], [], refl)
first-mixed x (group u zero ys ∷ gs) = (ys, gs, refl)
first-mixed x (group u (suc n) ys ∷ gs) = ([], group u (suc n) ys ∷ gs, refl)

-- a clean group in front of which the last marker is closed
new-clean : (v c : ℕ) (ds : List ℕ) (b m : ℕ) (ys : List ℕ) (gs : List Group) → c ≤ most_clean → length ds ≤ most_dirty
    → eqb (length ds) 0 && eqb v b && ltb c most_clean ≡ false
    → groups_words (joined v c ds (group b (suc m) ys ∷ gs)) ≡ marker v c (length ds) ∷ ds ++ groups_words (group b (suc m) ys ∷ gs)
unfolding joined
new-clean v c ds b m ys gs h k e = go (eqb (length ds) 0 && eqb v b) refl
  where
    go : (t : Bool) → eqb (length ds) 0 && eqb v b ≡ t
        → groups_words (cond t (group v (c + suc m) ys ∷ gs) (group v c ds ∷ group b (suc m) ys ∷ gs))
        ≡ marker v c (length ds) ∷ ds ++ groups_words (group b (suc m) ys ∷ gs)
    go true f =
        let p = both (eqb (length ds) 0) (eqb v b) f in
        let q : ltb c most_clean ≡ false = rw f at e in
        let r : c ≡ most_clean = omega (arith, ltb-false) in
        rw (empty ds (eqb-true (length ds) 0 p.0), r, eqb-true v b p.1, words-cons, full-clean b m ys, words-cons (group b (suc m) ys) gs)
    go false f = words-cons (group v c ds) (group b (suc m) ys ∷ gs) ∙ rw (one-marker v c ds h k)

-- mixed segments for which the last marker has no room
new-mixed : (v c : ℕ) (ds : List ℕ) (x : ℕ) (ys : List ℕ) (gs : List Group) → c ≤ most_clean → length ds ≡ most_dirty
    → groups_words (joined v c ds (group 0 0 (x ∷ ys) ∷ gs)) ≡ marker v c (length ds) ∷ ds ++ groups_words (group 0 0 (x ∷ ys) ∷ gs)
unfolding joined
new-mixed v c ds x ys gs h k =
    words-cons (group v c (ds ++ x ∷ ys)) gs
    ∙ rw (full-dirty v c ds x ys h k, words-cons (group 0 0 (x ∷ ys)) gs, k, append_assoc)

-- ---- all segments, from any draft and from none

from-draft : (done : List ℕ) (v c : ℕ) (ds : List ℕ) (ss : List Segment) → c ≤ most_clean → length ds ≤ most_dirty
    → body (foldl put (draft done v c ds) ss) ≡ done ++ groups_words (joined v c ds (groups ss))
unfolding put opened groups
from-draft done v c ds [] h k = unfold body joined groups_words in rw (one-marker v c ds h k, append-nil)
from-draft done v c ds (clean b ∷ ss) h k =
    go (eqb (length ds) 0 && eqb v b && ltb c most_clean) refl
    (λ l. from-draft done v (suc c) ds ss l k)
    (from-draft (body (draft done v c ds)) b 1 [] ss (omega arith) (omega arith))
  where
    gs : List Group
    gs = groups ss

    go : (t : Bool) → eqb (length ds) 0 && eqb v b && ltb c most_clean ≡ t
        → (suc c ≤ most_clean → body (foldl put (draft done v (suc c) ds) ss) ≡ done ++ groups_words (joined v (suc c) ds gs))
        → body (foldl put (draft (body (draft done v c ds)) b 1 []) ss) ≡ body (draft done v c ds) ++ groups_words (joined b 1 [] gs)
        → body (foldl put (cond t (draft done v (suc c) ds) (draft (body (draft done v c ds)) b 1 [])) ss)
        ≡ done ++ groups_words (joined v c ds (before (clean b) gs))
    go true e into anew =
        let f = fits-clean (length ds) v b c e in
        into f.2 ∙ rw (empty ds f.0, ← f.1, join-clean v c gs)
    go false e into anew =
        let f = first-clean b gs in
        anew
        ∙ rw (open-clean b gs, f.3, append_assoc)
        (ap (λ (l : List ℕ). done ++ l) (sym (new-clean v c ds b f.0 f.1 f.2 h k e)))
from-draft done v c ds (mixed x ∷ ss) h k =
    go (ltb (length ds) most_dirty) refl
    (λ l. from-draft done v c (ds ++ x ∷ []) ss h l)
    (from-draft (body (draft done v c ds)) 0 0 (x ∷ []) ss (omega arith) (omega arith))
  where
    gs : List Group
    gs = groups ss

    go : (t : Bool) → ltb (length ds) most_dirty ≡ t
        → (length (ds ++ x ∷ []) ≤ most_dirty → body (foldl put (draft done v c (ds ++ x ∷ [])) ss) ≡ done ++ groups_words (joined v c (ds ++ x ∷ []) gs))
        → body (foldl put (draft (body (draft done v c ds)) 0 0 (x ∷ [])) ss) ≡ body (draft done v c ds) ++ groups_words (joined 0 0 (x ∷ []) gs)
        → body (foldl put (cond t (draft done v c (ds ++ x ∷ [])) (draft (body (draft done v c ds)) 0 0 (x ∷ []))) ss)
        ≡ done ++ groups_words (joined v c ds (before (mixed x) gs))
    go true e into anew = into (omega (arith, length-append ds (x ∷ []), ltb-true)) ∙ rw join-mixed
    go false e into anew =
        let f = first-mixed x gs in
        anew
        ∙ rw (open-mixed x gs, f.2, append_assoc)
        (ap (λ (l : List ℕ). done ++ l) (sym (new-mixed v c ds x f.0 f.1 h (omega (arith, ltb-false)))))

pub by_runs : (ss : List Segment) → ewah_of ss ≡ groups_words (groups ss)
unfolding ewah_of body put opened groups groups_words
by_runs [] = refl
by_runs (clean b ∷ ss) = from-draft [] b 1 [] ss (omega arith) (omega arith) ∙ rw (open-clean b (groups ss))
by_runs (mixed x ∷ ss) = from-draft [] 0 0 (x ∷ []) ss (omega arith) (omega arith) ∙ rw (open-mixed x (groups ss))

-- ---- WAH: a draft's last run is a group that is still open, and has no mixed segments yet

first-false : (t : Bool) → t && true ≡ false → t ≡ false
first-false true e = e
first-false false e = refl

module _ (real : ℕ) where
  -- a group of no clean segments
  wah-no-run : (v : ℕ) (xs : List ℕ) (gs : List Group) → wah_groups_words real (group v 0 xs ∷ gs) ≡ xs ++ wah_groups_words real gs
  unfolding wah_groups_words run_words
  wah-no-run v xs gs = refl

  -- a run that ends before another one begins, or before a mixed segment
  wah-run-then : (v n u m : ℕ) (ys : List ℕ) (gs : List Group)
      → wah_groups_words real (group v n [] ∷ group u (suc m) ys ∷ gs) ≡ run_words 31 v n ++ wah_groups_words real (group u (suc m) ys ∷ gs)
  unfolding wah_groups_words run_words last_of_run
  wah-run-then v n u zero ys gs = refl
  wah-run-then v n u (suc m) ys gs = refl

  wah-mixed-then : (v n x : ℕ) (ys : List ℕ) (gs : List Group)
      → wah_groups_words real (group v n (x ∷ ys) ∷ gs) ≡ run_words 31 v n ++ x ∷ (ys ++ wah_groups_words real gs)
  unfolding wah_groups_words last_of_run
  wah-mixed-then v n x ys gs = refl

  -- an open run of no segments
  wah-none-open : (v : ℕ) (gs : List Group) → wah_groups_words real (joined v 0 [] gs) ≡ wah_groups_words real gs
  unfolding joined
  wah-none-open v [] = unfold wah_groups_words run_words in refl
  wah-none-open v (group u zero ys ∷ gs) = wah-no-run v ys gs ∙ sym (wah-no-run u ys gs)
  wah-none-open v (group u (suc m) ys ∷ gs) = go (eqb v u) refl
    where
      go : (t : Bool) → eqb v u ≡ t
          → wah_groups_words real (cond t (group v (0 + suc m) ys ∷ gs) (group v 0 [] ∷ group u (suc m) ys ∷ gs))
          ≡ wah_groups_words real (group u (suc m) ys ∷ gs)
      go true e = rw (← eqb-true v u e) (ap (wah_groups_words real) (same_count v ys gs (omega arith)))
      go false e = wah-no-run v [] (group u (suc m) ys ∷ gs)

  -- a run that the next clean segment does not join, since there is none or it has the other value
  wah-closed : (v n b : ℕ) (gs : List Group) → n < most_fill → ltb 0 n && eqb v b && ltb n most_fill ≡ false
      → wah_groups_words real (joined v n [] (before (clean b) gs)) ≡ run_words 31 v n ++ wah_groups_words real (before (clean b) gs)
  unfolding joined run_words
  wah-closed v zero b gs h e = wah-none-open v (before (clean b) gs)
  wah-closed v (suc n) b gs h e =
      let f = first-clean b gs in
      let other : eqb v b ≡ false = first-false (eqb v b) (rw (lt-ltb 0 (suc n) (omega arith), lt-ltb (suc n) most_fill h) at e) in
      rw (f.3, other) (wah-run-then v (suc n) b f.0 f.1 f.2)

  -- a mixed segment behind it
  wah-mixed : (v n x : ℕ) (gs : List Group) → wah_groups_words real (joined v n (x ∷ []) gs) ≡ run_words 31 v n ++ x ∷ wah_groups_words real gs
  unfolding joined
  wah-mixed v n x [] = unfold wah_groups_words in wah-mixed-then v n x [] []
  wah-mixed v n x (group u zero ys ∷ gs) = wah-mixed-then v n x ys gs ∙ rw (wah-no-run u ys gs)
  wah-mixed v n x (group u (suc m) ys ∷ gs) = wah-mixed-then v n x [] (group u (suc m) ys ∷ gs)

  wah-from : (done : List ℕ) (v n : ℕ) (ss : List Segment) → n + length ss ≤ most_fill
      → wah_body real (foldl wah_put (wah_draft done v n) ss) ≡ done ++ wah_groups_words real (joined v n [] (groups ss))
  unfolding wah_put groups
  wah-from done v n [] h = unfold wah_body joined wah_groups_words last_of_run in rw append-nil
  wah-from done v n (clean b ∷ ss) h =
      go (ltb 0 n && eqb v b && ltb n most_fill) refl
      (wah-from done v (suc n) ss (omega arith))
      (wah-from (done ++ run_words 31 v n) b 1 ss (omega arith))
    where
      gs : List Group
      gs = groups ss

      go : (t : Bool) → ltb 0 n && eqb v b && ltb n most_fill ≡ t
          → wah_body real (foldl wah_put (wah_draft done v (suc n)) ss) ≡ done ++ wah_groups_words real (joined v (suc n) [] gs)
          → wah_body real (foldl wah_put (wah_draft (done ++ run_words 31 v n) b 1) ss) ≡ (done ++ run_words 31 v n) ++ wah_groups_words real (joined b 1 [] gs)
          → wah_body real (foldl wah_put (cond t (wah_draft done v (suc n)) (wah_draft (done ++ run_words 31 v n) b 1)) ss)
          ≡ done ++ wah_groups_words real (joined v n [] (before (clean b) gs))
      go true e into anew = into ∙ rw (← (joins n v b e).1, join-clean v n gs)
      go false e into anew =
          anew
          ∙ rw (open-clean b gs, append_assoc)
          (ap (λ (l : List ℕ). done ++ l) (sym (wah-closed v n b gs (omega arith) e)))
  wah-from done v n (mixed x ∷ ss) h =
      wah-from (done ++ run_words 31 v n ++ x ∷ []) 0 0 ss (omega arith)
      ∙ rw (wah-none-open 0 (groups ss), ← join-mixed v n [] x (groups ss), wah-mixed v n x (groups ss))
      (append_assoc (done ++ run_words 31 v n) (x ∷ []) rest ∙ append_assoc done (run_words 31 v n) (x ∷ rest))
    where
      rest : List ℕ
      rest = wah_groups_words real (groups ss)

pub wah-by-runs : (R : ℕ) (ss : List Segment) → length ss ≤ most_fill → wah_of R ss ≡ wah_groups_words (last_rows 31 R) (groups ss)
unfolding wah_of
wah-by-runs R ss h = wah-from (last_rows 31 R) [] 0 0 ss (omega arith) ∙ wah-none-open (last_rows 31 R) 0 (groups ss)
