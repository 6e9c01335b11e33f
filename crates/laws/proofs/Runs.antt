-- The canonical form, run by run: equations for a writer that puts whole runs.
-- Assumes nothing.
use Prim.Native.Nat.{ℕ, zero, suc, ◌+◌, ◌-◌, ◌≤◌, ◌<◌}
use mathlib.Core.Bool.{Bool, true, false, not, cond, ◌&&◌}
use mathlib.Core.Path.{◌≡◌, refl, sym, ap, ◌∙◌}
use mathlib.Core.List.{List, [], ◌∷◌, ◌++◌, map, foldl, foldl-append, append-nil, append_assoc}
use lib.Dec.{eqb, ltb}
use lib.ListN.{length, replicate, length-append, replicate-append-replicate}
use native.Mathlib.Omega.{arith}
use borrow.Author.Tests.{lt-ltb, le-ltb, not-true, ne_eqb, eqb-true}
use Rattle.meaning.specs.Limits.{most_clean, most_dirty}
use Rattle.meaning.specs.Segment.{Segment, clean, mixed}
use Rattle.meaning.specs.Canonical.{Draft, blank, draft, body, opened, put}
use Rattle.laws.proofs.Least.{run_in, size, size-draft, taken}

-- a clean segment does not go into the last marker
unfoldable pub closed_to : ℕ → Draft → Bool
closed_to b blank = true
closed_to b (draft done v c ds) = not (eqb (length ds) 0 && eqb v b && ltb c most_clean)

put-new : (d : Draft) (b : ℕ) → closed_to b d ≡ true → put d (clean b) ≡ draft (body d) b 1 []
unfolding closed_to put opened body
put-new blank b h = refl
put-new (draft done v c ds) b h = rw (not-true (eqb (length ds) 0 && eqb v b && ltb c most_clean) h)

-- a run under a new marker; `run_in` has a run that goes on in the last
pub run-new : (d : Draft) (b n : ℕ) → suc n ≤ most_clean → closed_to b d ≡ true
    → foldl put d (replicate (suc n) (clean b)) ≡ draft (body d) b (suc n) []
run-new d b n h k =
    ap (λ (e : Draft). foldl put e (replicate n (clean b))) (put-new d b k)
    ∙ run_in (body d) b 1 n (omega arith)
    ∙ ap (λ (z : ℕ). draft (body d) b z []) (omega arith)

-- how many clean segments of value b the last marker can still take
unfoldable pub room : ℕ → Draft → ℕ
room b blank = 0
room b (draft done v c ds) = cond (eqb (length ds) 0 && eqb v b) (most_clean - c) 0

-- the last marker with a greater clean count
unfoldable pub longer : Draft → ℕ → Draft
longer blank n = blank
longer (draft done v c ds) n = draft done v (c + n) ds

pub longer-length : (d : Draft) (n : ℕ) → length (body (longer d n)) ≡ length (body d)
unfolding longer
longer-length blank n = refl
longer-length (draft done v c ds) n = unfold size in (size-draft done v (c + n) ds ∙ sym (size-draft done v c ds))

-- a run that the last marker can take whole
pub run-within : (d : Draft) (b n : ℕ) → n ≤ room b d → foldl put d (replicate n (clean b)) ≡ longer d n
unfolding room longer
run-within blank b zero h = refl
run-within blank b (suc n) h = absurd (omega arith)
run-within (draft done v c ds) b zero h = ap (λ (k : ℕ). draft done v k ds) (omega arith)
run-within (draft done v c (x ∷ xs)) b (suc n) h = absurd (omega (arith, rw (ne_eqb (length (x ∷ xs)) 0 (omega arith)) at h))
run-within (draft done v c []) b (suc n) h = go (eqb v b) refl h
  where
    go : (t : Bool) → eqb v b ≡ t → suc n ≤ cond t (most_clean - c) 0
        → foldl put (draft done v c []) (replicate (suc n) (clean b)) ≡ draft done v (c + suc n) []
    go true e h = rw (eqb-true v b e) (run_in done b c (suc n) (omega arith))
    go false e h = absurd (omega arith)

closed-full : (d : Draft) (b : ℕ) → closed_to b (longer d (room b d)) ≡ true
unfolding room longer closed_to
closed-full blank b = refl
closed-full (draft done v c ds) b = go (eqb (length ds) 0 && eqb v b)
  where
    go : (t : Bool) → not (t && ltb (c + cond t (most_clean - c) 0) most_clean) ≡ true
    go true = rw (le-ltb (c + (most_clean - c)) most_clean (omega arith))
    go false = refl

-- a run of which the last marker takes what it can, and a new one the rest
pub run-over : (d : Draft) (b n : ℕ) → room b d < n → n ≤ most_clean
    → foldl put d (replicate n (clean b)) ≡ draft (body (longer d (room b d))) b (n - room b d) []
run-over d b n h g =
    let k : ℕ = n - room b d - 1 in
    let e : n ≡ room b d + suc k = omega arith in
    let full : Draft = longer d (room b d) in
    ap (λ (z : ℕ). foldl put d (replicate z (clean b))) e
    ∙ ap (λ (ss : List Segment). foldl put d ss) (sym (replicate-append-replicate (room b d) (suc k) (clean b)))
    ∙ foldl-append put d (replicate (room b d) (clean b)) (replicate (suc k) (clean b))
    ∙ ap (λ (e : Draft). foldl put e (replicate (suc k) (clean b))) (run-within d b (room b d) (omega arith))
    ∙ run-new full b k (omega arith) (closed-full d b)
    ∙ ap (λ (z : ℕ). draft (body full) b z []) (omega arith)

-- mixed segments that go under the last marker
pub mixed-in : (done : List ℕ) (v c : ℕ) (ds xs : List ℕ) → length ds + length xs ≤ most_dirty
    → foldl put (draft done v c ds) (map mixed xs) ≡ draft done v c (ds ++ xs)
mixed-in done v c ds [] h = ap (λ (l : List ℕ). draft done v c l) (sym (append-nil ds))
mixed-in done v c ds (x ∷ xs) h =
    ap (λ (e : Draft). foldl put e (map mixed xs)) one
    ∙ mixed-in done v c (ds ++ x ∷ []) xs (omega (arith, length-append ds (x ∷ [])))
    ∙ ap (λ (l : List ℕ). draft done v c l) (append_assoc ds (x ∷ []) xs)
  where
    one : put (draft done v c ds) (mixed x) ≡ draft done v c (ds ++ x ∷ [])
    one = unfold put in rw (lt-ltb (length ds) most_dirty (omega arith))

-- and those that go under a new one
pub mixed-new : (d : Draft) (x : ℕ) (xs : List ℕ) → most_dirty ≤ taken d → suc (length xs) ≤ most_dirty
    → foldl put d (map mixed (x ∷ xs)) ≡ draft (body d) 0 0 (x ∷ xs)
mixed-new d x xs h k = ap (λ (e : Draft). foldl put e (map mixed xs)) (one d h) ∙ mixed-in (body d) 0 0 (x ∷ []) xs (omega arith)
  where
    one : (d : Draft) → most_dirty ≤ taken d → put d (mixed x) ≡ draft (body d) 0 0 (x ∷ [])
    one blank h = unfold put in refl
    one (draft done v c ds) h = unfold put taken in rw (le-ltb (length ds) most_dirty h)
