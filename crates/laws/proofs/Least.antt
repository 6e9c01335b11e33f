-- The canonical form has the fewest words of any body that decodes to the same segments.
-- Assumes nothing.
use Prim.Native.Nat.{ℕ, zero, suc, ◌+◌, ◌/◌, ◌≤◌, ◌<◌, ◌*◌}
use mathlib.Core.Bool.{Bool, true, false, cond, ◌&&◌}
use mathlib.Core.Path.{◌≡◌, refl, sym, ap, ◌∙◌, subst}
use mathlib.Core.List.{List, [], ◌∷◌, ◌++◌, foldl, foldl-append}
use lib.Dec.{eqb, ltb}
use lib.ListN.{length, replicate, length-append}
use native.Mathlib.Omega.{arith}
use native.Mathlib.Decide.{dec_le}
use Rattle.laws.proofs.Segments.{cut, fits-clean, seen, seen-run, seen-word}
use mathlib.Core.Logic.{◌⊎◌, inl, inr}
use borrow.Author.Tests.{lt-ltb, le-ltb, eq-eqb}
use Rattle.meaning.specs.Limits.{most_clean, most_dirty}
use Rattle.meaning.specs.Segment.{Segment, clean, mixed, kinds}
use Rattle.meaning.specs.Ewah.{marker, decode, segments, value_of, clean_of, dirty_of}
use Rattle.meaning.specs.Canonical.{Draft, blank, draft, body, opened, put, ewah_of}

-- the words so far, and how many of the last marker's dirty words are taken: a blank draft has no room
unfoldable pub size : Draft → ℕ
unfolding body
size d = length (body d)

unfoldable pub taken : Draft → ℕ
taken blank = most_dirty
taken (draft done v c ds) = length ds

pub size-draft : (done : List ℕ) (v c : ℕ) (ds : List ℕ) → size (draft done v c ds) ≡ length done + 1 + length ds
unfolding size
size-draft done v c ds = omega (arith, length-append done (marker v c (length ds) ∷ ds))

-- one clean segment: at most one word more, and then no dirty word is taken
pub put-clean : (d : Draft) (b : ℕ) → (size (put d (clean b)) ≤ size d + 1) × (taken (put d (clean b)) ≡ 0)
unfolding put taken opened
put-clean blank b = (omega (arith, size-draft [] b 1 []), refl)
put-clean (draft done v c ds) b = go (eqb (length ds) 0 && eqb v b && ltb c most_clean) refl
  where
    old : List ℕ
    old = body (draft done v c ds)

    go : (t : Bool) → (eqb (length ds) 0 && eqb v b && ltb c most_clean) ≡ t
        → (size (cond t (draft done v (suc c) ds) (draft old b 1 [])) ≤ size (draft done v c ds) + 1)
        × (taken (cond t (draft done v (suc c) ds) (draft old b 1 [])) ≡ 0)
    go true e = (omega (arith, size-draft done v (suc c) ds, size-draft done v c ds), (fits-clean (length ds) v b c e).0)
    go false e = (unfold size in omega (arith, size-draft old b 1 []), refl)

-- one mixed segment where the last marker has room: one word more
pub put-room : (d : Draft) (x : ℕ) → taken d < most_dirty → (size (put d (mixed x)) ≡ size d + 1) × (taken (put d (mixed x)) ≡ taken d + 1)
unfolding put taken
put-room blank x h = absurd (omega arith)
put-room (draft done v c ds) x h =
    rw (lt-ltb (length ds) most_dirty h)
    (omega (arith, size-draft done v c ds, size-draft done v c (ds ++ x ∷ []), length-append ds (x ∷ [])), omega (arith, length-append ds (x ∷ [])))

pub put_full : (d : Draft) (x : ℕ) → most_dirty ≤ taken d → (size (put d (mixed x)) ≡ size d + 2) × (taken (put d (mixed x)) ≡ 1)
unfolding put taken opened
put_full blank x h = (unfold size in omega (arith, size-draft [] 0 0 (x ∷ [])), refl)
put_full (draft done v c ds) x h =
    rw (le-ltb (length ds) most_dirty h)
    (unfold size in omega (arith, size-draft (body (draft done v c ds)) 0 0 (x ∷ [])), refl)

-- a clean segment goes into the last marker, or under a new one
put-either : (d : Draft) (b : ℕ) → (size (put d (clean b)) ≡ size d) ⊎ (put d (clean b) ≡ draft (body d) b 1 [])
unfolding put opened body
put-either blank b = inr refl
put-either (draft done v c ds) b = go (eqb (length ds) 0 && eqb v b && ltb c most_clean)
  where
    old : List ℕ
    old = body (draft done v c ds)

    go : (t : Bool) → (size (cond t (draft done v (suc c) ds) (draft old b 1 [])) ≡ size (draft done v c ds)) ⊎ (cond t (draft done v (suc c) ds) (draft old b 1 []) ≡ draft old b 1 [])
    go true = inl (omega (arith, size-draft done v (suc c) ds, size-draft done v c ds))
    go false = inr refl

put-more : (done : List ℕ) (b c : ℕ) → c < most_clean → put (draft done b c []) (clean b) ≡ draft done b (suc c) []
unfolding put
put-more done b c h = rw (eq-eqb b b refl, lt-ltb c most_clean h)

-- a run goes on in a marker that has room for it
pub run_in : (done : List ℕ) (b c n : ℕ) → c + n ≤ most_clean
    → foldl put (draft done b c []) (replicate n (clean b)) ≡ draft done b (c + n) []
run_in done b c zero h = ap (λ (k : ℕ). draft done b k []) (omega arith)
run_in done b c (suc n) h =
    ap (λ (d : Draft). foldl put d (replicate n (clean b))) (put-more done b c (omega arith))
    ∙ run_in done b (suc c) n (omega arith)
    ∙ ap (λ (k : ℕ). draft done b k []) (omega arith)

-- a run that one marker can hold takes at most one word, and then no dirty word is taken
Light : Draft → Draft → Type 0
Light d e = (size e ≤ size d + 1) × (taken e ≡ 0)

run-any : (d : Draft) (b n : ℕ) → suc n ≤ most_clean → Light d (foldl put d (replicate (suc n) (clean b)))
unfolding Light
run-any d b zero h = put-clean d b
run-any d b (suc n) h = go (put-either d b) (run-any (put d (clean b)) b n (omega arith))
  where
    rest : List Segment
    rest = replicate (suc n) (clean b)

    go : (size (put d (clean b)) ≡ size d) ⊎ (put d (clean b) ≡ draft (body d) b 1 [])
        → Light (put d (clean b)) (foldl put (put d (clean b)) rest)
        → Light d (foldl put (put d (clean b)) rest)
    go (inl e) ih = (omega arith, ih.1)
    go (inr e) ih =
        subst (λ (z : Draft). Light d z)
        (sym (ap (λ (z : Draft). foldl put z rest) e ∙ run_in (body d) b 1 (suc n) (omega arith)))
        (unfold size taken in (omega (arith, size-draft (body d) b (1 + suc n) []), refl))

-- ---- what follows holds of any body, whatever its dirty words stand for

-- The segments ss cost a draft at most n words, if it has room for k dirty words; and else at most one word more
record Cheap (k n : ℕ) (ss : List Segment) : Type 0 where
  room : (d : Draft) → taken d + k ≤ most_dirty → size (foldl put d ss) ≤ size d + n
  any : (d : Draft) → size (foldl put d ss) ≤ size d + n + 1

cheap-nil : (k : ℕ) → Cheap k 0 []
cheap-nil k = record { room = λ d h. omega arith; any = λ d. omega arith }

cheap-dirty : (k n : ℕ) (s : Segment) (ss : List Segment) → suc k ≤ most_dirty → Cheap k n ss → Cheap (suc k) (suc n) (s ∷ ss)
cheap-dirty k n (clean b) ss h c = record {
  room = λ d r. let p = put-clean d b in omega (arith, c.room (put d (clean b)) (omega arith));
  any = λ d. let p = put-clean d b in omega (arith, c.any (put d (clean b)));
}
cheap-dirty k n (mixed x) ss h c = record { room = room; any = any }
  where
    room : (d : Draft) → taken d + suc k ≤ most_dirty → size (foldl put (put d (mixed x)) ss) ≤ size d + suc n
    room d r = let p = put-room d x (omega arith) in omega (arith, c.room (put d (mixed x)) (omega arith))

    any : (d : Draft) → size (foldl put (put d (mixed x)) ss) ≤ size d + suc n + 1
    any d = elim (dec_le most_dirty (taken d)) [
      | yes g ↦ let p = put_full d x g in omega (arith, c.room (put d (mixed x)) (omega arith))
      | no g ↦ let p = put-room d x (omega arith) in omega (arith, c.any (put d (mixed x)))
    ]

cheap-run : (k n b m : ℕ) (ss : List Segment) → m ≤ most_clean → k ≤ most_dirty → Cheap k n ss → Cheap 0 (suc n) (replicate m (clean b) ++ ss)
cheap-run k n b m ss hm hk c = record { room = λ d r. main m hm d; any = λ d. omega (arith, main m hm d) }
  where
    main : (m : ℕ) → m ≤ most_clean → (d : Draft) → size (foldl put d (replicate m (clean b) ++ ss)) ≤ size d + suc n
    main zero h d = omega (arith, c.any d)
    main (suc m) h d =
        let p = run-any d b m h in
        rw (foldl-append put d (replicate (suc m) (clean b)) ss)
        (unfold Light in omega (arith, c.room (foldl put d (replicate (suc m) (clean b))) (omega arith)))

-- ---- the body's own words, read front to back

-- The segments ss are a reading of the words b, of which the first `due` are dirty. A dirty word may stand for any segment
pub data Reads : ℕ → List ℕ → List Segment → Type 0 where
  over : {due : ℕ} → Reads due [] []
  marked : (m : ℕ) {ws : List ℕ} {ss : List Segment} → Reads (dirty_of m) ws ss → Reads 0 (m ∷ ws) (replicate (clean_of m) (clean (value_of m)) ++ ss)
  dirty : {due : ℕ} (w : ℕ) (s : Segment) {ws : List ℕ} {ss : List Segment} → Reads due ws ss → Reads (suc due) (w ∷ ws) (s ∷ ss)

reads-cheap : {due : ℕ} {b : List ℕ} {ss : List Segment} → Reads due b ss → due ≤ most_dirty → Cheap due (length b) ss
reads-cheap (over {due}) h = cheap-nil due
reads-cheap (marked m {ws} {ss} r) h =
    cheap-run (dirty_of m) (length ws) (value_of m) (clean_of m) ss (unfold clean_of in omega arith) (unfold dirty_of in omega arith)
    (reads-cheap r (unfold dirty_of in omega arith))
reads-cheap (dirty {due} w s {ws} {ss} r) h = cheap-dirty due (length ws) s ss h (reads-cheap r (omega arith))

-- No body with such a reading has fewer words than the canonical form
pub least-reads : (b : List ℕ) (ss : List Segment) → Reads 0 b ss → length (ewah_of ss) ≤ length b
unfolding ewah_of size
least-reads b ss r = omega (arith, (reads-cheap r (omega arith)).room blank (unfold taken in omega arith))

-- what is seen of a body's segments is a reading of it, for any number of rows
decode-reads : (R due : ℕ) (b : List ℕ) → Reads due b (seen 32 R (decode due b))
unfolding decode
decode-reads R due [] = unfold seen cut kinds in over
decode-reads R zero (m ∷ ws) =
    rw (seen-run 32 R (omega arith) (clean_of m) (value_of m) (decode (dirty_of m) ws) (unfold value_of in omega arith)) (marked m (decode-reads R (dirty_of m) ws))
decode-reads R (suc due) (w ∷ ws) = let s = seen-word 32 R (omega arith) w (decode due ws) in rw s.1 (dirty w s.0 (decode-reads R due ws))

-- No body with these segments has fewer words
pub least : (R : ℕ) (b : List ℕ) → length (ewah_of (seen 32 R (segments b))) ≤ length b
least R b = least-reads b (seen 32 R (segments b)) (decode-reads R 0 b)

-- ---- what one step adds

pub put_two : (d : Draft) (s : Segment) → size (put d s) ≤ size d + 2
put_two d (clean b) = omega (arith, (put-clean d b).0)
put_two d (mixed x) = elim (dec_le most_dirty (taken d)) [ yes g ↦ omega (arith, (put_full d x g).0) | no g ↦ omega (arith, (put-room d x (omega arith)).0) ]

pub segment-adds : (d : Draft) (s : Segment) → length (body (put d s)) ≤ length (body d) + 2
segment-adds d s = unfold size in put_two d s

put-grows : (d : Draft) (s : Segment) → size d ≤ size (put d s)
put-grows d (clean b) = go (put-either d b)
  where
    go : (size (put d (clean b)) ≡ size d) ⊎ (put d (clean b) ≡ draft (body d) b 1 []) → size d ≤ size (put d (clean b))
    go (inl e) = omega arith
    go (inr e) = rw e (unfold size in omega (arith, size-draft (body d) b 1 []))
put-grows d (mixed x) = elim (dec_le most_dirty (taken d)) [ yes g ↦ omega (arith, (put_full d x g).0) | no g ↦ omega (arith, (put-room d x (omega arith)).0) ]

segment-grows : (d : Draft) (s : Segment) → length (body d) ≤ length (body (put d s))
segment-grows d s = unfold size in put-grows d s

-- no draft grows shorter
pub puts-grow : (d : Draft) (ss : List Segment) → length (body d) ≤ length (body (foldl put d ss))
puts-grow d [] = omega arith
puts-grow d (s ∷ ss) = omega (arith, segment-grows d s, puts-grow (put d s) ss)

pub puts-add : (d : Draft) (ss : List Segment) → length (body (foldl put d ss)) ≤ length (body d) + 2 * length ss
puts-add d [] = omega arith
puts-add d (s ∷ ss) = omega (arith, segment-adds d s, puts-add (put d s) ss)

-- a new marker is paid for by the most dirty words of the one before it, or by a clean segment
step-pays : (d : Draft) (s : Segment) → most_dirty * size (put d s) + taken (put d s) ≤ most_dirty * size d + taken d + (most_dirty + 1)
step-pays d (clean b) = let p = put-clean d b in omega arith
step-pays d (mixed x) = elim (dec_le most_dirty (taken d)) [
  | yes g ↦ let p = put_full d x g in omega arith
  | no g ↦ let p = put-room d x (omega arith) in omega arith
]

steps-pay : (d : Draft) (ss : List Segment)
    → most_dirty * size (foldl put d ss) + taken (foldl put d ss) ≤ most_dirty * size d + taken d + (most_dirty + 1) * length ss
steps-pay d [] = omega arith
steps-pay d (s ∷ ss) = omega (arith, step-pays d s, steps-pay (put d s) ss)

-- no more words than segments, and one for each whole 32,767 of them, and one
pub most-words : (ss : List Segment) → most_dirty * length (body (foldl put blank ss)) ≤ (most_dirty + 1) * length ss + most_dirty
unfolding size taken body
most-words ss = omega (arith, steps-pay blank ss)

pub most-words-div : (ss : List Segment) → length (ewah_of ss) ≤ length ss + length ss / most_dirty + 1
unfolding ewah_of
most-words-div ss = omega (arith, most-words ss)

pub run-adds : (d : Draft) (v n : ℕ) → n ≤ most_clean → length (body (foldl put d (replicate n (clean v)))) ≤ length (body d) + 1
run-adds d v zero h = omega arith
run-adds d v (suc n) h = unfold Light size in (run-any d v n h).0

-- a run that one marker can hold, and any segment after it
pub run-then-two : (d : Draft) (b n : ℕ) (s : Segment) → suc n ≤ most_clean → size (put (foldl put d (replicate (suc n) (clean b))) s) ≤ size d + 2
unfolding Light
run-then-two d b n (clean v) h = let p = run-any d b n h in omega (arith, (put-clean (foldl put d (replicate (suc n) (clean b))) v).0)
run-then-two d b n (mixed x) h = let p = run-any d b n h in omega (arith, (put-room (foldl put d (replicate (suc n) (clean b))) x (omega arith)).0)
