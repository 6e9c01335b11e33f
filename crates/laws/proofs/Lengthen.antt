-- EWAH's canonical body never gets shorter as rows come.
-- Assumes nothing.
use Prim.Native.Nat.{ℕ, ◌+◌, ◌-◌, ◌*◌, ◌/◌, ◌%◌, ◌^◌, ◌≤◌, ◌<◌}
use mathlib.Core.Bool.{Bool, true, false, cond, ◌&&◌}
use mathlib.Core.Path.{◌≡◌, refl, sym, ap, ap₂, ◌∙◌}
use mathlib.Core.List.{List, foldl}
use lib.Dec.{eqb, ltb}
use lib.ListN.{length, get_or, take, length-take}
use lib.Seq.{ext_get_or, get_or-take, take_all}
use native.Mathlib.Nat.{mod-eq_of_lt, zero-mod}
use native.Mathlib.Decide.{dec_le}
use native.Mathlib.Omega.{arith}
use borrow.Author.Tests.{lt-ltb, le-ltb, eqb-true}
use Rattle.meaning.specs.Limits.{most_dirty}
use Rattle.meaning.specs.Segment.{Segment, clean, mixed, kind, fill, all_set, kinds, rows_in, segment_count, word_of, from_rows}
use Rattle.meaning.specs.Canonical.{Draft, blank, body, put, ewah_of}
use Rattle.meaning.specs.Format.{canonical}
use Rattle.meaning.specs.declared.Format.TheVariants.{Ewah}
use Rattle.laws.proofs.RowWords.{word-ext, word-short, get_d_tabulate, from-length}
use Rattle.laws.proofs.Segments.{ones_low, kind-full, kinds-length}
use Rattle.laws.proofs.Cut.{kinds-at}
use Rattle.laws.proofs.Least.{size, taken, put-clean, put-room, put_full}
use Rattle.laws.proofs.Prefixes.{up_to, up_to-more, up_to-within}
use Rattle.laws.proofs.WordJoin.{word_low}

-- the word of segment i of R rows
abbrev cell : ℕ → (ℕ → Bool) → ℕ → ℕ
cell R p i = word_of 32 (λ j. ltb (i * 32 + j) R && p (i * 32 + j))

from_at : (R : ℕ) (p : ℕ → Bool) (i : ℕ) → i < segment_count 32 R → get_or (from_rows 32 R p) i 0 ≡ cell R p i
unfolding from_rows
from_at R p i h = get_d_tabulate (segment_count 32 R) (cell R p) i h

-- segment i of the rows, as it is put
segment-at : (R : ℕ) (p : ℕ → Bool) (i : ℕ) (s : Segment) → i < segment_count 32 R
    → get_or (kinds 32 R (from_rows 32 R p)) i s ≡ kind (rows_in 32 R i) (cell R p i)
segment-at R p i s h =
    kinds-at 32 (omega arith) R (from_rows 32 R p) i s (from-length 32 (omega arith) R p) h
    ∙ ap (λ (x : ℕ). kind (rows_in 32 R i) x) (from_at R p i h)

segments-length : (R : ℕ) (p : ℕ → Bool) → length (kinds 32 R (from_rows 32 R p)) ≡ segment_count 32 R
segments-length R p = kinds-length 32 R (from_rows 32 R p) ∙ from-length 32 (omega arith) R p

-- ---- one segment that gets more rows

-- any two mixed segments cost the same, and a clean one no more
mixed-same : (d : Draft) (x y : ℕ) → size (put d (mixed x)) ≤ size (put d (mixed y))
mixed-same d x y = elim (dec_le most_dirty (taken d)) [
  | yes g ↦ omega (arith, (put_full d x g).0, (put_full d y g).0)
  | no g ↦ omega (arith, (put-room d x (omega arith)).0, (put-room d y (omega arith)).0)
]

clean-least : (d : Draft) (v y : ℕ) → size (put d (clean v)) ≤ size (put d (mixed y))
clean-least d v y = elim (dec_le most_dirty (taken d)) [
  | yes g ↦ omega (arith, (put-clean d v).0, (put_full d y g).0)
  | no g ↦ omega (arith, (put-clean d v).0, (put-room d y (omega arith)).0)
]

kind-least : (d : Draft) (real x y : ℕ) → size (put d (kind real x)) ≤ size (put d (mixed y))
unfolding kind
kind-least d real x y = go (eqb x 0) (eqb x (all_set real))
  where
    go : (s t : Bool) → size (put d (cond s (clean 0) (cond t (clean 1) (mixed x)))) ≤ size (put d (mixed y))
    go true t = clean-least d 0 y
    go false true = clean-least d 1 y
    go false false = mixed-same d x y

-- x is y without its last rows: of a clean segment the first rows are clean, and of the same value
segment-grows : (d : Draft) (a b x y : ℕ) → 0 < a → a ≤ b → x ≡ y % 2 ^ a
    → size (put d (kind a x)) ≤ size (put d (kind b y))
unfolding kind all_set fill
segment-grows d a b x y pos le e = go (eqb y 0) (eqb y (2 ^ b - 1)) refl refl
  where
    zeros : y ≡ 0 → kind a x ≡ clean 0
    zeros h = ap (kind a) (e ∙ ap (λ (n : ℕ). n % 2 ^ a) h ∙ zero-mod (2 ^ a))

    ones : y ≡ 2 ^ b - 1 → kind a x ≡ clean 1
    ones h = ap (kind a) (e ∙ ap (λ (n : ℕ). n % 2 ^ a) h ∙ ones_low a b le) ∙ kind-full a pos

    go : (s t : Bool) → eqb y 0 ≡ s → eqb y (2 ^ b - 1) ≡ t
        → size (put d (kind a x)) ≤ size (put d (cond s (clean 0) (cond t (clean 1) (mixed y))))
    go true t h k = omega (arith, ap (λ (s : Segment). size (put d s)) (zeros (eqb-true y 0 h)))
    go false true h k = omega (arith, ap (λ (s : Segment). size (put d s)) (ones (eqb-true y (2 ^ b - 1) k)))
    go false false h k = kind-least d a x y

-- ---- all of them

module _ (R k : ℕ) (p q : ℕ → Bool) (same : (r : ℕ) → r < R → p r ≡ q r) where
  abbrev A : List Segment
  A = kinds 32 R (from_rows 32 R p)

  abbrev B : List Segment
  B = kinds 32 (R + k) (from_rows 32 (R + k) q)

  abbrev n : ℕ
  n = R / 32

  -- the bits of segment i that are rows agree
  low-agree : (i m : ℕ) → i * 32 + m ≤ R → m ≤ 32
      → word_of m (λ j. ltb (i * 32 + j) R && p (i * 32 + j)) ≡ word_of m (λ j. ltb (i * 32 + j) (R + k) && q (i * 32 + j))
  low-agree i m h g =
      word-ext m (λ j. ltb (i * 32 + j) R && p (i * 32 + j)) (λ j. ltb (i * 32 + j) (R + k) && q (i * 32 + j))
      (λ j l. rw (lt-ltb (i * 32 + j) R (omega arith), lt-ltb (i * 32 + j) (R + k) (omega arith)) (same (i * 32 + j) (omega arith)))

  -- the whole segments of the first R rows stay
  pub front_same : take (R / 32) (kinds 32 R (from_rows 32 R p)) ≡ take (R / 32) (kinds 32 (R + k) (from_rows 32 (R + k) q))
  unfolding rows_in segment_count
  front_same =
      ext_get_or (clean 0) (take (R / 32) A) (take (R / 32) B)
      (omega (arith, length-take (R / 32) A, length-take (R / 32) B, segments-length R p, segments-length (R + k) q))
      (λ i h. let l : i < R / 32 = omega (arith, length-take (R / 32) A) in
      get_or-take (R / 32) A i (clean 0) l
      ∙ segment-at R p i (clean 0) (omega arith)
      ∙ ap₂ (λ (a x : ℕ). kind a x) (omega arith) (low-agree i 32 (omega arith) (omega arith))
      ∙ sym (segment-at (R + k) q i (clean 0) (omega arith))
      ∙ sym (get_or-take (R / 32) B i (clean 0) l))

  -- of the segment that is filled only in part, where there is one
  last-cell : cell R p (R / 32) ≡ cell (R + k) q (R / 32) % 2 ^ (R % 32)
  last-cell =
      let m = R % 32 in
      let i = R / 32 in
      let e : m + (32 - m) ≡ 32 = omega arith in
      let old : ℕ → Bool = λ j. ltb (i * 32 + j) R && p (i * 32 + j) in
      let new : ℕ → Bool = λ j. ltb (i * 32 + j) (R + k) && q (i * 32 + j) in
      let short : cell R p i < 2 ^ m = word-short 32 m old (λ j h. rw (le-ltb (i * 32 + j) R (omega arith))) in
      let a : cell R p i % 2 ^ m ≡ word_of m old = rw e at (word_low m (32 - m) old) in
      let b : cell (R + k) q i % 2 ^ m ≡ word_of m new = rw e at (word_low m (32 - m) new) in
      sym (mod-eq_of_lt short) ∙ a ∙ low-agree i m (omega arith) (omega arith) ∙ sym b

  pub never-shorter : length (canonical Ewah R p) ≤ length (canonical Ewah (R + k) q)
  unfolding canonical ewah_of rows_in segment_count size
  never-shorter = elim (dec_le 1 (R % 32)) [ yes g ↦ part g | no g ↦ even (omega arith) ]
    where
      even : R % 32 ≡ 0 → length (body (foldl put blank A)) ≤ length (body (foldl put blank B))
      even z =
          let c : length A ≤ n = omega (arith, segments-length R p) in
          omega (arith, ap (λ (l : List Segment). length (body (foldl put blank l))) (sym (take_all n A c) ∙ front_same), up_to-within B n)

      part : 1 ≤ R % 32 → length (body (foldl put blank A)) ≤ length (body (foldl put blank B))
      part g =
          let m = rows_in 32 (R + k) n in
          let d : Draft = up_to B n in
          let same-draft : up_to A n ≡ d = ap (λ (l : List Segment). foldl put blank l) front_same in
          let end-a : get_or A n (clean 0) ≡ kind (R % 32) (cell R p n) =
          (segment-at R p n (clean 0) (omega arith) ∙ ap (λ (a : ℕ). kind a (cell R p n)) (omega arith)) in
          let end-b : get_or B n (clean 0) ≡ kind m (cell (R + k) q n) = segment-at (R + k) q n (clean 0) (omega arith) in
          let put_a = up_to-more A n (clean 0) (omega (arith, segments-length R p)) ∙ ap₂ put same-draft end-a in
          let put_b = up_to-more B n (clean 0) (omega (arith, segments-length (R + k) q)) ∙ ap (put d) end-b in
          let all-a : body (up_to A (n + 1)) ≡ body (foldl put blank A) =
          ap (λ (l : List Segment). body (foldl put blank l)) (take_all (n + 1) A (omega (arith, segments-length R p))) in
          omega (
            arith,
            ap length all-a,
            ap (λ (e : Draft). length (body e)) put_a,
            ap (λ (e : Draft). length (body e)) put_b,
            segment-grows d (R % 32) m (cell R p n) (cell (R + k) q n) g (omega arith) last-cell,
            up_to-within B (n + 1),
          )
