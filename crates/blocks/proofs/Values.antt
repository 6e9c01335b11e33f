-- The words of a list's places at one segment: which of its rows exist, and which number each of them has.
-- Assumes nothing.
use Prim.Native.Nat.{ℕ, zero, suc, ◌+◌, ◌*◌, ◌^◌, ◌≤◌, ◌<◌}
use mathlib.Core.Bool.{Bool, true, false, cond}
use mathlib.Core.Path.{◌≡◌, refl, sym, ap, ◌∙◌}
use mathlib.Core.List.{List, [], ◌∷◌}
use lib.ListN.{length, get_or, replicate, length-replicate, get_or-replicate, get_or-eq_default}
use native.Mathlib.Nat.{pow-suc, zero-mul}
use native.Mathlib.Omega.{arith}
use native.Mathlib.Decide.{dec_le}
use Rattle.meaning.specs.Rows.{bit, sum_below, none}
use Rattle.meaning.specs.Segment.{bit_at, is_set}
use Rattle.meaning.specs.Format.{width, segments_of}
use Rattle.meaning.specs.Index.{format_of, rows_at}
use Rattle.meaning.specs.Answer.{named}
use Rattle.column_meaning.specs.Column.{value_of}
use Rattle.column_meaning.specs.Columns.{existing, slices_of, value_at}
use Rattle.meaning.specs.Limits.{block_segments}
use Rattle.laws.proofs.Sums.{sum-zero, sum_first}
use Rattle.laws.proofs.Counting.{zero_clear}
use Rattle.laws.proofs.NamedBitmaps.{named-at, named-length}
use Rattle.words.proofs.BitLaws.{bit-set}
use Rattle.adder.specs.Digits.{number_at}
use Rattle.block_read.specs.Taken.{word_at}
use Rattle.walk.specs.Queries.{place_body}
use Rattle.merge.proofs.Stretched.{row-bit}
use Rattle.blocks.specs.Blocks.{BlockOf}

-- ---- a value's digits

scale : (n : ℕ) (f : ℕ → ℕ) → sum_below n (λ i. f i * 2 ^ suc i) ≡ 2 * sum_below n (λ i. f i * 2 ^ i)
unfolding sum_below
scale zero f = refl
scale (suc n) f =
    let p : f n * 2 ^ suc n ≡ 2 * (f n * 2 ^ n) = rw (pow-suc 2 n) (omega arith) in omega (arith, scale n f, p)

-- the value of a row by its digits f, of which those past the slices are 0
value-digits : (ps : List (ℕ → Bool)) (r n : ℕ) (f : ℕ → ℕ) → length ps ≤ n
    → ((i : ℕ) → i < length ps → bit (get_or ps i none r) ≡ f i)
    → ((i : ℕ) → length ps ≤ i → f i ≡ 0) → value_of ps r ≡ sum_below n (λ i. f i * 2 ^ i)
unfolding value_of
value-digits [] r n f h g z =
    sym (sum-zero n (λ i. f i * 2 ^ i) (λ i l. ap (λ (k : ℕ). k * 2 ^ i) (z i (omega arith)) ∙ zero-mul (2 ^ i)))
value-digits (p ∷ ps) r zero f h g z = absurd (omega arith)
value-digits (p ∷ ps) r (suc n) f h g z =
    let rest =
    value-digits ps r n (λ i. f (suc i)) (omega arith)
    (λ i l. g (suc i) (omega arith)) (λ i l. z (suc i) (omega arith)) in
    omega (arith, rest, g 0 (omega arith), sum_first n (λ i. f i * 2 ^ i), scale n (λ i. f (suc i)))

-- ---- one column

-- the number that the words behind the first have at bit j
abbrev pub number_of : (ws : ℕ → ℕ) (n j : ℕ) → ℕ
number_of ws n j = sum_below n (λ i. bit_at (ws (i + 1)) j * 2 ^ i)

-- ws k is the word of place k of a list at segment s, and 0 past the list
pub record WordsAt (index list : List ℕ) (s : ℕ) (ws : ℕ → ℕ) : Type 0 where
  pub has : (k : ℕ) → k < length list → ws k ≡ get_or (segments_of (format_of index) (place_body index list k)) s 0
  pub rest : (k : ℕ) → length list ≤ k → ws k ≡ 0

module _ (index : List ℕ) (s j : ℕ) (low : j < width (format_of index)) where
  abbrev r : ℕ
  r = s * width (format_of index) + j

  place-bit : (list : List ℕ) (ws : ℕ → ℕ) → WordsAt index list s ws → (k : ℕ) → k < length list
      → rows_at index (get_or list k 0) r ≡ is_set (ws k) j
  unfolding rows_at
  place-bit list ws w k h =
      row-bit (format_of index) (place_body index list k) s j low ∙ ap (λ (x : ℕ). is_set x j) (sym (w.has k h))

  pub exists-bit : (list : List ℕ) (ws : ℕ → ℕ) → WordsAt index list s ws → 1 ≤ length list
      → existing index list r ≡ is_set (ws 0) j
  unfolding existing
  exists-bit [] ws w h = absurd (omega arith)
  exists-bit (k ∷ ks) ws w h = place-bit (k ∷ ks) ws w 0 (omega arith)

  pub value-number : (list : List ℕ) (ws : ℕ → ℕ) (n : ℕ) → WordsAt index list s ws → 1 ≤ length list
      → length list ≤ n + 1 → value_at index list r ≡ number_of ws n j
  unfolding value_at slices_of
  value-number [] ws n w h l = absurd (omega arith)
  value-number (k ∷ ks) ws n w h l =
      let many : length (named index ks) ≡ length ks = named-length index ks in
      value-digits (named index ks) r n (λ i. bit_at (ws (i + 1)) j) (omega arith)
      (λ i g. ap (λ (p : ℕ → Bool). bit (p r)) (named-at index ks i (omega arith)) ∙ ap bit (has i (omega arith))
      ∙ sym (bit-set (ws (i + 1)) j))
      (λ i g. bit-set (ws (i + 1)) j ∙ ap bit (ap (λ (x : ℕ). is_set x j) (w.rest (i + 1) (omega arith)) ∙ zero_clear j))
    where
      has : (i : ℕ) → i < length ks → rows_at index (get_or ks i 0) r ≡ is_set (ws (i + 1)) j
      has i g = let e : i + 1 ≡ suc i = omega arith in rw e (place-bit (k ∷ ks) ws w (suc i) (omega arith))

-- ---- the words of a block

-- the place in its row of the word of segment i
abbrev pub place : (even : Bool) (i : ℕ) → ℕ
place even i = cond even 0 i

pub place-low : (even : Bool) (i n : ℕ) → i < n → (even ≡ false → n ≤ block_segments) → place even i < block_segments
place-low true i n h g = omega arith
place-low false i n h g = omega (arith, g refl)

-- a block before anything is gathered
pub zeros : (n i : ℕ) → get_or {A = ℕ} (replicate n 0) i 0 ≡ 0
zeros n i = elim (dec_le (suc i) n) [
  | yes l ↦ get_or-replicate {A = ℕ} n i 0 0 l
  | no l ↦ get_or-eq_default {A = ℕ} (replicate n 0) 0 (omega (arith, length-replicate {A = ℕ} n 0))
]

-- the words of all places at one segment
pub words-at : {index list x : List ℕ} {o n : ℕ} {even : Bool} → BlockOf index list o n even x → (i : ℕ) → i < n
    → WordsAt index list (o + i) (λ k. word_at even x (k * block_segments) i)
words-at {even = even} b i h = record {
  has = λ k l. b.has k i l h;
  rest = λ k l. unfold word_at in b.rest (k * block_segments + place even i) (omega arith);
}

-- their number is the adder's
pub number_same : (x : List ℕ) (even : Bool) (n i j : ℕ)
    → number_of (λ k. word_at even x (k * block_segments) i) n j ≡ number_at x n (place even i) j
unfolding word_at number_at
number_same x even n i j = refl
