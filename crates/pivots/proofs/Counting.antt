-- The set rows of segments are the set bits of their words: of the first so many segments, and of a part of the next.
-- Of the last segment a mask leaves the rows.
-- Assumes nothing.
use Prim.Native.Nat.{ℕ, zero, suc, ◌+◌, ◌-◌, ◌*◌, ◌%◌, ◌^◌, ◌≤◌, ◌<◌, min}
use mathlib.Core.Bool.{Bool, true, false}
use mathlib.Core.Path.{◌≡◌, sym, ap, ap₂, ◌∙◌}
use mathlib.Core.List.{List}
use lib.Bits.{bit_and, and_mask}
use lib.Dec.{eqb}
use lib.ListN.{length, get_or, take, drop, set}
use lib.Pow.{pow_pos, pow_mono}
use lib.Seq.{get_or-set_same, get_or-set_other}
use native.Mathlib.Nat.{add-mul, mod-lt, mul-le-mul_left, suc-mul, zero-add, zero-mul}
use native.Mathlib.Omega.{arith}
use Rattle.meaning.specs.Limits.{most_segments}
use Rattle.meaning.specs.Rows.{sum_below, count_below}
use Rattle.meaning.specs.Segment.{all_set, bit_at, is_set, ones, rows_in, segment_count}
use Rattle.meaning.specs.Format.{width}
use Rattle.meaning.specs.declared.Format.{Format}
use Rattle.laws.proofs.Counting.{count_add, count-ext, ones-block}
use Rattle.laws.proofs.Cut.{bit_below, rows-le}
use Rattle.laws.proofs.Formats.{width-le, width-pos}
use Rattle.laws.proofs.RowWords.{begins}
use Rattle.laws.proofs.Sums.{sum-ext}
use Rattle.words.proofs.BitLaws.{ones-count}
use Rattle.block_read.specs.Taken.{word_at}
use Rattle.pivots.specs.Splits.{HasRows}

-- ---- the set bits of a word

-- a word of k bits has none above them
short-count : (k x : ℕ) → k ≤ 32 → x < 2 ^ k → count_below 32 (is_set x) ≡ count_below k (is_set x)
short-count k x h l =
    let wide : x < 2 ^ 32 = omega (arith, pow_mono h) in
    sym (ones-count 32 x wide) ∙ ones-count k x l

-- of a word under a mask of k ones those of its k lowest bits are left
masked-count : (k x : ℕ) → k ≤ 32 → count_below 32 (is_set (bit_and x (all_set k))) ≡ count_below k (is_set x)
unfolding all_set is_set bit_at
masked-count k x h =
    ap (λ (y : ℕ). count_below 32 (is_set y)) (and_mask x k)
    ∙ short-count k (x % 2 ^ k) h (mod-lt x (pow_pos k))
    ∙ count-ext k (is_set (x % 2 ^ k)) (is_set x) (λ j l. ap (λ (b : ℕ). eqb b 1) (bit_below x j k l))

-- the set bits of a run fit a machine word, with room for another word's
pub run_fits : (n c : ℕ) → n ≤ most_segments → c ≤ 32 → (n - 1) * c < 2 ^ 31
run_fits n c h l = omega (arith, mul-le-mul_left (n - 1) l)

-- ---- the set rows of segments

-- how many bits of word i of a row are set
abbrev pub set_word : (even : Bool) (ws : List ℕ) (i : ℕ) → ℕ
set_word even ws i = count_below 32 (is_set (word_at even ws 0 i))

-- of a run word i is the first, of other segments it is their own
first_word : (even : Bool) (ws : List ℕ) (i : ℕ) → even ≡ true → word_at even ws 0 i ≡ get_or ws 0 0
unfolding word_at
first_word even ws i e = rw e

pub own-word : (even : Bool) (ws : List ℕ) (i : ℕ) → even ≡ false → word_at even ws 0 i ≡ get_or ws i 0
unfolding word_at
own-word even ws i e = rw (e, zero-add i)

-- n times the same
sum_same : (n : ℕ) (f : ℕ → ℕ) (c : ℕ) → ((i : ℕ) → f i ≡ c) → sum_below n f ≡ n * c
unfolding sum_below
sum_same zero f c h = sym (zero-mul c)
sum_same (suc n) f c h = rw (suc-mul n c) (omega (arith, sum_same n f c h, h n))

-- the others, and the last
sum-last : (n : ℕ) (f : ℕ → ℕ) → 1 ≤ n → sum_below n f ≡ sum_below (n - 1) f + f (n - 1)
unfolding sum_below
sum-last zero f h = absurd (omega arith)
sum-last (suc n) f h = let e : suc n - 1 ≡ n = omega arith in rw e

-- the set bits of n words of which the last was replaced
cut_ones : (even : Bool) (ws : List ℕ) (n y : ℕ) → 1 ≤ n → n ≤ length ws → even ≡ false
    → ones 32 (take (n - 0) (drop 0 (set ws (n - 1) y))) ≡ sum_below (n - 1) (set_word even ws) + count_below 32 (is_set y)
cut_ones even ws n y h m e =
    let same : n - 0 ≡ n = omega arith in
    ap (λ (k : ℕ). ones 32 (take k (drop 0 l))) same
    ∙ ones-block 32 l 0 n
    ∙ sum-last n (λ i. count_below 32 (is_set (get_or l (0 + i) 0))) h
    ∙ ap₂ (λ (i j : ℕ). i + j)
    (sum-ext (n - 1) (λ i. count_below 32 (is_set (get_or l (0 + i) 0))) (set_word even ws)
    (λ i g. ap (λ (x : ℕ). count_below 32 (is_set x))
    (ap (λ (k : ℕ). get_or l k 0) (zero-add i)
    ∙ get_or-set_other ws (n - 1) i y 0 (omega arith)
    ∙ sym (own-word even ws i e))))
    (ap (λ (x : ℕ). count_below 32 (is_set x))
    (ap (λ (k : ℕ). get_or l k 0) (zero-add (n - 1)) ∙ get_or-set_same ws (n - 1) y 0 (omega arith)))
  where
    l : List ℕ
    l = set ws (n - 1) y

module _ {F : Format} {o n : ℕ} {even : Bool} {ws : List ℕ} {p : ℕ → Bool} (h : HasRows F o n even ws p) where
  abbrev w : ℕ
  w = width F

  -- the rows from segment o on
  abbrev q : ℕ → Bool
  q k = p (o * w + k)

  -- the rows up to segment i, and the first j of that segment
  next-rows : (i j : ℕ) → i < n → j ≤ w
      → count_below (i * w + j) q ≡ count_below (i * w) q + count_below j (is_set (word_at even ws 0 i))
  next-rows i j l m =
      count_add (i * w) j q
      ∙ ap (λ (c : ℕ). count_below (i * w) q + c) (count-ext j (λ r. q (i * w + r)) (is_set (word_at even ws 0 i)) same)
    where
      same : (r : ℕ) → r < j → q (i * w + r) ≡ is_set (word_at even ws 0 i) r
      same r g =
          let e : o * w + (i * w + r) ≡ (o + i) * w + r = omega (arith, add-mul o i w) in
          ap p e ∙ sym (h.bits i r l (omega arith))

  -- the set rows of the first i segments
  pub whole-count : (i : ℕ) → i ≤ n → count_below (i * width F) (λ k. p (o * width F + k)) ≡ sum_below i (set_word even ws)
  unfolding sum_below count_below
  whole-count zero l = rw (zero-mul w)
  whole-count (suc i) l =
      rw (suc-mul i w)
      (omega (
        arith,
        next-rows i w l (omega arith),
        whole-count i (omega arith),
        short-count w (word_at even ws 0 i) (width-le F) (h.low i l),
      ))

  -- and of the first j rows of the next
  pub part_count : (i j : ℕ) → i < n → j ≤ width F
      → count_below (i * width F + j) (λ k. p (o * width F + k))
      ≡ sum_below i (set_word even ws) + count_below j (is_set (word_at even ws 0 i))
  part_count i j l m = omega (arith, next-rows i j l m, whole-count i (omega arith))

  -- the last of n segments may have fewer than w rows: the set rows up to its end are those before segment o, the set
  -- bits of the first n - 1 words, and those that the mask leaves of the last
  rows-counted : (R : ℕ) → 1 ≤ n → o + n ≤ segment_count (width F) R
      → count_below (min ((o + n) * width F) R) p
      ≡ count_below (min (o * width F) R) p
      + (sum_below (n - 1) (set_word even ws)
      + count_below 32 (is_set (bit_and (word_at even ws 0 (n - 1)) (all_set (rows_in (width F) R (o + n - 1))))))
  unfolding rows_in
  rows-counted R s l =
      let m = n - 1 in
      let k = rows_in w R (o + n - 1) in
      let k-le : k ≤ w = rows-le w (width-pos F) R (o + n - 1) in
      let e : o + n - 1 ≡ o + m = omega arith in
      let b : (o + m) * w < R = begins w (width-pos F) R (o + m) (omega arith) in
      let d : (o + m) * w ≡ o * w + m * w = add-mul o m w in
      let e' : o + n ≡ suc (o + m) = omega arith in
      let d' : (o + n) * w ≡ (o + m) * w + w = ap (λ (i : ℕ). i * w) e' ∙ suc-mul (o + m) w in
      let k-is : k ≡ min w (R - (o + m) * w) = ap (λ (i : ℕ). min w (R - i * w)) e in
      let end : min ((o + n) * w) R ≡ o * w + (m * w + k) = omega arith in
      let start : min (o * w) R ≡ o * w = omega arith in
      ap (λ (i : ℕ). count_below i p) end
      ∙ count_add (o * w) (m * w + k) p
      ∙ ap₂ (λ (i j : ℕ). count_below i p + j) (sym start)
      (part_count m k (omega arith) k-le
      ∙ ap (λ (i : ℕ). sum_below m (set_word even ws) + i)
      (sym (masked-count k (word_at even ws 0 m) (omega (arith, width-le F)))))

  -- in a run, whose words are all like the first
  pub run-counted : (R mask : ℕ) → 1 ≤ n → even ≡ true → mask ≡ all_set (rows_in (width F) R (o + n - 1))
      → o + n ≤ segment_count (width F) R
      → count_below (min ((o + n) * width F) R) p
      ≡ count_below (min (o * width F) R) p
      + ((n - 1) * count_below 32 (is_set (get_or ws 0 0)) + count_below 32 (is_set (bit_and (get_or ws 0 0) mask)))
  run-counted R mask s t g l =
      rows-counted R s l
      ∙ ap₂ (λ (i j : ℕ). count_below (min (o * w) R) p + (i + j))
      (sum_same (n - 1) (set_word even ws) (count_below 32 (is_set (get_or ws 0 0)))
      (λ i. ap (λ (x : ℕ). count_below 32 (is_set x)) (first_word even ws i t)))
      (ap₂ (λ (x y : ℕ). count_below 32 (is_set (bit_and x y))) (first_word even ws (n - 1) t) (sym g))

  -- in a block, whose last word was cut in place
  pub block-counted : (R mask : ℕ) → 1 ≤ n → n ≤ length ws → even ≡ false
      → mask ≡ all_set (rows_in (width F) R (o + n - 1)) → o + n ≤ segment_count (width F) R
      → count_below (min ((o + n) * width F) R) p
      ≡ count_below (min (o * width F) R) p
      + ones 32 (take (n - 0) (drop 0 (set ws (n - 1) (bit_and (get_or ws (n - 1) 0) mask))))
  block-counted R mask s m t g l =
      rows-counted R s l
      ∙ ap (λ (i : ℕ). count_below (min (o * w) R) p + i)
      (ap₂ (λ (x y : ℕ). sum_below (n - 1) (set_word even ws) + count_below 32 (is_set (bit_and x y)))
      (own-word even ws (n - 1) t) (sym g)
      ∙ sym (cut_ones even ws n (bit_and (get_or ws (n - 1) 0) mask) s m t))
