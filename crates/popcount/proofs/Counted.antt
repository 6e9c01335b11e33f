-- Set bits of vectors and of parts of a list of words, as sums of what each word has.
-- Assumes nothing.
use Prim.Native.Nat.{ℕ, zero, suc, ◌+◌, ◌-◌, ◌*◌, ◌^◌, ◌≤◌, ◌<◌}
use mathlib.Core.Path.{◌≡◌, refl, sym, ap, ◌∙◌}
use mathlib.Core.List.{List, []}
use lib.ListN.{length, get_or, take, drop, replicate, get_or-replicate}
use lib.Seq.{take-length, get_or-take, get_or-drop}
use Rattle.std.proofs.lemmas.List.{drop-drop}
use lib.ListN.{length-drop}
use native.Mathlib.Numerals.{add-one}
use native.Mathlib.Nat.{zero-add}
use native.Mathlib.Omega.{arith}
use Rattle.meaning.specs.Rows.{sum_below, count_below}
use Rattle.meaning.specs.Limits.{most_segments}
use Rattle.meaning.specs.Segment.{bit_at, is_set, ones}
use Rattle.laws.proofs.Counting.{count-le, zero-count, ones-block}
use Rattle.laws.proofs.Sums.{sum-ext, sum-zero, sum-join}
use Rattle.std.specs.Simd.{first_chunks}
use Rattle.words.specs.Sums.{Added, PartOf}
use Rattle.words.proofs.BitLaws.{bit-set}
use Rattle.popcount.specs.Counts.{lanes, pair_size, block_size, set_bits, set_in}

-- how many bits word w of a vector has set
abbrev pub set_at : (a : List ℕ) (w : ℕ) → ℕ
set_at a w = count_below 32 (is_set (get_or a w 0))

-- how many its first n words have
abbrev pub set_first : (a : List ℕ) (n : ℕ) → ℕ
set_first a n = sum_below n (set_at a)

-- one word more of any words
next-sum : (f : ℕ → ℕ) (n : ℕ) → sum_below (n + 1) f ≡ sum_below n f + f n
unfolding sum_below
next-sum f n = rw (add-one n)

-- none has more than 32
sum-most : (f : ℕ → ℕ) → ((i : ℕ) → f i ≤ 32) → (n : ℕ) → sum_below n f ≤ n * 32
unfolding sum_below
sum-most f h zero = omega arith
sum-most f h (suc n) = omega (arith, sum-most f h n, h n)

-- ---- a vector

pub first_next : (a : List ℕ) (n : ℕ) → set_first a (n + 1) ≡ set_first a n + set_at a n
first_next a n = next-sum (set_at a) n

pub first-le : (a : List ℕ) (n : ℕ) → set_first a n ≤ n * 32
first-le a n = sum-most (set_at a) (λ i. count-le 32 (is_set (get_or a i 0))) n

pub first-all : (a : List ℕ) → set_first a lanes ≡ set_bits a
unfolding set_bits
first-all a = refl

pub zeros-clear : set_bits (replicate lanes 0) ≡ 0
unfolding set_bits
zeros-clear =
    sum-zero lanes (set_at (replicate lanes 0))
    (λ w l. ap (λ (x : ℕ). count_below 32 (is_set x)) (get_or-replicate {A = ℕ} lanes w 0 0 l) ∙ zero-count 32)

-- a vector of the words from `at` on
pub part-bits : {x r : List ℕ} {at : ℕ} → PartOf lanes x at r → set_bits r ≡ set_in x at lanes
unfolding set_bits set_in
part-bits {x = x} {r = r} {at = at} p =
    sum-ext lanes (set_at r) (λ w. set_at x (at + w)) (λ w l. ap (λ (y : ℕ). count_below 32 (is_set y)) (p.words w l))

-- ---- a full adder at each bit

-- of one word, by its bits
word-added : (n a b c d e : ℕ) → ((j : ℕ) → bit_at d j + 2 * bit_at e j ≡ bit_at a j + bit_at b j + bit_at c j)
    → count_below n (is_set d) + 2 * count_below n (is_set e)
    ≡ count_below n (is_set a) + count_below n (is_set b) + count_below n (is_set c)
unfolding count_below sum_below
word-added zero a b c d e h = omega arith
word-added (suc n) a b c d e h =
    omega (arith, word-added n a b c d e h, h n, bit-set a n, bit-set b n, bit-set c n, bit-set d n, bit-set e n)

-- of the first n words
first-added : (a b c d e : List ℕ) → Added lanes a b c d e → (n : ℕ) → n ≤ lanes
    → set_first d n + 2 * set_first e n ≡ set_first a n + set_first b n + set_first c n
unfolding sum_below
first-added a b c d e s zero l = omega arith
first-added a b c d e s (suc n) l =
    omega (
      arith,
      first-added a b c d e s n (omega arith),
      word-added 32 (get_or a n 0) (get_or b n 0) (get_or c n 0) (get_or d n 0) (get_or e n 0) (λ j. s.sums n j (omega arith)),
    )

-- THE LAW OF THE ADDER: the set bits of three vectors are those of the digits and twice those of the carries
pub set-added : (a b c d e : List ℕ) → Added lanes a b c d e
    → set_bits d + 2 * set_bits e ≡ set_bits a + set_bits b + set_bits c
unfolding set_bits
set-added a b c d e s = first-added a b c d e s lanes (omega arith)

-- two sums, of which the second goes on from the first one's digits: their carries weigh the same
pub sum-on : (c d e f x y o : ℕ) → d + 2 * c ≡ x + o → e + 2 * f ≡ y + d → e + 2 * (c + f) ≡ x + y + o
sum-on c d e f x y o p q = omega (arith, p, q)

-- sums of ones, twos, fours and eights, each going on with the carries of the one before
pub sums-weighed : (x o t f e o' t' f' e' c2 c4 c8 s : ℕ)
    → o' + 2 * c2 ≡ x + o → t' + 2 * c4 ≡ c2 + t → f' + 2 * c8 ≡ c4 + f → e' + 2 * s ≡ c8 + e
    → o' + 2 * t' + 4 * f' + 8 * e' + 16 * s ≡ x + (o + 2 * t + 4 * f + 8 * e)
sums-weighed x o t f e o' t' f' e' c2 c4 c8 s p q r u = omega (arith, p, q, r, u)

-- ---- parts of a list

-- a part behind another
pub set-join : (x : List ℕ) (at m n : ℕ) → set_in x at (m + n) ≡ set_in x at m + set_in x (at + m) n
unfolding set_in
set-join x at m n =
    sum-join m n (λ i. set_at x (at + i))
    ∙ ap (λ (k : ℕ). sum_below m (λ i. set_at x (at + i)) + k)
    (sum-ext n (λ i. set_at x (at + (m + i))) (λ i. set_at x (at + m + i))
    (λ i l. ap (set_at x) (omega arith)))

-- the adder's sum of two parts that follow one another and of a third vector
pub pair-added : {x a b c d e : List ℕ} {at : ℕ} → PartOf lanes x at a → PartOf lanes x (at + lanes) b → Added lanes a b c d e
    → set_bits d + 2 * set_bits e ≡ set_in x at pair_size + set_bits c
pair-added {x = x} {a = a} {b = b} {c = c} {d = d} {e = e} {at = at} p q s =
    omega (arith, set-added a b c d e s, part-bits p, part-bits q, set-join x at lanes lanes)

-- the pairs of a block
pub set-block : (x : List ℕ) (at : ℕ)
    → set_in x at block_size
    ≡ set_in x at 8 + set_in x (at + 8) 8 + (set_in x (at + 16) 8 + set_in x (at + 24) 8)
    + (set_in x (at + 32) 8 + set_in x (at + 40) 8 + (set_in x (at + 48) 8 + set_in x (at + 56) 8))
set-block x at =
    omega (
      arith,
      set-join x at 8 8,
      set-join x at 16 8,
      set-join x at 24 8,
      set-join x at 32 8,
      set-join x at 40 8,
      set-join x at 48 8,
      set-join x at 56 8,
    )

-- the set bits of a part as a contract has them, as such a sum: the law of blocks
pub part-set : (x : List ℕ) (at n : ℕ) → ones 32 (take n (drop at x)) ≡ set_in x at n
unfolding set_in
part-set x at n = ones-block 32 x at n

-- all words
pub set-all : (x : List ℕ) → ones 32 x ≡ set_in x 0 (length x)
set-all x = ap (ones 32) (sym (take-length x)) ∙ part-set x 0 (length x)

pub set-none : (x : List ℕ) (at : ℕ) → set_in x at 0 ≡ 0
unfolding set_in sum_below
set-none x at = refl

-- a word more
pub set_next : (x : List ℕ) (at n : ℕ) → set_in x at (n + 1) ≡ set_in x at n + set_at x (at + n)
unfolding set_in
set_next x at n = next-sum (λ i. set_at x (at + i)) n

pub set-le : (x : List ℕ) (at n : ℕ) → set_in x at n ≤ n * 32
unfolding set_in
set-le x at n = sum-most (λ i. set_at x (at + i)) (λ i. count-le 32 (is_set (get_or x (at + i) 0))) n

-- ---- the first i words, counted so far

module _ (x : List ℕ) (i n : ℕ) (e : n ≡ set_in x 0 i) where
  -- the next word
  pub each_next : n + set_at x i ≡ set_in x 0 (i + 1)
  each_next = let z : 0 + i ≡ i = omega arith in rw (set_next x 0 i, z) (ap (λ (m : ℕ). m + set_at x i) e)

  -- what is counted fits a word
  pub fits_word : i ≤ most_segments → n < 2 ^ 32
  fits_word l = omega (arith, e, set-le x 0 i)

-- ---- words in blocks

-- one of the blocks
pub chunk-is : (n k i : ℕ) (x : List ℕ) → i < k → get_or (first_chunks n k x) i [] ≡ take n (drop (i * n) x)
chunk-is n zero i x h = absurd (omega arith)
chunk-is n (suc k) zero x h = let z : 0 * n ≡ 0 = omega arith in rw z
chunk-is n (suc k) (suc i) x h =
    let e : suc i * n ≡ n + i * n = omega arith in
    chunk-is n k i (drop n x) (omega arith) ∙ rw e (ap (take n) (drop-drop (i * n) n x))

-- a part's own words
pub part-own : (x : List ℕ) (at n : ℕ) → set_in (take n (drop at x)) 0 n ≡ set_in x at n
unfolding set_in
part-own x at n =
    sum-ext n (λ w. set_at (take n (drop at x)) (0 + w)) (λ w. set_at x (at + w))
    (λ w l. ap (set_at (take n (drop at x))) (zero-add w) ∙ ap (λ (y : ℕ). count_below 32 (is_set y)) (get_or-take n (drop at x) w 0 l ∙ get_or-drop at x w 0))

-- the words behind a place
pub set-behind : (x : List ℕ) (at : ℕ) → at ≤ length x → ones 32 (drop at x) ≡ set_in x at (length x - at)
set-behind x at h =
    ap (ones 32) (sym (take-length (drop at x)) ∙ ap (λ (n : ℕ). take n (drop at x)) (length-drop at x)) ∙ part-set x at (length x - at)

-- the blocks before block i, of whose set bits 16 * n have left the planes, and that one
pub block-next : (x : List ℕ) (i n s v v' : ℕ) → v + 16 * n ≡ set_in x 0 (i * block_size)
    → v' + 16 * s ≡ set_in (take block_size (drop (i * block_size) x)) 0 block_size + v
    → v' + 16 * (n + s) ≡ set_in x 0 ((i + 1) * block_size)
block-next x i n s v v' p q =
    let m = i * block_size in
    let e : (i + 1) * block_size ≡ m + block_size = omega arith in
    let z : 0 + m ≡ m = omega arith in
    rw (e, set-join x 0 m block_size, z) (omega (arith, p, q, part-own x m block_size))

-- the blocks, and what is behind them
pub blocks-behind : (x : List ℕ) (m v c : ℕ) → m ≤ length x → v ≡ set_in x 0 m → c ≡ ones 32 (drop m x) → v + c ≡ ones 32 x
blocks-behind x m v c h p q =
    let e : length x ≡ m + (length x - m) = omega arith in
    let z : 0 + m ≡ m = omega arith in
    omega (arith, p, q, set-behind x m h, set-all x ∙ ap (set_in x 0) e ∙ set-join x 0 m (length x - m) ∙ ap (λ (k : ℕ). set_in x 0 m + set_in x k (length x - m)) z)

-- of so few words the count fits a word
pub ones-fit : (x : List ℕ) → length x ≤ most_segments → ones 32 x < 2 ^ 32
ones-fit x l = fits_word x (length x) (ones 32 x) (set-all x) l
