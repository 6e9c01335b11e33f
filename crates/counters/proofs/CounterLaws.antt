-- Counters that lie across planes, for any number of planes: a word added to them, and comparisons of them with a number.
-- Assumes nothing.
use Prim.Native.Nat.{ℕ, zero, suc, ◌+◌, ◌-◌, ◌*◌, ◌/◌, ◌%◌, ◌^◌, ◌≤◌, ◌<◌}
use mathlib.Core.Bool.{Bool, true, false, not, ◌&&◌, ◌||◌}
use mathlib.Core.Path.{◌≡◌, refl, sym, ap, ap₂, ◌∙◌}
use mathlib.Core.List.{List, [], ◌∷◌}
use lib.Dec.{eqb, leb}
use lib.ListN.{length, get_or, set, drop, length-set}
use lib.Pow.{shr-shr}
use lib.Seq.{drop-cons}
use lib.Bits.{bit_and, bit_xor}
use native.Mathlib.Nat.{pow-suc, div-one, div-eq_of_lt}
use native.Mathlib.Numerals.{add-one}
use native.Mathlib.Omega.{arith}
use borrow.Author.Tests.{ne_eqb}
use Rattle.meaning.specs.Rows.{bit}
use Rattle.meaning.specs.Segment.{bit_at, is_set}
use Rattle.laws.proofs.RowWords.{bit_le}
use Rattle.laws.proofs.Counting.{zero_clear, full-set}
use Rattle.counters.specs.Counters.{count_at}
use Rattle.words.proofs.BitLaws.{bit-set, bit-lt, half-sum, and-table, or-table}
use Rattle.words.proofs.Tests.{same-leb, same-eqb}

-- ---- a word added

-- a store in plane k
count-stored : (ps : List ℕ) (k v j : ℕ) → k < length ps → count_at (set ps k v) j + bit_at (get_or ps k 0) j * 2 ^ k ≡ count_at ps j + bit_at v j * 2 ^ k
unfolding count_at
count-stored [] k v j h = absurd (omega arith)
count-stored (p ∷ ps) zero v j h = omega arith
count-stored (p ∷ ps) (suc k) v j h = rw (pow-suc 2 k) (omega (arith, count-stored ps k v j (omega arith)))

-- x has been added to the k lowest planes, and the carry is still to be added to plane k
pub record Added (ps : List ℕ) (x : ℕ) (r : List ℕ) (carry k : ℕ) : Type 0 where
  pub long : length r ≡ length ps
  pub sum : (j : ℕ) → count_at r j + bit_at carry j * 2 ^ k ≡ count_at ps j + bit_at x j

pub added_none : (ps : List ℕ) (x : ℕ) → Added ps x ps x 0
added_none ps x = record { long = refl; sum = λ j. omega arith }

module _ {ps : List ℕ} {x : ℕ} {r : List ℕ} {carry k : ℕ} (a : Added ps x r carry k) where
  pub added_more : k < length r → Added ps x (set r k (bit_xor (get_or r k 0) carry)) (bit_and (get_or r k 0) carry) (k + 1)
  added_more h = rw add-one (record { long = length-set r k (bit_xor (get_or r k 0) carry) ∙ a.long; sum = sums })
    where
      sums : (j : ℕ) → count_at (set r k (bit_xor (get_or r k 0) carry)) j + bit_at (bit_and (get_or r k 0) carry) j * 2 ^ suc k ≡ count_at ps j + bit_at x j
      sums j =
          let p : ℕ = get_or r k 0 in
          let e : (bit_at (bit_xor p carry) j + 2 * bit_at (bit_and p carry) j) * 2 ^ k ≡ (bit_at p j + bit_at carry j) * 2 ^ k = ap (λ (n : ℕ). n * 2 ^ k) (half-sum p carry j) in
          rw (pow-suc 2 k) (omega (arith, e, a.sum j, count-stored r k (bit_xor p carry) j h))

  -- no carry is left
  pub added-early : carry ≡ 0 → (j : ℕ) → count_at r j ≡ count_at ps j + bit_at x j
  unfolding bit
  added-early e j =
      let z : bit_at carry j ≡ 0 = bit-set carry j ∙ ap (λ (x : ℕ). bit (is_set x j)) e ∙ ap bit (zero_clear j) in
      omega (arith, rw z at (a.sum j))

  -- nor is one where the sum has room in the k planes
  pub added-all : (j : ℕ) → count_at ps j + 1 < 2 ^ k → count_at r j ≡ count_at ps j + bit_at x j
  added-all j h = go (bit_at carry j) (a.sum j)
    where
      go : (b : ℕ) → count_at r j + b * 2 ^ k ≡ count_at ps j + bit_at x j → count_at r j ≡ count_at ps j + bit_at x j
      go zero e = omega arith
      go (suc b) e = absurd (omega (arith, bit-lt x j))

-- ---- comparisons, plane by plane from the lowest

-- the planes from k on
count-from : (ps : List ℕ) (k j : ℕ) → k < length ps → count_at (drop k ps) j ≡ bit (is_set (get_or ps k 0) j) + 2 * count_at (drop (k + 1) ps) j
unfolding count_at
count-from ps k j h = rw (add-one, drop-cons ps k 0, bit-set)

-- they stand for no more than the counter, so they are empty where it is below 2 ^ k
part-le : (ps : List ℕ) (k j : ℕ) → count_at (drop k ps) j * 2 ^ k ≤ count_at ps j
unfolding count_at
part-le ps zero j = omega arith
part-le [] (suc k) j = omega arith
part-le (p ∷ ps) (suc k) j = rw (pow-suc 2 k) (omega (arith, part-le ps k j))

none_from : (ps : List ℕ) (k j : ℕ) → count_at ps j < 2 ^ k → count_at (drop k ps) j ≡ 0
none_from ps k j h = go (count_at (drop k ps) j) (part-le ps k j)
  where
    go : (n : ℕ) → n * 2 ^ k ≤ count_at ps j → n ≡ 0
    go zero l = refl
    go (suc n) l = absurd (omega arith)

-- the digits of t from k on
digits_from : (t k : ℕ) → t / 2 ^ k ≡ t / 2 ^ k % 2 + 2 * (t / 2 ^ (k + 1))
digits_from t k = omega (arith, shr-shr t k 1)

-- A comparison `f t n g` of t with a counter n, where g says whether it holds of the digits below theirs; with none below it is `f t n true`.
-- At each of the w lowest places the bits of r say whether it holds of the k lowest digits, and with them the digits from k on give what the whole gives.
abbrev pub Compared : (f : ℕ → ℕ → Bool → Bool) (w : ℕ) (ps : List ℕ) (t r k : ℕ) → Type 0
Compared f w ps t r k = (j : ℕ) → j < w → f (t / 2 ^ k) (count_at (drop k ps) j) (is_set r j) ≡ f t (count_at ps j) true

module _ (f : ℕ → ℕ → Bool → Bool) (w : ℕ) (ps : List ℕ) (t : ℕ) where
  pub compared-none : Compared f w ps t (2 ^ w - 1) 0
  compared-none j h = ap₂ (λ (e : ℕ) (g : Bool). f e (count_at ps j) g) (div-one t) (full-set w j h)

  -- one digit more, which is d in t; op makes the new bit of the old one and the plane's
  pub compared-more : (d : ℕ) (op : Bool → Bool → Bool) → ((e c : ℕ) (b g : Bool) → f (d + 2 * e) (bit b + 2 * c) g ≡ f e c (op g b))
      → (r r' k : ℕ) → k < length ps → t / 2 ^ k % 2 ≡ d → ((j : ℕ) → j < w → is_set r' j ≡ op (is_set r j) (is_set (get_or ps k 0) j))
      → Compared f w ps t r k → Compared f w ps t r' (k + 1)
  compared-more d op step r r' k h t-is r-is so_far j l =
      let e : ℕ = t / 2 ^ (k + 1) in
      let c : ℕ = count_at (drop (k + 1) ps) j in
      let digits : t / 2 ^ k ≡ d + 2 * e = omega (arith, digits_from t k) in
      ap (f e c) (r-is j l) ∙ sym (step e c (is_set (get_or ps k 0) j) (is_set r j))
      ∙ sym (ap₂ (λ (m n : ℕ). f m n (is_set r j)) digits (count-from ps k j h)) ∙ so_far j l

  -- no digit is left where k digits hold every counter, and t
  pub compared-all : (r k : ℕ) → ((j : ℕ) → j < w → count_at ps j < 2 ^ k) → t < 2 ^ k → Compared f w ps t r k
      → (j : ℕ) → j < w → f 0 0 (is_set r j) ≡ f t (count_at ps j) true
  compared-all r k low t-lt so_far j l =
      sym (ap₂ (λ (m n : ℕ). f m n (is_set r j)) (div-eq_of_lt t-lt) (none_from ps k j (low j l))) ∙ so_far j l

-- n is at least t
abbrev pub reaches : ℕ → ℕ → Bool → Bool
reaches t n g = leb (suc t) (n + bit g)

pub reaches-one : (e c : ℕ) (b g : Bool) → reaches (1 + 2 * e) (bit b + 2 * c) g ≡ reaches e c (g && b)
reaches-one e c b g = same-leb (suc (1 + 2 * e)) (bit b + 2 * c + bit g) (suc e) (c + bit (g && b)) (omega (arith, and-table g b, bit_le b, bit_le g)) (omega (arith, and-table g b, bit_le b, bit_le g))

pub reaches-zero : (e c : ℕ) (b g : Bool) → reaches (0 + 2 * e) (bit b + 2 * c) g ≡ reaches e c (g || b)
reaches-zero e c b g = same-leb (suc (0 + 2 * e)) (bit b + 2 * c + bit g) (suc e) (c + bit (g || b)) (omega (arith, or-table g b, bit_le b, bit_le g)) (omega (arith, or-table g b, bit_le b, bit_le g))

pub reaches-flag : (g : Bool) → reaches 0 0 g ≡ g
unfolding bit
reaches-flag true = refl
reaches-flag false = refl

pub reaches-is : (t n : ℕ) → reaches t n true ≡ leb t n
unfolding bit
reaches-is t n = same-leb (suc t) (n + 1) t n (omega arith) (omega arith)

-- n is t
abbrev pub agrees : ℕ → ℕ → Bool → Bool
agrees t n g = g && eqb n t

pub agrees-one : (e c : ℕ) (b g : Bool) → agrees (1 + 2 * e) (bit b + 2 * c) g ≡ agrees e c (g && b)
unfolding bit
agrees-one e c true true = same-eqb (1 + 2 * c) (1 + 2 * e) c e (omega arith) (omega arith)
agrees-one e c false true = ne_eqb (0 + 2 * c) (1 + 2 * e) (omega arith)
agrees-one e c b false = refl

pub agrees-zero : (e c : ℕ) (b g : Bool) → agrees (0 + 2 * e) (bit b + 2 * c) g ≡ agrees e c (g && not b)
unfolding bit
agrees-zero e c true true = ne_eqb (1 + 2 * c) (0 + 2 * e) (omega arith)
agrees-zero e c false true = same-eqb (0 + 2 * c) (0 + 2 * e) c e (omega arith) (omega arith)
agrees-zero e c b false = refl
