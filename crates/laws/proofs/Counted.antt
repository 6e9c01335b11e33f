-- The nth row is the one row that is set with n set rows before it; the histogram adds up to R.
-- Assumes nothing.
use Prim.Native.Nat.{ℕ, zero, suc, ◌+◌, ◌≤◌, ◌<◌}
use mathlib.Core.Bool.{Bool, true, false, cond, true≢false}
use mathlib.Core.Path.{◌≡◌, refl, sym, ap, ◌∙◌}
use mathlib.Core.List.{List, [], ◌∷◌}
use lib.Dec.{eqb, eqb-zero-suc, eqb-suc-zero, eqb-suc-suc}
use lib.ListN.{length, get_or}
use native.Mathlib.Omega.{arith}
use native.Mathlib.Decide.{dec_le}
use borrow.Author.Tests.{eq-eqb, eqb-true, ne_eqb}
use Rattle.meaning.specs.Limits.{histogram_counts}
use Rattle.meaning.specs.Rows.{bit, sum_below, count_below, last_below, is_nth, nth_below}
use Rattle.meaning.specs.Segment.{tabulate}
use Rattle.meaning.specs.Question.{held, histogram_of, sum_of}
use Rattle.laws.specs.Demands.{IsNth, NthHolds, HistogramAdds, HistogramEnds}
use Rattle.laws.proofs.Segments.{both}
use Rattle.laws.proofs.RowWords.{bit_le, get_d_tabulate}
use Rattle.laws.proofs.Sums.{sum-zero}

pub count_none : (n : ℕ) (p : ℕ → Bool) → ((r : ℕ) → r < n → p r ≡ false) → count_below n p ≡ 0
unfolding count_below bit
count_none n p h = sum-zero n (λ r. bit (p r)) (λ r g. ap bit (h r g))

-- ---- the nth row

pub count-upto : (p : ℕ → Bool) (m n : ℕ) → m ≤ n → count_below m p ≤ count_below n p
unfolding count_below sum_below
count-upto p m zero h = let e : m ≡ 0 = omega arith in rw e (omega arith)
count-upto p m (suc n) h = elim (dec_le m n) [
  | yes k ↦ omega (arith, count-upto p m n k)
  | no k ↦ let e : m ≡ suc n = omega arith in rw e (omega arith)
]

-- a later row has more set rows before it than a set row has
pub count-later : (p : ℕ → Bool) (r s : ℕ) → p r ≡ true → r < s → count_below r p < count_below s p
unfolding count_below sum_below
count-later p r s h g =
    let one : bit (p r) ≡ 1 = ap bit h ∙ (unfold bit in refl) in
    omega (arith, count-upto p (suc r) s g)

nth-only : (R : ℕ) (p : ℕ → Bool) (n r s : ℕ) → IsNth R p n r → IsNth R p n s → r ≡ s
nth-only R p n r s a b = elim (dec_le (suc r) s) [
  | yes h ↦ absurd (omega (arith, count-later p r s a.set h, a.before, b.before))
  | no h ↦ elim (dec_le (suc s) r) [
    | yes g ↦ absurd (omega (arith, count-later p s r b.set g, a.before, b.before))
    | no g ↦ omega arith
  ]
]

nth_here : (p : ℕ → Bool) (n r : ℕ) → p r ≡ true → count_below r p ≡ n → is_nth p n r ≡ true
unfolding is_nth
nth_here p n r h e = rw (h, eq-eqb (count_below r p) n e)

nth-is : (R : ℕ) (p : ℕ → Bool) (n : ℕ) → n < count_below R p → IsNth R p n (last_below R (is_nth p n))
unfolding count_below sum_below last_below
nth-is zero p n h = absurd (omega arith)
nth-is (suc R) p n h = go (is_nth p n R) refl (nth-is R p n)
  where
    go : (t : Bool) → is_nth p n R ≡ t → (n < count_below R p → IsNth R p n (last_below R (is_nth p n))) → IsNth (suc R) p n (cond t R (last_below R (is_nth p n)))
    go true e i = let q = both (p R) (eqb (count_below R p) n) (unfold is_nth in e) in record { below = omega arith; set = q.0; before = eqb-true (count_below R p) n q.1 }
    go false e i =
        let s = i (low (p R) refl) in record { below = omega (arith, s.below); set = s.set; before = s.before }
      where
        low : (t : Bool) → p R ≡ t → n < count_below R p
        low false f = let z : bit (p R) ≡ 0 = ap bit f ∙ (unfold bit in refl) in omega arith
        low true f =
            let z : bit (p R) ≡ 1 = ap bit f ∙ (unfold bit in refl) in
            elim (dec_le (count_below R p) n) [
              | yes g ↦ let y : is_nth p n R ≡ true = nth_here p n R f (omega arith) in absurd (true≢false (sym y ∙ e))
              | no g ↦ omega arith
            ]

pub nth-holds : NthHolds
unfolding nth_below
nth-holds R p n h = record { is = nth-is R p n h; only = λ r a. nth-only R p n r (last_below R (is_nth p n)) a (nth-is R p n h) }

-- fewer rows are set before a set row than in all
pub nth-below : (R : ℕ) (p : ℕ → Bool) (n r : ℕ) → IsNth R p n r → n < count_below R p
nth-below R p n r a = omega (arith, count-later p r R a.set a.below, a.before)

-- a set row is the one that is asked for by the number of set rows before it
pub nth-eq : (R : ℕ) (p : ℕ → Bool) (n r : ℕ) → IsNth R p n r → nth_below R p n ≡ r
nth-eq R p n r a = sym ((nth-holds R p n (nth-below R p n r a)).only r a)

-- ---- the histogram

held-le : (ps : List (ℕ → Bool)) (r : ℕ) → held ps r ≤ length ps
unfolding held
held-le [] r = omega arith
held-le (p ∷ ps) r = omega (arith, bit_le (p r), held-le ps r)

sum-tabulate : (n : ℕ) (f g : ℕ → ℕ) → sum_of (tabulate n (λ c. f c + g c)) ≡ sum_of (tabulate n f) + sum_of (tabulate n g)
unfolding sum_of tabulate
sum-tabulate zero f g = refl
sum-tabulate (suc n) f g = omega (arith, sum-tabulate n (λ c. f (suc c)) (λ c. g (suc c)))

tabulate-ext : (n : ℕ) (f g : ℕ → ℕ) → ((c : ℕ) → f c ≡ g c) → sum_of (tabulate n f) ≡ sum_of (tabulate n g)
unfolding sum_of tabulate
tabulate-ext zero f g h = refl
tabulate-ext (suc n) f g h = omega (arith, h 0, tabulate-ext n (λ c. f (suc c)) (λ c. g (suc c)) (λ c. h (suc c)))

tabulate-zero : (n : ℕ) → sum_of (tabulate n (λ c. 0)) ≡ 0
unfolding sum_of tabulate
tabulate-zero zero = refl
tabulate-zero (suc n) = omega (arith, tabulate-zero n)

-- exactly one count is x
one-hot : (n x : ℕ) → x < n → sum_of (tabulate n (λ c. bit (eqb x c))) ≡ 1
unfolding sum_of tabulate bit
one-hot zero x h = absurd (omega arith)
one-hot (suc n) zero h =
    omega (arith, tabulate-ext n (λ c. bit (eqb 0 (suc c))) (λ c. 0) (λ c. ap bit (eqb-zero-suc c)), tabulate-zero n)
one-hot (suc n) (suc x) h =
    let z : bit (eqb (suc x) 0) ≡ 0 = ap bit (eqb-suc-zero x) in
    omega (arith, tabulate-ext n (λ c. bit (eqb (suc x) (suc c))) (λ c. bit (eqb x c)) (λ c. ap bit (eqb-suc-suc x c)), one-hot n x (omega arith))

pub histogram-adds : HistogramAdds
unfolding histogram_of count_below sum_below
histogram-adds zero ps h = tabulate-zero histogram_counts
histogram-adds (suc R) ps h =
    let e : sum_of (tabulate histogram_counts (λ c. sum_below R (λ r. bit (eqb (held ps r) c)))) ≡ R = histogram-adds R ps h in
    let g : sum_of (tabulate histogram_counts (λ c. bit (eqb (held ps R) c))) ≡ 1 = one-hot histogram_counts (held ps R) (omega (arith, held-le ps R)) in
    sum-tabulate histogram_counts (λ c. sum_below R (λ r. bit (eqb (held ps r) c))) (λ c. bit (eqb (held ps R) c)) ∙ (omega arith)

get_d_past : (n : ℕ) (f : ℕ → ℕ) (i : ℕ) → n ≤ i → get_or (tabulate n f) i 0 ≡ 0
unfolding tabulate
get_d_past zero f i h = refl
get_d_past (suc n) f zero h = absurd (omega arith)
get_d_past (suc n) f (suc i) h = get_d_past n (λ i. f (suc i)) i (omega arith)

pub histogram-ends : HistogramEnds
unfolding histogram_of
histogram-ends R ps c h = elim (dec_le histogram_counts c) [
  | yes g ↦ get_d_past histogram_counts (λ c. count_below R (λ r. eqb (held ps r) c)) c g
  | no g ↦ get_d_tabulate histogram_counts (λ c. count_below R (λ r. eqb (held ps r) c)) c (omega arith) ∙ count_none R (λ r. eqb (held ps r) c) (λ r g. ne_eqb (held ps r) c (omega (arith, held-le ps r)))
]
