-- The digits of the k-th value are found from the top one down: each is told by how many rows have the digits so far and
-- the leading one.
-- Assumes nothing.
use Prim.Native.Nat.{ℕ, zero, suc, ◌+◌, ◌-◌, ◌*◌, ◌/◌, ◌%◌, ◌^◌, ◌≤◌, ◌<◌}
use mathlib.Core.Bool.{Bool, true, false, not, ◌&&◌, ◌||◌}
use mathlib.Core.Path.{◌≡◌, refl, sym, ap, ap₂, ◌∙◌}
use lib.Dec.{eqb, ltb}
use lib.Pow.{shr-shr}
use native.Mathlib.Nat.{div-eq_of_lt}
use native.Mathlib.Decide.{dec_le}
use native.Mathlib.Omega.{arith}
use borrow.Author.Tests.{lt-ltb, le-ltb, eqb-true, eqb-false, eq-eqb, ne_eqb}
use Rattle.meaning.specs.Rows.{count_below}
use Rattle.column_meaning.specs.Ranking.{ahead}
use Rattle.meaning.specs.declared.Ranking.{Ranking}
use Rattle.meaning.specs.declared.Ranking.TheVariants.{Largest, Smallest}
pub use Rattle.laws.specs.Pivot.{above, level, lead, ahead_from, level_from, Narrowed}
use Rattle.laws.proofs.Tests.{and_yes, and_no, and-over-or}
use Rattle.laws.proofs.Counted.{count_none}
use Rattle.laws.proofs.Counting.{count-ext}
use Rattle.laws.proofs.Ranking.{ahead-self, count-split, count-apart, above-not-level}

-- ---- two numbers are told apart by their upper digits, or by the lowest

-- the smaller by the upper digits, or with the same upper digits by the lowest
ltb-digit : (a b c d : ℕ) → b < 2 → d < 2 → ltb (2 * a + b) (2 * c + d) ≡ ltb a c || (eqb a c && ltb b d)
ltb-digit a b c d l m = elim (dec_le (suc a) c) [
  | yes h ↦ rw (lt-ltb a c h) (lt-ltb (2 * a + b) (2 * c + d) (omega arith))
  | no h ↦ elim (dec_le a c) [
    | yes g ↦ rw (le-ltb a c (omega arith), eq-eqb a c (omega arith)) (lowest (omega arith))
    | no g ↦
        rw (le-ltb a c (omega arith), ne_eqb a c (λ e. absurd (omega arith)))
        (le-ltb (2 * a + b) (2 * c + d) (omega arith))
  ]
]
  where
    lowest : a ≡ c → ltb (2 * a + b) (2 * c + d) ≡ ltb b d
    lowest e = elim (dec_le (suc b) d) [
      | yes h ↦ lt-ltb (2 * a + b) (2 * c + d) (omega arith) ∙ sym (lt-ltb b d h)
      | no h ↦ le-ltb (2 * a + b) (2 * c + d) (omega arith) ∙ sym (le-ltb b d (omega arith))
    ]

-- equality goes both ways
eqb_swap : (a b : ℕ) → eqb a b ≡ eqb b a
eqb_swap a b = go (eqb b a) refl
  where
    go : (t : Bool) → eqb b a ≡ t → eqb a b ≡ eqb b a
    go true e = eq-eqb a b (sym (eqb-true b a e)) ∙ sym e
    go false e = ne_eqb a b (λ f. eqb-false b a e (sym f)) ∙ sym e

-- the one that comes first
pub ahead-digit : (op : Ranking) (a b c d : ℕ) → b < 2 → d < 2
    → ahead op (2 * a + b) (2 * c + d) ≡ ahead op a c || (eqb a c && ahead op b d)
unfolding ahead
ahead-digit Largest a b c d l m = rw (eqb_swap a c) (ltb-digit c d a b m l)
ahead-digit Smallest a b c d l m = ltb-digit a b c d l m

-- the same by both
pub eqb-digit : (a b c d : ℕ) → b < 2 → d < 2 → eqb (2 * a + b) (2 * c + d) ≡ eqb a c && eqb b d
eqb-digit a b c d l m = go (eqb a c) refl (eqb b d) refl
  where
    go : (s : Bool) → eqb a c ≡ s → (t : Bool) → eqb b d ≡ t → eqb (2 * a + b) (2 * c + d) ≡ eqb a c && eqb b d
    go false e t f = rw e (ne_eqb (2 * a + b) (2 * c + d) (λ g. eqb-false a c e (omega arith)))
    go true e false f =
        rw (e, f) (ne_eqb (2 * a + b) (2 * c + d) (λ g. eqb-false b d f (omega (arith, eqb-true a c e))))
    go true e true f =
        rw (e, f) (eq-eqb (2 * a + b) (2 * c + d) (omega (arith, eqb-true a c e, eqb-true b d f)))

-- ---- the leading digit and the other

-- the leading one is a digit
pub lead_low : (op : Ranking) → lead op < 2
lead_low Largest = omega arith
lead_low Smallest = omega arith

-- no digit comes before the leading one
none_ahead : (op : Ranking) (b : ℕ) → b < 2 → ahead op b (lead op) ≡ false
unfolding ahead
none_ahead Largest b h = le-ltb 1 b (omega arith)
none_ahead Smallest b h = le-ltb b 0 (omega arith)

-- and that alone before the other
lead-ahead : (op : Ranking) (b : ℕ) → b < 2 → ahead op b (1 - lead op) ≡ eqb b (lead op)
unfolding ahead
lead-ahead Largest zero h = refl
lead-ahead Largest (suc zero) h = refl
lead-ahead Largest (suc (suc b)) h = absurd (omega arith)
lead-ahead Smallest zero h = refl
lead-ahead Smallest (suc zero) h = refl
lead-ahead Smallest (suc (suc b)) h = absurd (omega arith)

-- a digit that is not the leading one is the other
not-lead : (op : Ranking) (b : ℕ) → b < 2 → eqb b (1 - lead op) ≡ not (eqb b (lead op))
not-lead Largest zero h = refl
not-lead Largest (suc zero) h = refl
not-lead Largest (suc (suc b)) h = absurd (omega arith)
not-lead Smallest zero h = refl
not-lead Smallest (suc zero) h = refl
not-lead Smallest (suc (suc b)) h = absurd (omega arith)

-- ---- one place down

-- a number's digits from place i on are those above it, and the one there
pub halves : (x i : ℕ) → x / 2 ^ i ≡ 2 * (x / 2 ^ suc i) + x / 2 ^ i % 2
halves x i = let e : i + 1 ≡ suc i = omega arith in omega (arith, rw e at (shr-shr x i 1))

module _ (op : Ranking) (R : ℕ) (exists : ℕ → Bool) (v : ℕ → ℕ) (i P : ℕ) where
  -- the digits of row r from place i on, those above it, and the one there
  abbrev from : ℕ → ℕ
  from r = v r / 2 ^ i

  abbrev up : ℕ → ℕ
  up r = v r / 2 ^ suc i

  abbrev digit : ℕ → ℕ
  digit r = from r % 2

  -- how many rows come before digits from a place on, and how many have them
  abbrev A : ℕ → ℕ → ℕ
  A = ahead_from op R exists v

  abbrev L : ℕ → ℕ → ℕ
  L = level_from R exists v

  -- it is a digit
  digit_low : (r : ℕ) → digit r < 2
  digit_low r = omega arith

  parts : (r : ℕ) → from r ≡ 2 * up r + digit r
  parts r = halves (v r) i

  -- a row comes before digits by those above, or by this one where it has those above
  above_at : (d r : ℕ) → d < 2 → above op exists from (2 * P + d) r
      ≡ exists r && (ahead op (up r) P || (eqb (up r) P && ahead op (digit r) d))
  above_at d r h =
      ap (λ (x : ℕ). exists r && ahead op x (2 * P + d)) (parts r)
      ∙ ap (λ (t : Bool). exists r && t) (ahead-digit op (up r) (digit r) P d (digit_low r) h)

  -- a row has digits if it has those above and this one
  level-at : (d r : ℕ) → d < 2 → level exists from (2 * P + d) r ≡ level exists up P r && eqb (digit r) d
  level-at d r h =
      ap (λ (x : ℕ). exists r && eqb x (2 * P + d)) (parts r)
      ∙ ap (λ (t : Bool). exists r && t) (eqb-digit (up r) (digit r) P d (digit_low r) h)
      ∙ assoc (exists r) (eqb (up r) P) (eqb (digit r) d)
    where
      assoc : (s t u : Bool) → s && (t && u) ≡ (s && t) && u
      assoc true t u = refl
      assoc false t u = refl

  -- what comes before P and the leading digit comes before P
  pub same-lead : A i (2 * P + lead op) ≡ A (suc i) P
  same-lead =
      count-ext R (above op exists from (2 * P + lead op)) (above op exists up P)
      (λ r l. above_at (lead op) r (lead_low op)
      ∙ rw (none_ahead op (digit r) (digit_low r)) (plain (exists r) (ahead op (up r) P) (eqb (up r) P)))
    where
      plain : (s t u : Bool) → s && (t || (u && false)) ≡ s && t
      plain true true u = refl
      plain true false true = refl
      plain true false false = refl
      plain false t u = refl

  -- before P and the other digit come these, and what has P and the leading digit
  pub other-digit : A i (2 * P + (1 - lead op)) ≡ A (suc i) P + L i (2 * P + lead op)
  other-digit =
      count-ext R (above op exists from (2 * P + (1 - lead op)))
      (λ r. above op exists up P r || level exists from (2 * P + lead op) r) (λ r l. row r)
      ∙ count-apart R (above op exists up P) (level exists from (2 * P + lead op)) apart
    where
      row : (r : ℕ) → above op exists from (2 * P + (1 - lead op)) r
          ≡ above op exists up P r || level exists from (2 * P + lead op) r
      row r =
          above_at (1 - lead op) r (omega arith)
          ∙ rw (lead-ahead op (digit r) (digit_low r), level-at (lead op) r (lead_low op))
          (and-over-or (exists r) (ahead op (up r) P) (eqb (up r) P) (eqb (digit r) (lead op)))

      apart : (r : ℕ) → above op exists up P r ≡ true → level exists from (2 * P + lead op) r ≡ false
      apart r a = level-at (lead op) r (lead_low op) ∙ rw (above-not-level op exists up P r a)

  -- what has P has one digit or the other
  pub level-parts : L (suc i) P ≡ L i (2 * P + lead op) + L i (2 * P + (1 - lead op))
  level-parts =
      count-split R (level exists up P) (λ r. eqb (digit r) (lead op))
      ∙ ap₂ (λ (m n : ℕ). m + n)
      (count-ext R (λ r. level exists up P r && eqb (digit r) (lead op)) (level exists from (2 * P + lead op))
      (λ r l. sym (level-at (lead op) r (lead_low op))))
      (count-ext R (λ r. level exists up P r && not (eqb (digit r) (lead op)))
      (level exists from (2 * P + (1 - lead op)))
      (λ r l. rw (← not-lead op (digit r) (digit_low r)) (sym (level-at (1 - lead op) r (omega arith)))))

-- ---- what holds while the digits are found

-- at the start no digit is known, and all rows are level
pub narrowed_none : (op : Ranking) (R : ℕ) (exists : ℕ → Bool) (v : ℕ → ℕ) (k n : ℕ) → k ≤ count_below R exists
    → ((r : ℕ) → v r < 2 ^ n) → Narrowed op R exists v k n 0 k
narrowed_none op R exists v k n h low = record {
  counts =
      omega (
        arith,
        count_none R (above op exists (λ r. v r / 2 ^ n) 0)
            (λ r l. rw (empty r, ahead-self op 0) (and_no (exists r))),
      );
  some =
      omega (
        arith,
        count-ext R exists (level exists (λ r. v r / 2 ^ n) 0)
            (λ r l. rw (empty r) (sym (and_yes (exists r)))),
      );
}
  where
    empty : (r : ℕ) → v r / 2 ^ n ≡ 0
    empty r = div-eq_of_lt (low r)

module _ {op : Ranking} {R : ℕ} {exists : ℕ → Bool} {v : ℕ → ℕ} {k : ℕ} where
  -- the next digit is the leading one where enough rows have it
  pub narrowed-lead : {i P take : ℕ} → Narrowed op R exists v k (suc i) P take
      → take ≤ level_from R exists v i (2 * P + lead op)
      → Narrowed op R exists v k i (2 * P + lead op) take
  narrowed-lead {i} {P} {take} g h = record { counts = omega (arith, same-lead op R exists v i P, g.counts); some = h }

  -- and else the other, with fewer rows to take
  pub narrowed-other : {i P take : ℕ} → Narrowed op R exists v k (suc i) P take
      → level_from R exists v i (2 * P + lead op) < take
      → Narrowed op R exists v k i (2 * P + (1 - lead op)) (take - level_from R exists v i (2 * P + lead op))
  narrowed-other {i} {P} {take} g h = record {
    counts = omega (arith, other-digit op R exists v i P, g.counts);
    some = omega (arith, level-parts op R exists v i P, g.some);
  }

  -- at the end P is the k-th value
  pub narrowed-all : {P take : ℕ} → Narrowed op R exists v k 0 P take
      → (count_below R (above op exists v P) + take ≡ k) × (take ≤ count_below R (level exists v P))
  narrowed-all {P} {take} g =
      let a = count-ext R (above op exists (λ r. v r / 2 ^ 0) P) (above op exists v P) (λ r l. rw (whole r)) in
      let b = count-ext R (level exists (λ r. v r / 2 ^ 0) P) (level exists v P) (λ r l. rw (whole r)) in
      (omega (arith, a, g.counts), omega (arith, b, g.some))
    where
      whole : (r : ℕ) → v r / 2 ^ 0 ≡ v r
      whole r = omega arith
