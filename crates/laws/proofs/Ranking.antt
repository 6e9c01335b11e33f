-- The k rows that come first, by value and then by number, are exactly k, and four properties tell them from all others.
-- They are the rows before a value, and of the rows that have it those below a row.
-- Assumes nothing.
use Prim.Native.Nat.{ℕ, zero, suc, ◌+◌, ◌-◌, ◌≤◌, ◌<◌}
use mathlib.Core.Bool.{Bool, true, false, not, ◌&&◌, ◌||◌, true≢false, false≢true}
use mathlib.Core.Path.{◌≡◌, refl, sym, ap, ◌∙◌, subst}
use mathlib.Core.Logic.{◌⊎◌, inl, inr, ⊎_elim}
use lib.Dec.{eqb, ltb}
use native.Mathlib.Decide.{dec_le}
use native.Mathlib.Omega.{arith}
use borrow.Author.Tests.{ltb-true, ltb-false, lt-ltb, le-ltb, eqb-true, eqb-false, eq-eqb, ne_eqb, not-true}
use Rattle.meaning.specs.Rows.{bit, sum_below, count_below, nth_below}
use Rattle.column_meaning.specs.Ranking.{ahead, precedes, first_rows}
use Rattle.meaning.specs.declared.Ranking.{Ranking}
use Rattle.meaning.specs.declared.Ranking.TheVariants.{Largest, Smallest}
use Rattle.laws.specs.Demands.{IsNth}
use Rattle.laws.specs.RankLaws.{Ranked, RankLaws}
pub use Rattle.laws.specs.Pivot.{above, level}
use Rattle.laws.proofs.Tests.{or-true, or_cases, and_both, and-swap, and_yes, and_no, and-over-or, never_true, never_both}
use Rattle.laws.proofs.Segments.{both}
use Rattle.laws.proofs.Sums.{sum-ext, sum-add}
use Rattle.laws.proofs.Counted.{nth-holds, count_none, count-upto, count-later}
use Rattle.laws.proofs.Counting.{count-ext, count_add}

-- ---- counts

-- where one test holds only if another does
bit-mono : (a b : Bool) → (a ≡ true → b ≡ true) → bit a ≤ bit b
bit-mono true true f = omega arith
bit-mono true false f = absurd (false≢true (f refl))
bit-mono false b f = unfold bit in omega arith

-- fewer rows
pub count-mono : (n : ℕ) (p q : ℕ → Bool) → ((r : ℕ) → r < n → p r ≡ true → q r ≡ true)
    → count_below n p ≤ count_below n q
unfolding count_below sum_below
count-mono zero p q h = omega arith
count-mono (suc n) p q h =
    omega (arith, count-mono n p q (λ r l. h r (omega arith)), bit-mono (p n) (q n) (h n (omega arith)))

-- and one of them not
count-strict : (n : ℕ) (p q : ℕ → Bool) → ((r : ℕ) → r < n → p r ≡ true → q r ≡ true)
    → (r : ℕ) → r < n → p r ≡ false → q r ≡ true → count_below n p < count_below n q
unfolding count_below sum_below
count-strict zero p q h r l a b = absurd (omega arith)
count-strict (suc n) p q h r l a b = elim (dec_le n r) [
  | yes g ↦ here (omega arith)
  | no g ↦
      omega (
        arith,
        count-strict n p q (λ s i. h s (omega arith)) r (omega arith) a b,
        bit-mono (p n) (q n) (h n (omega arith)),
      )
]
  where
    here : n ≡ r → suc (count_below n p + bit (p n)) ≤ count_below n q + bit (q n)
    here e =
        rw (ap p e ∙ a, ap q e ∙ b)
        (unfold bit in omega (arith, count-mono n p q (λ s i. h s (omega arith))))

-- with one set row more
count_next : (n : ℕ) (p : ℕ → Bool) → p n ≡ true → count_below (suc n) p ≡ suc (count_below n p)
unfolding count_below sum_below bit
count_next n p h = rw h (omega arith)

-- at most one row
count-one : (n : ℕ) (p : ℕ → Bool) → ((r s : ℕ) → r < n → s < n → p r ≡ true → p s ≡ true → r ≡ s) → count_below n p ≤ 1
unfolding count_below sum_below
count-one zero p h = omega arith
count-one (suc n) p h = go (count-one n p (λ r s i j. h r s (omega arith) (omega arith))) (p n) refl
  where
    no : p n ≡ true → (r : ℕ) → r < n → p r ≡ true → ⊥
    no e r l f = let z : r ≡ n = h r n (omega arith) (omega arith) f e in omega arith

    go : count_below n p ≤ 1 → (t : Bool) → p n ≡ t → count_below n p + bit (p n) ≤ 1
    go i true e = rw e (unfold bit in omega (arith, count_none n p (λ r l. never_true (p r) (no e r l))))
    go i false e = rw e (unfold bit in omega arith)

-- the rows of a set that are in another, and those that are not
pub count-split : (n : ℕ) (p q : ℕ → Bool)
    → count_below n p ≡ count_below n (λ r. p r && q r) + count_below n (λ r. p r && not (q r))
unfolding count_below
count-split n p q =
    sum-ext n (λ r. bit (p r)) (λ r. bit (p r && q r) + bit (p r && not (q r))) (λ r l. one (p r) (q r))
    ∙ sum-add n (λ r. bit (p r && q r)) (λ r. bit (p r && not (q r)))
  where
    one : (a b : Bool) → bit a ≡ bit (a && b) + bit (a && not b)
    one true true = unfold bit in refl
    one true false = unfold bit in refl
    one false b = unfold bit in refl

-- two sets that have no row in common
pub count-apart : (n : ℕ) (p q : ℕ → Bool) → ((r : ℕ) → p r ≡ true → q r ≡ false)
    → count_below n (λ r. p r || q r) ≡ count_below n p + count_below n q
unfolding count_below
count-apart n p q h =
    sum-ext n (λ r. bit (p r || q r)) (λ r. bit (p r) + bit (q r)) (λ r l. one (p r) (q r) (h r))
    ∙ sum-add n (λ r. bit (p r)) (λ r. bit (q r))
  where
    one : (a b : Bool) → (a ≡ true → b ≡ false) → bit (a || b) ≡ bit a + bit b
    one true true f = absurd (true≢false (f refl))
    one true false f = unfold bit in refl
    one false true f = unfold bit in refl
    one false false f = unfold bit in refl

-- of the rows below n those below r
count_low : (n r : ℕ) (p : ℕ → Bool) → r ≤ n → count_below n (λ s. p s && ltb s r) ≡ count_below r p
count_low n r p h =
    let e : n ≡ r + (n - r) = omega arith in
    ap (λ (k : ℕ). count_below k (λ s. p s && ltb s r)) e
    ∙ count_add r (n - r) (λ s. p s && ltb s r)
    ∙ omega (
      arith,
      count-ext r (λ s. p s && ltb s r) p (λ s l. rw (lt-ltb s r l) (and_yes (p s))),
      count_none (n - r) (λ s. p (r + s) && ltb (r + s) r)
          (λ s l. rw (le-ltb (r + s) r (omega arith)) (and_no (p (r + s)))),
    )

-- of two sets of equal size, one with a row that the other lacks, the other has a row that the first lacks
exchange : (n : ℕ) (p q : ℕ → Bool) → count_below n p ≡ count_below n q → (r : ℕ) → r < n → p r ≡ true → q r ≡ false
    → (s : ℕ) × (s < n) × (q s ≡ true) × (p s ≡ false)
exchange n p q e r l a b =
    let c : count_below n (λ s. p s && q s) ≡ count_below n (λ s. q s && p s) =
    count-ext n (λ s. p s && q s) (λ s. q s && p s) (λ s g. and-swap (p s) (q s)) in
    let d : count_below n (λ s. false) < count_below n (λ s. p s && not (q s)) =
    count-strict n (λ s. false) (λ s. p s && not (q s)) (λ s g z. absurd (false≢true z)) r l refl (rw (a, b)) in
    let f : 0 < count_below n (λ s. q s && not (p s)) = omega (arith, count-split n p q, count-split n q p) in
    let i = (nth-holds n (λ s. q s && not (p s)) 0 f).is in
    let s = nth_below n (λ s. q s && not (p s)) 0 in
    let t = both (q s) (not (p s)) i.set in
    (s, i.below, t.0, not-true (p s) t.1)

-- ---- the order of values

-- no value comes before itself
pub ahead-self : (op : Ranking) (x : ℕ) → ahead op x x ≡ false
unfolding ahead
ahead-self Largest x = le-ltb x x (omega arith)
ahead-self Smallest x = le-ltb x x (omega arith)

-- a value before one before another is before that too
ahead-trans : (op : Ranking) (x y z : ℕ) → ahead op x y ≡ true → ahead op y z ≡ true → ahead op x z ≡ true
unfolding ahead
ahead-trans Largest x y z a b = lt-ltb z x (omega (arith, ltb-true y x a, ltb-true z y b))
ahead-trans Smallest x y z a b = lt-ltb x z (omega (arith, ltb-true x y a, ltb-true y z b))

-- of two values one comes before the other, or they are the same
ahead-total : (op : Ranking) (x y : ℕ) → ahead op x y ≡ false → ahead op y x ≡ false → x ≡ y
unfolding ahead
ahead-total Largest x y a b = omega (arith, ltb-false y x a, ltb-false x y b)
ahead-total Smallest x y a b = omega (arith, ltb-false x y a, ltb-false y x b)

-- ---- the rows that come before a value, and those that have it

module _ (op : Ranking) (exists : ℕ → Bool) (v : ℕ → ℕ) (m r : ℕ) where
  -- what is known of a row that comes before the value, and of one that has it
  in-above : above op exists v m r ≡ true → (exists r ≡ true) × (ahead op (v r) m ≡ true)
  in-above h = both (exists r) (ahead op (v r) m) h

  in-level : level exists v m r ≡ true → (exists r ≡ true) × (v r ≡ m)
  in-level h = let p = both (exists r) (eqb (v r) m) h in (p.0, eqb-true (v r) m p.1)

  -- no row is both
  pub above-not-level : above op exists v m r ≡ true → level exists v m r ≡ false
  above-not-level a =
      never_true (level exists v m r)
      (λ e. never_both (ahead op (v r) m) (in-above a).1
      (ap (λ (x : ℕ). ahead op x m) (in-level e).1 ∙ ahead-self op m))

-- a set of rows that tests of existence and of the value decide, for some of them with the rows below a cut
pub record CutRows (R : ℕ) (exists : ℕ → Bool) (v : ℕ → ℕ) (p : ℕ → Bool) : Type 0 where
  pub yes : Bool → ℕ → Bool
  pub low : Bool → ℕ → Bool
  pub cut : ℕ
  pub rows : (r : ℕ) → r < R → p r ≡ yes (exists r) (v r) || (low (exists r) (v r) && ltb r cut)

-- ---- ranks

module _ (op : Ranking) (R : ℕ) (exists : ℕ → Bool) (v : ℕ → ℕ) where
  -- row s comes before row r
  abbrev Before : (r s : ℕ) → Type 0
  Before r s = precedes op exists v r s ≡ true

  -- how many rows come before row r
  abbrev rank_of : ℕ → ℕ
  rank_of r = count_below R (precedes op exists v r)

  -- it does by its value
  by_value : (r s : ℕ) → exists s ≡ true → ahead op (v s) (v r) ≡ true → Before r s
  unfolding precedes
  by_value r s e a = rw (e, a)

  -- or by its number
  by_number : (r s : ℕ) → exists s ≡ true → v s ≡ v r → s < r → Before r s
  unfolding precedes
  by_number r s e a l =
      and_both (exists s) _ e
      (or-true (ahead op (v s) (v r)) _ (and_both (eqb (v s) (v r)) _ (eq-eqb (v s) (v r) a) (lt-ltb s r l)))

  -- and in no other way
  before-cases : (r s : ℕ) → Before r s → (exists s ≡ true) × ((ahead op (v s) (v r) ≡ true) ⊎ ((v s ≡ v r) × (s < r)))
  unfolding precedes
  before-cases r s b =
      let p = both (exists s) _ b in (
        p.0,
        ⊎_elim (λ a. inl a)
            (λ c. let q = both (eqb (v s) (v r)) (ltb s r) c in inr (eqb-true (v s) (v r) q.0, ltb-true s r q.1))
            (or_cases (ahead op (v s) (v r)) _ p.1),
      )

  -- a row before one before another is before that too
  before-trans : (r s t : ℕ) → Before r s → Before s t → Before r t
  before-trans r s t b c =
      let p = before-cases r s b in
      let q = before-cases s t c in
      ⊎_elim
      (λ a. ⊎_elim
      (λ d. by_value r t q.0 (ahead-trans op (v t) (v s) (v r) d a))
      (λ d. by_value r t q.0 (subst (λ (x : ℕ). ahead op x (v r) ≡ true) (sym d.0) a))
      q.1)
      (λ a. ⊎_elim
      (λ d. by_value r t q.0 (subst (λ (x : ℕ). ahead op (v t) x ≡ true) a.0 d))
      (λ d. by_number r t q.0 (d.0 ∙ a.0) (omega (arith, d.1, a.1)))
      q.1)
      p.1

  -- and no row before itself
  before_self : (r : ℕ) → precedes op exists v r r ≡ false
  before_self r =
      never_true (precedes op exists v r r)
      (λ e. ⊎_elim
      (λ a. never_both (ahead op (v r) (v r)) a (ahead-self op (v r)))
      (λ a. omega (arith, a.1))
      (before-cases r r e).1)

  -- one of two existing rows comes before the other
  before-total : (r s : ℕ) → exists r ≡ true → exists s ≡ true
      → precedes op exists v r s ≡ false → precedes op exists v s r ≡ false → r ≡ s
  before-total r s er es a b =
      ends
      (ahead-total op (v s) (v r)
      (never_true (ahead op (v s) (v r)) (λ e. never_both (precedes op exists v r s) (by_value r s es e) a))
      (never_true (ahead op (v r) (v s)) (λ e. never_both (precedes op exists v s r) (by_value s r er e) b)))
    where
      ends : v s ≡ v r → r ≡ s
      ends e = elim (dec_le r s) [
        | yes l ↦ elim (dec_le s r) [
          | yes g ↦ omega arith
          | no g ↦ absurd (never_both (precedes op exists v s r) (by_number s r er (sym e) (omega arith)) b)
        ]
        | no l ↦ absurd (never_both (precedes op exists v r s) (by_number r s es e (omega arith)) a)
      ]

  -- fewer rows come before a row that comes before
  rank_less : (r s : ℕ) → s < R → Before r s → rank_of s < rank_of r
  rank_less r s l b =
      count-strict R (precedes op exists v s) (precedes op exists v r) (λ t g c. before-trans r s t b c)
      s l (before_self s) b

  -- fewer than there are
  rank-low : (r : ℕ) → r < R → exists r ≡ true → rank_of r < count_below R exists
  rank-low r l e =
      count-strict R (precedes op exists v r) exists (λ t g c. (before-cases r t c).0) r l (before_self r) e

  -- no two existing rows have the same rank
  rank_same : (r s : ℕ) → r < R → s < R → exists r ≡ true → exists s ≡ true → rank_of r ≡ rank_of s → r ≡ s
  rank_same r s lr ls er es h =
      before-total r s er es
      (never_true (precedes op exists v r s) (λ e. omega (arith, rank_less r s ls e)))
      (never_true (precedes op exists v s r) (λ e. omega (arith, rank_less s r lr e)))

  -- ---- exactly k

  -- the rows that are looked for
  abbrev first : ℕ → ℕ → Bool
  first k = first_rows op R exists v k

  -- how many exist
  abbrev E : ℕ
  E = count_below R exists

  -- the existing rows that have k rows before them
  abbrev at_rank : ℕ → ℕ → Bool
  at_rank k r = exists r && eqb (rank_of r) k

  -- one at most
  at-rank : (k : ℕ) → count_below R (at_rank k) ≤ 1
  at-rank k = count-one R (at_rank k) (λ r s lr ls a b.
      let p = both (exists r) (eqb (rank_of r) k) a in
      let q = both (exists s) (eqb (rank_of s) k) b in
      rank_same r s lr ls p.0 q.0 (eqb-true (rank_of r) k p.1 ∙ sym (eqb-true (rank_of s) k q.1)))

  -- below k + 1: below k, or k
  one_more : (e : Bool) (x k : ℕ) → bit (e && ltb x (suc k)) ≡ bit (e && ltb x k) + bit (e && eqb x k)
  unfolding bit
  one_more false x k = refl
  one_more true x k = elim (dec_le (suc x) k) [
    | yes l ↦ rw (lt-ltb x (suc k) (omega arith), lt-ltb x k l, ne_eqb x k (λ f. absurd (omega arith)))
    | no l ↦ elim (dec_le x k) [
      | yes g ↦ rw (lt-ltb x (suc k) (omega arith), le-ltb x k (omega arith), eq-eqb x k (omega arith))
      | no g ↦ rw (le-ltb x (suc k) (omega arith), le-ltb x k (omega arith), ne_eqb x k (λ f. absurd (omega arith)))
    ]
  ]

  -- so one row more for k + 1
  first_more : (k : ℕ) → count_below R (first (suc k)) ≡ count_below R (first k) + count_below R (at_rank k)
  unfolding first_rows count_below
  first_more k =
      sum-ext R (λ r. bit (first (suc k) r)) (λ r. bit (first k r) + bit (at_rank k r))
      (λ r l. one_more (exists r) (rank_of r) k)
      ∙ sum-add R (λ r. bit (first k r)) (λ r. bit (at_rank k r))

  -- none for 0
  none_first : (r : ℕ) → first 0 r ≡ false
  unfolding first_rows
  none_first r = rw (le-ltb (rank_of r) 0 (omega arith)) (and_no (exists r))

  -- k at most
  first-most : (k : ℕ) → count_below R (first k) ≤ k
  first-most zero = omega (arith, count_none R (first 0) (λ r l. none_first r))
  first-most (suc k) = omega (arith, first_more k, at-rank k, first-most k)

  -- all that exist, for as many
  all_first : (r : ℕ) → r < R → first E r ≡ exists r
  unfolding first_rows
  all_first r l = go (exists r) refl
    where
      go : (e : Bool) → exists r ≡ e → exists r && ltb (rank_of r) E ≡ exists r
      go true h = rw (h, lt-ltb (rank_of r) E (rank-low r l h))
      go false h = rw h

  -- k at least, from the end down
  first-least : (n k : ℕ) → k + n ≡ E → k ≤ count_below R (first k)
  first-least zero k h =
      let e : k ≡ E = omega arith in
      subst (λ (j : ℕ). j ≤ count_below R (first j)) (sym e) (omega (arith, count-ext R (first E) exists all_first))
  first-least (suc n) k h = omega (arith, first-least n (suc k) (omega arith), first_more k, at-rank k)

  -- exactly k
  first_count : (k : ℕ) → k ≤ E → count_below R (first k) ≡ k
  first_count k h = omega (arith, first-most k, first-least (E - k) k (omega arith))

  -- ---- the four properties

  -- a row inside exists, with fewer than k rows before it
  first-in : (k r : ℕ) → first k r ≡ true → (exists r ≡ true) × (rank_of r < k)
  unfolding first_rows
  first-in k r h = let p = both (exists r) (ltb (rank_of r) k) h in (p.0, ltb-true (rank_of r) k p.1)

  -- an existing row outside has k or more
  first_out : (k s : ℕ) → exists s ≡ true → first k s ≡ false → k ≤ rank_of s
  unfolding first_rows
  first_out k s e h = ltb-false (rank_of s) k (rw e at h)

  -- a larger k only adds rows
  more-first : (k m r : ℕ) → k ≤ m → first k r ≡ true → first m r ≡ true
  unfolding first_rows
  more-first k m r h a =
      let p = first-in k r a in
      and_both (exists r) (ltb (rank_of r) m) p.0 (lt-ltb (rank_of r) m (omega (arith, p.1)))

  -- no row outside comes before one inside
  outside-before : (k r s : ℕ) → s < R → first k r ≡ true → first k s ≡ false → exists s ≡ true → Before r s → ⊥
  outside-before k r s l a b e c = omega (arith, (first-in k r a).1, first_out k s e b, rank_less r s l c)

  -- the rows have the four properties
  first-ranked : (k : ℕ) → k ≤ E → Ranked op R exists v k (first k)
  first-ranked k h = record {
    count = first_count k h;
    exist = λ r l a. (first-in k r a).0;
    best = λ r s i l a b e. never_true (ahead op (v s) (v r)) (λ f. outside-before k r s l a b e (by_value r s e f));
    ties = λ r s i l a b e f. ties r s l a b e f;
  }
    where
      differ : (r s : ℕ) → first k r ≡ true → first k s ≡ false → r ≡ s → ⊥
      differ r s a b f = true≢false (sym a ∙ ap (first k) f ∙ b)

      ties : (r s : ℕ) → s < R → first k r ≡ true → first k s ≡ false → exists s ≡ true → v s ≡ v r → r < s
      ties r s l a b e f = elim (dec_le (suc r) s) [
        | yes g ↦ g
        | no g ↦ elim (dec_le r s) [
          | yes i ↦ absurd (differ r s a b (omega arith))
          | no i ↦ absurd (outside-before k r s l a b e (by_number r s e f (omega arith)))
        ]
      ]

  -- two sets with these properties have the same rows
  module _ (k : ℕ) (p q : ℕ → Bool) (f : Ranked op R exists v k p) (g : Ranked op R exists v k q) where
    -- it cannot be that each has a row that the other lacks
    crossed : (r s : ℕ) → r < R → s < R → p r ≡ true → p s ≡ false → q s ≡ true → q r ≡ false → ⊥
    crossed r s lr ls a b c d =
        let er = f.exist r lr a in
        let es = g.exist s ls c in
        let e : v s ≡ v r = ahead-total op (v s) (v r) (f.best r s lr ls a b es) (g.best s r ls lr c d er) in
        omega (arith, f.ties r s lr ls a b es e, g.ties s r ls lr c d er (sym e))

    -- nor that one has, since then the other has too, being of equal size
    one_way : (r : ℕ) → r < R → p r ≡ true → q r ≡ false → ⊥
    one_way r l a b =
        let x = exchange R p q (f.count ∙ sym g.count) r l a b in
        crossed r x.0 l x.1 a x.3 x.2 b

  same_rows : (k : ℕ) (p q : ℕ → Bool) → Ranked op R exists v k p → Ranked op R exists v k q
      → (r : ℕ) → r < R → p r ≡ q r
  same_rows k p q f g r l = go (p r) refl (q r) refl
    where
      go : (t : Bool) → p r ≡ t → (u : Bool) → q r ≡ u → p r ≡ q r
      go true a true b = a ∙ sym b
      go true a false b = absurd (one_way k p q f g r l a b)
      go false a true b = absurd (one_way k q p g f r l b a)
      go false a false b = a ∙ sym b

  -- ---- by the value m

  module _ (m : ℕ) where
    -- the rows before m, and those that have it
    abbrev better : ℕ → Bool
    better = above op exists v m

    abbrev equal : ℕ → Bool
    equal = level exists v m

    -- before a row that comes before the value there are fewer rows than such
    above-rank : (r : ℕ) → r < R → exists r ≡ true → ahead op (v r) m ≡ true → rank_of r < count_below R better
    above-rank r l e a =
        count-strict R (precedes op exists v r) better inner
        r l (before_self r) (and_both (exists r) (ahead op (v r) m) e a)
      where
        inner : (s : ℕ) → s < R → Before r s → better s ≡ true
        inner s g b =
            let p = before-cases r s b in
            and_both (exists s) (ahead op (v s) m) p.0
            (⊎_elim
            (λ d. ahead-trans op (v s) (v r) m d a)
            (λ d. subst (λ (x : ℕ). ahead op x m ≡ true) (sym d.0) a)
            p.1)

    -- before one of the value itself these, and the lower ones of the value
    level-rank : (r : ℕ) → r < R → v r ≡ m → rank_of r ≡ count_below R better + count_below r equal
    level-rank r l e =
        count-ext R (precedes op exists v r) (λ s. better s || (equal s && ltb s r)) (λ s g. same s)
        ∙ count-apart R better (λ s. equal s && ltb s r) (λ s a. rw (above-not-level op exists v m s a))
        ∙ ap (λ (n : ℕ). count_below R better + n) (count_low R r equal (omega arith))
      where
        same : (s : ℕ) → precedes op exists v r s ≡ better s || (equal s && ltb s r)
        same s = unfold precedes in rw e (and-over-or (exists s) (ahead op (v s) m) (eqb (v s) m) (ltb s r))

    -- before one behind the value all of them
    below-rank : (r : ℕ) → ahead op m (v r) ≡ true → count_below R better + count_below R equal ≤ rank_of r
    below-rank r b =
        omega (
          arith,
          count-apart R better equal (above-not-level op exists v m),
          count-mono R (λ s. better s || equal s) (precedes op exists v r)
              (λ s l h. ⊎_elim
              (λ a. let p = in-above op exists v m s a in by_value r s p.0 (ahead-trans op (v s) m (v r) p.1 b))
              (λ a.
              let p = in-level op exists v m s a in
              by_value r s p.0 (subst (λ (x : ℕ). ahead op x (v r) ≡ true) (sym p.1) b))
              (or_cases (better s) (equal s) h)),
        )

    -- THE LAW OF THE PIVOT: the first k rows are those before m, and of those that have m the ones below `cut`, where
    -- these are k
    pub pivot-rows : (k take cut : ℕ) → count_below R (above op exists v m) + take ≡ k
        → take ≤ count_below R (level exists v m) → count_below cut (level exists v m) ≡ take → (r : ℕ) → r < R
        → first_rows op R exists v k r ≡ above op exists v m r || (level exists v m r && ltb r cut)
    unfolding first_rows
    pivot-rows k take cut counts some here r l = go (exists r) refl (ahead op (v r) m) refl (eqb (v r) m) refl
      where
        go : (e : Bool) → exists r ≡ e → (a : Bool) → ahead op (v r) m ≡ a → (q : Bool) → eqb (v r) m ≡ q
            → exists r && ltb (rank_of r) k ≡ (exists r && ahead op (v r) m) || ((exists r && eqb (v r) m) && ltb r cut)
        go false he a ha q hq = rw he
        go true he true ha q hq = rw (he, ha, lt-ltb (rank_of r) k (omega (arith, above-rank r l he ha)))
        go true he false ha true hq =
            rw (he, ha, hq) (same (and_both (exists r) (eqb (v r) m) he hq) (level-rank r l (eqb-true (v r) m hq)))
          where
            same : equal r ≡ true → rank_of r ≡ count_below R better + count_below r equal → ltb (rank_of r) k ≡ ltb r cut
            same y z = elim (dec_le cut r) [
              | yes w ↦
                  le-ltb (rank_of r) k (omega (arith, count-upto equal cut r w))
                  ∙ sym (le-ltb r cut w)
              | no w ↦
                  lt-ltb (rank_of r) k (omega (arith, count-later equal r cut y (omega arith)))
                  ∙ sym (lt-ltb r cut (omega arith))
            ]
        go true he false ha false hq =
            rw (he, ha, hq, le-ltb (rank_of r) k (omega (arith, below-rank r (behind (ahead op m (v r)) refl))))
          where
            behind : (t : Bool) → ahead op m (v r) ≡ t → ahead op m (v r) ≡ true
            behind true z = z
            behind false z = absurd (eqb-false (v r) m hq (ahead-total op (v r) m ha z))

  -- ---- there is such a value, and such a cut

  -- exactly one row has k rows before it, where more than k exist
  rank-there : (k : ℕ) → k < E → IsNth R (at_rank k) 0 (nth_below R (at_rank k) 0)
  rank-there k h =
      (nth-holds R (at_rank k) 0
      (omega (arith, first_more k, first_count k (omega arith), first_count (suc k) (omega arith)))).is

  -- the first k rows, by tests of existence and of the value, and a cut
  pub cut-there : (k : ℕ) → k ≤ E → CutRows R exists v (first_rows op R exists v k)
  cut-there zero h = record {
    yes = λ e x. false;
    low = λ e x. false;
    cut = 0;
    rows = λ r l. none_first r;
  }
  cut-there (suc k) h =
      let s = nth_below R (at_rank k) 0 in
      let i = rank-there k h in
      let m = v s in
      let p = both (exists s) (eqb (rank_of s) k) i.set in
      let own : level exists v m s ≡ true = and_both (exists s) (eqb m m) p.0 (eq-eqb m m refl) in
      record {
        yes = λ e x. e && ahead op x m;
        low = λ e x. e && eqb x m;
        cut = suc s;
        rows =
            pivot-rows m (suc k) (count_below (suc s) (level exists v m)) (suc s)
            (omega (
              arith,
              count_next s (level exists v m) own,
              level-rank m s i.below refl,
              eqb-true (rank_of s) k p.1,
            ))
            (count-upto (level exists v m) (suc s) R i.below)
            refl;
      }

pub rank-laws : RankLaws
rank-laws = record {
  has = first-ranked;
  only = λ op R e v k h p f r l. same_rows op R e v k p (first_rows op R e v k) f (first-ranked op R e v k h) r l;
  none = none_first;
  all = all_first;
  more = more-first;
}
