-- The digits of a column's k-th value, found from the top one down: a column's top slices as a column, and one digit
-- more.
-- Assumes nothing.
use Prim.Native.Nat.{ℕ, zero, suc, ◌+◌, ◌-◌, ◌*◌, ◌/◌, ◌^◌, ◌≤◌, ◌<◌}
use mathlib.Core.Bool.{Bool}
use mathlib.Core.Path.{◌≡◌, refl, sym, ap, ◌∙◌, subst, subst₂}
use mathlib.Core.List.{List, [], ◌∷◌}
use lib.ListN.{length, get_or, take, drop, length-drop}
use lib.Pow.{pow_pos, shr-shr}
use lib.Seq.{get_or-drop}
use native.Mathlib.Nat.{div-one, div-eq_of_lt}
use native.Mathlib.Decide.{dec_le}
use native.Mathlib.Omega.{arith}
use Rattle.meaning.specs.Rows.{bit, count_below}
use Rattle.meaning.specs.Index.{row_count, bitmap_count}
use Rattle.meaning.specs.Answer.{named}
use Rattle.column_meaning.specs.Column.{value_of}
use Rattle.column_meaning.specs.Columns.{slice_count, existing, slices_of, value_at}
use Rattle.meaning.specs.declared.Ranking.{Ranking}
use Rattle.laws.specs.Pivot.{level, lead, level_from, Narrowed}
use Rattle.laws.proofs.RowWords.{bit_le}
use Rattle.laws.proofs.Counting.{count-ext}
use Rattle.laws.proofs.ColumnDigits.{below_more}
use Rattle.laws.proofs.Pivoting.{lead_low, narrowed_none, narrowed-lead, narrowed-other, narrowed-all}
use Rattle.ranks.specs.Frames.{Column}
use Rattle.ranks.specs.Found.{Top, Stepped, PivotOf}

-- ---- a list's first number, and those from place `from` on

abbrev top_of : (list : List ℕ) (from : ℕ) → List ℕ
top_of list from = get_or list 0 0 ∷ drop from list

-- number i of it
abbrev pub top_at : (list : List ℕ) (from : ℕ) → ℕ → ℕ
top_at list from i = get_or (top_of list from) i 0

module _ (list : List ℕ) (from : ℕ) (first : 1 ≤ from) where
  -- how many there are
  top-length : length (top_of list from) ≡ length list - from + 1
  top-length = omega (arith, length-drop from list)

  -- each names a bitmap where the list's do
  top-its : (n : ℕ) → ((i : ℕ) → i < length list → get_or list i 0 < n) → from < length list → (i : ℕ)
      → i < length (top_of list from) → top_at list from i < n
  top-its n its h zero l = its 0 (omega arith)
  top-its n its h (suc i) l =
      subst (λ (k : ℕ). k < n) (sym (get_or-drop from list i 0)) (its (from + i) (omega (arith, top-length)))

  -- so of a column they are one too, with one slice at least
  top-column : {index : List ℕ} → Column index list → from < length list → Column index (top_of list from)
  top-column {index} g h = record {
    facts = g.facts;
    listed = record {
      most = omega (arith, top-length, g.listed.most);
      its = top-its (bitmap_count index) g.listed.its h;
    };
    some = omega (arith, top-length);
    few = omega (arith, top-length, g.few);
  }

-- ---- the top slices as a column

-- without its i lowest slices a column has the values without their i lowest digits
value-drop : (i : ℕ) (ps : List (ℕ → Bool)) (r : ℕ) → value_of (drop i ps) r ≡ value_of ps r / 2 ^ i
unfolding value_of
value-drop zero ps r = sym (div-one (value_of ps r))
value-drop (suc i) [] r = sym (div-eq_of_lt (pow_pos (suc i)))
value-drop (suc i) (p ∷ ps) r =
    let v = bit (p r) + 2 * value_of ps r in
    let h : value_of ps r ≡ v / 2 ^ 1 = omega (arith, bit_le (p r)) in
    value-drop i ps r ∙ ap (λ (x : ℕ). x / 2 ^ i) h ∙ shr-shr v 1 i ∙ ap (λ (n : ℕ). v / 2 ^ n) (omega arith)

-- the bitmaps of a list's rest
named-drop : (index : List ℕ) (i : ℕ) (ks : List ℕ) → named index (drop i ks) ≡ drop i (named index ks)
unfolding named
named-drop index zero ks = refl
named-drop index (suc i) [] = refl
named-drop index (suc i) (k ∷ ks) = named-drop index i ks

module _ (index : List ℕ) where
  -- it has the same rows
  top-existing : (list : List ℕ) (from r : ℕ) → from < length list
      → existing index (top_of list from) r ≡ existing index list r
  unfolding existing
  top-existing [] from r h = absurd (omega arith)
  top-existing (k ∷ ks) from r h = refl

  -- and of their values the upper digits
  top-value : (list : List ℕ) (from r : ℕ) → 1 ≤ from → from < length list
      → value_at index (top_of list from) r ≡ value_at index list r / 2 ^ (from - 1)
  unfolding value_at slices_of
  top-value list zero r l h = absurd (omega arith)
  top-value [] (suc i) r l h = absurd (omega arith)
  top-value (k ∷ ks) (suc i) r l h =
      ap (λ (ps : List (ℕ → Bool)). value_of ps r) (named-drop index i ks) ∙ value-drop i (named index ks) r
      ∙ ap (λ (n : ℕ). value_of (named index ks) r / 2 ^ n) (omega arith)

  -- so these are counted in it
  top_count : (list : List ℕ) (from m : ℕ) → 1 ≤ from → from < length list
      → count_below (row_count index) (level (existing index (top_of list from)) (value_at index (top_of list from)) m)
      ≡ level_from (row_count index) (existing index list) (value_at index list) (from - 1) m
  top_count list from m l h =
      count-ext (row_count index) (level (existing index (top_of list from)) (value_at index (top_of list from)) m)
      (level (existing index list) (λ s. value_at index list s / 2 ^ (from - 1)) m)
      (λ r g. rw (top-existing list from r h, top-value list from r l h))

-- the part of r that is lent as a list of numbers
abbrev top_part : (list r : List ℕ) (from : ℕ) → List ℕ
top_part list r from = take (length list - from + 1) r

module _ (list r : List ℕ) (from : ℕ) (t : Top list from r) where
  -- it is a column, and a value of as many digits fits it
  pub top-fits : {index : List ℕ} (m : ℕ) → Column index list → 1 ≤ from → from < length list
      → m < 2 ^ (length list - from)
      → Column index (top_part list r from) × (m < 2 ^ slice_count (top_part list r from))
  unfolding slice_count
  top-fits {index} m g l h v =
      let slices : length (top_of list from) - 1 ≡ length list - from = omega (arith, top-length list from l) in
      rw (t, slices) (top-column list from l g h, v)

  -- what is counted in it
  pub top-counted : (index : List ℕ) (c m : ℕ) → 1 ≤ from → from < length list
      → c ≡ count_below (row_count index)
      (level (existing index (top_part list r from)) (value_at index (top_part list r from)) m)
      → c ≡ level_from (row_count index) (existing index list) (value_at index list) (from - 1) m
  top-counted index c m l h e = rw t at e ∙ top_count index list from m l h

-- ---- one digit more

-- from the digits from place i + 1 on to those from place i on, where c rows have them and then the leading one
narrowed-more : {op : Ranking} {R : ℕ} {exists : ℕ → Bool} {v : ℕ → ℕ} {k i P c q take take' : ℕ}
    → Narrowed op R exists v k (suc i) P take → c ≡ level_from R exists v i (2 * P + lead op)
    → Stepped P take c (lead op) q take' → Narrowed op R exists v k i q take'
narrowed-more {op} {R} {exists} {v} {k} {i} {P} {c} {q} {take} {take'} g e s = elim (dec_le take c) [
  | yes h ↦
      let t = s.enough h in
      subst₂ (Narrowed op R exists v k i) (sym t.0) (sym t.1) (narrowed-lead g (omega (arith, e)))
  | no h ↦
      let t = s.fewer (omega arith) in
      subst₂ (Narrowed op R exists v k i) (sym t.0) (sym (t.1 ∙ ap (λ (n : ℕ). take - n) e))
      (narrowed-other g (omega (arith, e)))
]

-- the k-th value of a column has the digits P from place `left` on, of which `take` rows are taken
pub record Finding (index list : List ℕ) (k first P take left : ℕ) : Type 0 where
  pub within : left < length list
  pub low : P < 2 ^ (length list - 1 - left)
  pub digit : first < 2
  pub digits : (op : Ranking) → lead op ≡ first
      → Narrowed op (row_count index) (existing index list) (value_at index list) k left P take

-- at the start no digit is known
pub finding-none : {index list : List ℕ} (op : Ranking) (k first : ℕ) → Column index list → first ≡ lead op
    → k ≤ count_below (row_count index) (existing index list) → Finding index list k first 0 k (length list - 1)
unfolding slice_count
finding-none {index} {list} op k first g e h = record {
  within = omega (arith, g.some);
  low = pow_pos (length list - 1 - (length list - 1));
  digit = omega (arith, e, lead_low op);
  digits = λ o f. narrowed_none o (row_count index) (existing index list) (value_at index list) k (length list - 1) h
      (λ r. below_more index list r (length list - 1) (omega arith));
}

module _ {index list : List ℕ} {k first P take left : ℕ} (g : Finding index list k first P take left) where
  -- with one digit more there are as many as slices from there on
  pub finding-low : (x q : ℕ) → 0 < left → x < 2 → q ≡ 2 * P + x → q < 2 ^ (length list - left)
  finding-low x q h l e =
      let s : length list - left ≡ suc (length list - 1 - left) = omega (arith, g.within) in
      rw s (omega (arith, g.low))

  -- one digit more
  pub finding-more : {c q take' : ℕ} → 0 < left
      → c ≡ level_from (row_count index) (existing index list) (value_at index list) (left - 1) (2 * P + first)
      → Stepped P take c first q take' → Finding index list k first q take' (left - 1)
  finding-more {c} {q} {take'} h e s = record {
    within = omega (arith, g.within);
    low = subst (λ (n : ℕ). q < 2 ^ n) (omega arith) below;
    digit = g.digit;
    digits = λ op f.
        narrowed-more {op = op}
        (subst (λ (n : ℕ). Narrowed op (row_count index) (existing index list) (value_at index list) k n P take)
        (omega arith) (g.digits op f))
        (rw (← f) at e) (rw (← f) at s);
  }
    where
      below : q < 2 ^ (length list - left)
      below = elim (dec_le take c) [
        | yes l ↦ finding-low first q h g.digit (s.enough l).0
        | no l ↦ finding-low (1 - first) q h (omega arith) (s.fewer (omega arith)).0
      ]

  -- at the end it is the value
  pub finding-all : (op : Ranking) → left ≡ 0 → first ≡ lead op → PivotOf op index list k P take
  unfolding slice_count
  finding-all op z e =
      let a = narrowed-all (rw z at (g.digits op (sym e))) in
      record { low = subst (λ (n : ℕ). P < 2 ^ n) (omega arith) g.low; counts = a.0; some = a.1 }
