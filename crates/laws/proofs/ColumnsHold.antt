-- What an operation on two columns answers is a column, whose values are the operation's; and what the answers of several are to each
-- other.
-- Assumes nothing.
use Prim.Native.Nat.{ℕ, zero, suc, ◌-◌, ◌%◌, ◌^◌, ◌≤◌, ◌<◌}
use mathlib.Core.Bool.{Bool, true, false, not, ◌&&◌, ◌||◌, true≢false}
use mathlib.Core.Path.{◌≡◌, refl, sym, ap, ◌∙◌, subst}
use mathlib.Core.List.{List, ◌∷◌}
use lib.Dec.{leb}
use lib.ListN.{length, get_or}
use lib.IntN.{pos, ◌-ℤ◌, -ℤ-+ℤ_cancel}
use native.Mathlib.Nat.{mod-eq_of_lt}
use native.Mathlib.Decide.{dec_le}
use native.Mathlib.Omega.{arith}
use borrow.Author.Tests.{le-leb, lt-leb, leb-false, not-false}
use Rattle.meaning.specs.Limits.{most_column, most_value_column}
use Rattle.meaning.specs.Rows.{none}
use Rattle.meaning.specs.Segment.{tabulate, is_set}
use Rattle.meaning.specs.Refusal.{answer, sound}
use Rattle.meaning.specs.Format.{Canonical}
use Rattle.meaning.specs.Index.{format_of, row_count, bitmap_count, rows_at, SoundIndex, index_fault}
use Rattle.meaning.specs.Question.{intersection}
use Rattle.meaning.specs.Answer.{check, named}
use Rattle.column_meaning.specs.Column.{value_of, slice, slices_from, column_of, whole, pair_value, pair_slices}
use Rattle.column_meaning.specs.Columns.{slice_count, wider, pair_width, existing, slices_of, value_at, signed_at, bad_column, bad_row, strays, ask_value, value, ask_signed_value, signed_value, pair_column, write_pair, ask_pair, pair}
use Rattle.meaning.specs.declared.Pairing.{Pairing}
use Rattle.meaning.specs.declared.Pairing.TheVariants.{Sum, Difference, Smaller, DifferenceOrZero}
use Rattle.laws.specs.ColumnLaws.{NewIndex, most_sum_slices, StrayAt, GoodPair, in_both, or_zero, told_at, ColumnIn, ColumnOf, SignedColumnOf, GivesBack, PairsHold, PartsHold}
use Rattle.laws.proofs.Tests.{or-false}
use Rattle.laws.proofs.Segments.{both as both_hold}
use Rattle.laws.proofs.Outcomes.{refuse-no, refuse-yes, refuse-answer, then-answer}
use Rattle.laws.proofs.RowWords.{length-tabulate, get_d_tabulate}
use Rattle.laws.proofs.IndexSound.{index-means}
use Rattle.laws.proofs.Formats.{canonical-form}
use Rattle.laws.proofs.Demanded.{all-good}
use Rattle.laws.proofs.NewIndexes.{new-index-holds}
use Rattle.laws.proofs.StraysFound.{stray-laws}
use Rattle.laws.proofs.NamedBitmaps.{named-length, named-at, column-length, column-good, column-more}
use Rattle.laws.proofs.ColumnValues.{value-ext, slices-length, slices-at, column-many, column-digits}
use Rattle.laws.proofs.SignedValues.{signed-difference, sign-digit, minus-or-zero}
use Rattle.laws.proofs.ColumnOrder.{told, of-told, order-laws}
use Rattle.laws.proofs.ColumnDigits.{below_wider, sum_below}

-- ---- what is known where an operation answers

-- how many slices the answer has, against those of the wider column
pub pair-slices : (op : Pairing) (w : ℕ) → (w ≤ pair_slices op w) × (pair_slices op w ≤ suc w)
unfolding pair_slices
pair-slices Sum w = (omega arith, omega arith)
pair-slices Difference w = (omega arith, omega arith)
pair-slices Smaller w = (omega arith, omega arith)
pair-slices DifferenceOrZero w = (omega arith, omega arith)

-- the number made of a row's two values
abbrev pair_at : (op : Pairing) (index first second : List ℕ) → ℕ → ℕ
pair_at op index first second r =
    pair_value op (pair_width op first second) (value_at index first r) (value_at index second r)

-- nothing was refused, the answer has 1 to 33 slices, and it is the new index
record Answered (op : Pairing) (index first second out : List ℕ) : Type 0 where
  good : GoodPair index first second
  first-strays : strays index first ≡ sound
  second-strays : strays index second ≡ sound
  some : 1 ≤ pair_width op first second
  most : pair_width op first second ≤ most_sum_slices
  new : NewIndex (format_of index) (row_count index)
      (column_of (in_both index first second) (pair_at op index first second) (pair_width op first second)) out

-- which holds of every answer
answered : (op : Pairing) (index first second : List ℕ) (room : ℕ) (out : List ℕ)
    → pair index op first second room ≡ answer out → Answered op index first second out
unfolding pair ask_pair write_pair check pair_width wider slice_count pair_column intersection
answered op index first second room out e =
    let a = then-answer (index_fault index) _ out e in
    let b = refuse-answer (bad_column index most_column first || bad_column index most_column second) 8 0 0 _ out a.1 in
    let c = then-answer (strays index first) _ out b.1 in
    let d = then-answer (strays index second) _ out c.1 in
    let f = or-false (bad_column index most_column first) (bad_column index most_column second) b.0 in
    let l = column-length index most_column first f.0 in
    let m = column-length index most_column second f.1 in
    let n = pair-slices op (wider first second) in
    let many = column-many (in_both index first second) (pair_at op index first second) (pair_width op first second) in
    let most : pair_width op first second ≤ most_sum_slices = omega (arith, l.1, m.1, n.1) in
    record {
      good = record { is-sound = a.0; good-first = f.0; good-second = f.1 };
      first-strays = c.0;
      second-strays = d.0;
      some = omega (arith, l.0, n.0);
      most = most;
      new =
          new-index-holds (format_of index) (row_count index) _ room out ((index-means index).0 a.0).head.few-rows
          (omega arith) d.1;
    }

-- ---- the answer is a column

module _ {op : Pairing} {index first second out : List ℕ} (a : Answered op index first second out) where
  abbrev both : ℕ → Bool
  both = in_both index first second

  abbrev v : ℕ → ℕ
  v = pair_at op index first second

  abbrev n : ℕ
  n = pair_width op first second

  abbrev R : ℕ
  R = row_count index

  -- its slices' numbers
  abbrev ks : List ℕ
  ks = tabulate n (λ i. suc i)

  -- its first bitmap is the rows that exist in both columns
  out-exists : (r : ℕ) → r < R → rows_at out 0 r ≡ both r
  unfolding column_of
  out-exists r h = a.new.sets 0 r (omega (arith, column-many both v n)) h

  -- slice i made of the values
  slice_at : (i r : ℕ) → i < n → get_or (slices_from both v 0 n) i none r ≡ slice both v i r
  slice_at i r l =
      ap (λ (p : ℕ → Bool). p r) (slices-at both v 0 n i l) ∙ ap (λ (k : ℕ). slice both v k r) (omega arith)

  -- is its bitmap i + 1
  out-slices : (i r : ℕ) → i < n → r < R → rows_at out (suc i) r ≡ slice both v i r
  unfolding column_of
  out-slices i r l h = a.new.sets (suc i) r (omega (arith, column-many both v n)) h ∙ slice_at i r l

  -- each of its bitmaps has rows that exist alone
  within : (k r : ℕ) → k ≤ n → r < R → rows_at out k r ≡ true → both r ≡ true
  unfolding slice
  within zero r l h e = sym (out-exists r h) ∙ e
  within (suc i) r l h e = (both_hold (both r) (is_set (v r) i) (sym (out-slices i r (omega arith) h) ∙ e)).0

  -- so nothing strays
  no-strays : (ls : List ℕ) → ((i : ℕ) → i < length ls → get_or ls i 0 ≤ n) → strays out (0 ∷ ls) ≡ sound
  no-strays ls l = (stray-laws.none-means out (0 ∷ ls)).1 not-stray
    where
      not-stray : (i r : ℕ) → StrayAt out (0 ∷ ls) i r → ⊥
      not-stray i r s =
          let h : r < R = omega (arith, s.row-there, a.new.rows) in
          let e = within (get_or ls i 0) r (l i (omega (arith, s.slice-there))) h s.has in
          true≢false (sym e ∙ sym (out-exists r h) ∙ (unfold existing in s.lacks))

  -- which its slices' numbers have at place i
  slice_rows : (i r : ℕ) → i < n → r < R → rows_at out (get_or ks i 0) r ≡ slice both v i r
  slice_rows i r l h = ap (λ (k : ℕ). rows_at out k r) (get_d_tabulate n (λ i. suc i) i l) ∙ out-slices i r l h

  -- nor does anything in the whole
  out-strays : strays out (whole n) ≡ sound
  unfolding tabulate
  out-strays = no-strays ks there
    where
      there : (i : ℕ) → i < length ks → get_or ks i 0 ≤ n
      there i l =
          let h : i < n = omega (arith, length-tabulate n (λ i. suc i)) in
          omega (arith, get_d_tabulate n (λ i. suc i) i h)

  -- the list of the whole names n slices
  ks-many : length (named out ks) ≡ n
  ks-many = named-length out ks ∙ length-tabulate n (λ i. suc i)

  -- which are those made of the values
  named-slices : (i r : ℕ) → i < n → r < R
      → get_or (named out ks) i none r ≡ get_or (slices_from both v 0 n) i none r
  named-slices i r l h =
      ap (λ (p : ℕ → Bool). p r) (named-at out ks i (omega (arith, length-tabulate n (λ i. suc i))))
      ∙ slice_rows i r l h
      ∙ sym (slice_at i r l)

  -- so their plain value, at a row that exists, is the n lowest digits of the number made of the two values
  out-value : (r : ℕ) → r < R → both r ≡ true → value_of (named out ks) r ≡ v r % 2 ^ n
  out-value r h e =
      value-ext (named out ks) (slices_from both v 0 n) r (ks-many ∙ sym (slices-length both v 0 n))
      (λ i l. named-slices i r (omega (arith, ks-many)) h)
      ∙ column-digits both v r e n

  -- that list has n + 1 numbers
  whole_length : length (whole n) ≡ suc n
  whole_length = length-tabulate (suc n) (λ i. i)

  -- each a bitmap's
  whole-there : (i : ℕ) → i < length (whole n) → get_or (whole n) i 0 < bitmap_count out
  whole-there i l =
      let h : i < suc n = omega (arith, whole_length) in
      omega (arith, get_d_tabulate (suc n) (λ i. i) i h, a.new.count, column-many both v n)

  -- and is good for a value
  good-list : bad_column out most_value_column (whole n) ≡ false
  good-list =
      column-good out most_value_column (whole n)
      (omega (arith, whole_length, a.some)) (omega (arith, whole_length, a.most)) (all-good out (whole n) whole-there)

  -- whether a row is bad, by its own rows
  row-test : (r : ℕ) → bad_row out (whole n) r ≡ leb R r || not (rows_at out 0 r)
  unfolding bad_row existing tabulate
  row-test r = rw a.new.rows

  -- and by those of the two columns
  row-bad : (r : ℕ) → bad_row out (whole n) r ≡ leb R r || not (both r)
  row-bad r = elim (dec_le R r) [
    | yes l ↦ row-test r ∙ rw (le-leb R r l)
    | no l ↦ row-test r ∙ rw (out-exists r (omega arith))
  ]

  -- what is told of a row: 8 for a bad row, and else its value
  out-told : {A : Type 0} (f w : ℕ → A) (r : ℕ) → (r < R → both r ≡ true → f r ≡ w r)
      → told out (whole n) r (f r) ≡ told_at index first second w r
  out-told f w r h = go (leb R r || not (both r)) refl
    where
      go : (t : Bool) → leb R r || not (both r) ≡ t → told out (whole n) r (f r) ≡ told_at index first second w r
      go true e =
          (of-told out (whole n) r (f r)).bad-row a.new.is-sound (row-bad r ∙ e)
          ∙ sym (refuse-yes (leb R r || not (both r)) 8 0 0 _ e)
      go false e =
          let q = or-false (leb R r) (not (both r)) e in
          (of-told out (whole n) r (f r)).answered
          (record { is-sound = a.new.is-sound; good-list = good-list; good-row = row-bad r ∙ e }) out-strays
          ∙ ap answer (h (leb-false R r q.0) (not-false (both r) q.1))
          ∙ sym (refuse-no (leb R r || not (both r)) 8 0 0 _ e)

  -- so it is a column
  is-column : ColumnIn index first second n out
  is-column = record {
    is-sound = a.new.is-sound;
    format = a.new.format;
    rows = a.new.rows;
    count = a.new.count ∙ column-many both v n;
    forms = λ k h.
        subst (Canonical (format_of index) R) (sym (a.new.bodies k (omega (arith, column-many both v n))))
        (canonical-form (format_of index) R _);
    exists = out-exists;
    no-strays = no-strays;
  }

  -- whose values are the operation's, where these have no more digits than it has slices
  of-numbers : ((r : ℕ) → v r < 2 ^ n) → ColumnOf index first second n v out
  unfolding value ask_value value_at slices_of tabulate
  of-numbers low = record {
    column = is-column;
    slices = out-slices;
    values = λ r. out-told (value_at out (whole n)) v r (λ l e. out-value r l e ∙ mod-eq_of_lt (low r));
  }

-- ---- each operation

-- what is answered of a row of a column that an operation takes
reads : (index list : List ℕ) (r : ℕ)
    → SoundIndex index → bad_column index most_column list ≡ false → strays index list ≡ sound
    → r < row_count index → existing index list r ≡ true → value index list r ≡ answer (value_at index list r)
reads index list r is-sound good no-strays l e =
    (order-laws.of-value index list r).answered
    (record {
      is-sound = is-sound;
      good-list = column-more index most_column most_value_column list (omega arith) good;
      good-row = unfold bad_row in rw (lt-leb (row_count index) r l, e);
    })
    no-strays

-- a row that exists in both is no bad one of the answer
row-there : (index first second : List ℕ) (r : ℕ) → r < row_count index → in_both index first second r ≡ true
    → leb (row_count index) r || not (in_both index first second r) ≡ false
row-there index first second r l e = rw (lt-leb (row_count index) r l, e)

module _ {index first second out : List ℕ} (a : Answered Difference index first second out) where
  -- of a difference the lowest digits stay, which are its two's complement
  of-difference : SignedColumnOf index first second (suc (wider first second))
      (λ r. pos (value_at index first r) -ℤ pos (value_at index second r)) out
  unfolding signed_value ask_signed_value signed_at slices_of tabulate pair_width pair_slices pair_value slice
  of-difference = record {
    column = is-column a;
    sign = λ r l.
        let low = below_wider index first second r in
        out-slices a (wider first second) r (omega arith) l
        ∙ ap (λ (t : Bool). both a r && t)
        (sign-digit (wider first second) (value_at index first r) (value_at index second r) low.0 low.1);
    values = λ r.
        let x = value_at index first in
        let y = value_at index second in
        let w = wider first second in
        let low = below_wider index first second r in
        out-told a (signed_at out (whole (suc w))) (λ s. pos (x s) -ℤ pos (y s)) r
        (λ l e. signed-difference (named out (ks a)) r w (ks-many a) (x r) (y r) low.0 low.1 (out-value a r l e));
  }

  -- so with the second's value it gives the first's back
  gives_back : (r : ℕ) → r < row_count index → in_both index first second r ≡ true → GivesBack index first second out r
  gives_back r l e =
      let b = both_hold (existing index first r) (existing index second r) e in
      let x = value_at index first r in
      let y = value_at index second r in
      record {
        x = x;
        y = y;
        z = pos x -ℤ pos y;
        first-is = reads index first r a.good.is-sound a.good.good-first a.first-strays l b.0;
        second_is = reads index second r a.good.is-sound a.good.good-second a.second-strays l b.1;
        difference-is = of-difference.values r ∙ refuse-no _ 8 0 0 _ (row-there index first second r l e);
        back = -ℤ-+ℤ_cancel (pos x) (pos y);
      }

pub pairs-hold : PairsHold
unfolding pair_width pair_slices pair_value
pairs-hold index first second room out =
    let low = below_wider index first second in
    record {
      of-sum = λ e. of-numbers (answered Sum index first second room out e) (sum_below index first second);
      of-difference = λ e. of-difference (answered Difference index first second room out e);
      of-smaller = λ e. of-numbers (answered Smaller index first second room out e) (λ r. omega (arith, low r));
      of_zero = λ e. of-numbers (answered DifferenceOrZero index first second room out e) (λ r. omega (arith, low r));
      gives_back = λ e. gives_back (answered Difference index first second room out e);
    }

pub parts-hold : PartsHold
parts-hold index first second room d o m e f g r l h =
    let a = answered Difference index first second room d e in
    let b = both_hold (existing index first r) (existing index second r) h in
    let x = value_at index first r in
    let y = value_at index second r in
    let zero : x - y ≡ or_zero (pos x -ℤ pos y) = minus-or-zero x y in
    let there = row-there index first second r l h in
    let at = pairs-hold index first second room in
    record {
      x = x;
      y = y;
      z = pos x -ℤ pos y;
      first-is = reads index first r a.good.is-sound a.good.good-first a.first-strays l b.0;
      second_is = reads index second r a.good.is-sound a.good.good-second a.second-strays l b.1;
      difference-is = ((at d).of-difference e).values r ∙ refuse-no _ 8 0 0 _ there;
      zero_is = ((at o).of_zero f).values r ∙ refuse-no _ 8 0 0 _ there ∙ ap answer zero;
      smaller-is = ((at m).of-smaller g).values r ∙ refuse-no _ 8 0 0 _ there;
      parts = omega (arith, zero);
    }
