-- The order of refusals of the calls on columns.
-- Assumes nothing.
use Prim.Native.Nat.{ℕ}
use mathlib.Core.Bool.{Bool, true, ◌||◌}
use mathlib.Core.Path.{◌≡◌, ◌∙◌}
use mathlib.Core.List.{List}
use Rattle.meaning.specs.Limits.{most_column, most_value_column}
use Rattle.meaning.specs.Refusal.{Outcome, refused, answer, sound, ◌then◌}
use Rattle.meaning.specs.Index.{format_of, row_count, SoundIndex, index_fault}
use Rattle.meaning.specs.Answer.{check}
use Rattle.meaning.specs.NewIndex.{index_room, write_index}
use Rattle.column_meaning.specs.Columns.{pair_width, value_at, signed_at, bad_column, bad_row, strays, ask_at, ask_value, value, ask_signed_value, signed_value, pair_column, write_pair, ask_pair, pair}
use Rattle.meaning.specs.declared.Pairing.{Pairing}
use Rattle.laws.specs.ColumnLaws.{GoodValue, GoodPair, ValueOrder, pair_index, PairOrder, OrderLaws}
use Rattle.laws.proofs.Tests.{or-true}
use Rattle.laws.proofs.Outcomes.{refuse-no, refuse-yes, then-sound, then-refused, fits-yes, fits-no}
use Rattle.laws.proofs.StraysFound.{stray-laws}

-- ---- a value, of whatever type

module _ {A : Type 0} (index list : List ℕ) (r : ℕ) (v : A) where
  -- what is told of a row whose value is v
  abbrev pub told : Outcome A
  told = check index then ask_at index list r v

  abbrev no_column : Bool
  no_column = bad_column index most_value_column list

  abbrev no_row : Bool
  no_row = bad_row index list r

  -- what is left where there is neither a fault nor 8
  asks-strays : GoodValue index list r → told ≡ (strays index list then answer v)
  unfolding ask_at check
  asks-strays g =
      then-sound (index_fault index) _ g.is-sound
      ∙ refuse-no (no_column || no_row) 8 0 0 _ (rw (g.good-list, g.good-row))

  -- a bad list or row
  asks-bad : SoundIndex index → no_column || no_row ≡ true → told ≡ refused 8 0 0
  unfolding ask_at check
  asks-bad s e = then-sound (index_fault index) _ s ∙ refuse-yes (no_column || no_row) 8 0 0 _ e

  -- so this is the order of what is told
  pub of-told : ValueOrder index list r told v
  of-told = record {
    faulty = λ n b w e. then-refused (check index) _ n b w e;
    bad-list = λ s e. asks-bad s (rw e);
    bad-row = λ s e. asks-bad s (or-true no_column no_row e);
    stray = λ g i s f.
        asks-strays g
        ∙ then-refused (strays index list) _ _ _ _ (stray-laws.first-given index list i s f);
    answered = λ g n. asks-strays g ∙ then-sound (strays index list) _ n;
  }

-- ---- two columns, whatever the operation

module _ (op : Pairing) (index first second : List ℕ) (room : ℕ) where
  abbrev no_first : Bool
  no_first = bad_column index most_column first

  abbrev no_second : Bool
  no_second = bad_column index most_column second

  -- the last thing that is asked, the room for the answer
  abbrev written : Outcome (List ℕ)
  written = write_pair index op first second room

  abbrev answer_words : List ℕ
  answer_words = pair_index op index first second (pair_width op first second)

  -- what is left where there is neither a fault nor 8
  asks_both : GoodPair index first second
      → pair index op first second room ≡ (strays index first then strays index second then written)
  unfolding pair ask_pair check
  asks_both g =
      then-sound (index_fault index) _ g.is-sound
      ∙ refuse-no (no_first || no_second) 8 0 0 _ (rw (g.good-first, g.good-second))

  -- and no stray
  asks-room : GoodPair index first second → strays index first ≡ sound → strays index second ≡ sound
      → pair index op first second room ≡ written
  asks-room g n m = asks_both g ∙ then-sound (strays index first) _ n ∙ then-sound (strays index second) _ m

  -- a bad list
  asks-bad-pair : SoundIndex index → no_first || no_second ≡ true → pair index op first second room ≡ refused 8 0 0
  unfolding pair ask_pair check
  asks-bad-pair s e = then-sound (index_fault index) _ s ∙ refuse-yes (no_first || no_second) 8 0 0 _ e

  -- so this is the order of an operation
  of_pair : PairOrder op index first second room
  of_pair = record {
    faulty = λ n b w e. unfold pair in then-refused (check index) _ n b w e;
    bad-first = λ s e. asks-bad-pair s (rw e);
    bad-second = λ s e. asks-bad-pair s (or-true no_first no_second e);
    stray-first = λ g i r f.
        asks_both g
        ∙ then-refused (strays index first) _ _ _ _ (stray-laws.first-given index first i r f);
    stray-second = λ g n i r f.
        asks_both g
        ∙ then-sound (strays index first) _ n
        ∙ then-refused (strays index second) _ _ _ _ (stray-laws.first-given index second i r f);
    no_room = λ g n m l.
        asks-room g n m
        ∙ (unfold write_pair in unfold write_index in fits-no (index_room room) answer_words l);
    answered = λ g n m l.
        asks-room g n m
        ∙ (unfold write_pair in unfold write_index in fits-yes (index_room room) answer_words l);
  }

pub order-laws : OrderLaws
unfolding value ask_value signed_value ask_signed_value
order-laws = record {
  of-value = λ index list r. of-told index list r (value_at index list r);
  of-signed = λ index list r. of-told index list r (signed_at index list r);
  of_pair = of_pair;
}
