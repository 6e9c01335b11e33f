-- What holds of the k largest or smallest rows of a column (request 8), for a reader to find in one place: what tells them from all other
-- rows, demand 3 of both questions, and the order of refusals. `RankLaws` is proved in `proofs/Ranking`, the others in `proofs/RankHolds`.
-- Assumes nothing.
use Rattle.std.specs.Prelude.{ℕ, suc, ◌≤◌, ◌<◌, Bool, true, false, ◌≡◌, ◌↔◌, List, length, get_or}
use Rattle.meaning.specs.Limits.{least_column, most_column}
use Rattle.meaning.specs.Rows.{count_below}
use Rattle.meaning.specs.Refusal.{Outcome, refused, answer, sound}
use Rattle.meaning.specs.Format.{rows_of, canonical}
use Rattle.meaning.specs.Index.{SoundIndex, format_of, row_count, bitmap_count}
use Rattle.meaning.specs.Answer.{buffer_after, write, check, named_bodies}
use Rattle.column_meaning.specs.Ranking.{ahead, first_rows}
use Rattle.column_meaning.specs.Columns.{existing, value_at, bad_column, bad_rank, strays, ranked_rows, ranked}
use Rattle.meaning.specs.declared.Ranking.{Ranking}
use Rattle.laws.specs.Demands.{Demand3}
use Rattle.laws.specs.ColumnLaws.{StrayAt, FirstStray}

-- ---- the rows, told by four properties

-- of R rows p has the first k, where those of `exists` have the values v
pub record Ranked (op : Ranking) (R : ℕ) (exists : ℕ → Bool) (v : ℕ → ℕ) (k : ℕ) (p : ℕ → Bool) : Type 0 where
  -- exactly k rows, all existing
  pub count : count_below R p ≡ k
  pub exist : (r : ℕ) → r < R → p r ≡ true → exists r ≡ true
  -- no existing row outside has a better value than one inside
  pub best : (r s : ℕ) → r < R → s < R → p r ≡ true → p s ≡ false → exists s ≡ true → ahead op (v s) (v r) ≡ false
  -- of equal values the lowest rows are taken: an existing row outside that has the value of one inside is the higher row
  pub ties : (r s : ℕ) → r < R → s < R → p r ≡ true → p s ≡ false → exists s ≡ true → v s ≡ v r → r < s

pub record RankLaws : Type 0 where
  -- the definition's rows have these properties, and no other rows have them
  pub has : (op : Ranking) (R : ℕ) (exists : ℕ → Bool) (v : ℕ → ℕ) (k : ℕ) → k ≤ count_below R exists
      → Ranked op R exists v k (first_rows op R exists v k)
  pub only : (op : Ranking) (R : ℕ) (exists : ℕ → Bool) (v : ℕ → ℕ) (k : ℕ) → k ≤ count_below R exists
      → (p : ℕ → Bool) → Ranked op R exists v k p → (r : ℕ) → r < R → p r ≡ first_rows op R exists v k r
  -- none of 0, all that exist of as many as exist, and a larger k only adds rows
  pub none : (op : Ranking) (R : ℕ) (exists : ℕ → Bool) (v : ℕ → ℕ) (r : ℕ) → first_rows op R exists v 0 r ≡ false
  pub all : (op : Ranking) (R : ℕ) (exists : ℕ → Bool) (v : ℕ → ℕ) (r : ℕ) → r < R
      → first_rows op R exists v (count_below R exists) r ≡ exists r
  pub more : (op : Ranking) (R : ℕ) (exists : ℕ → Bool) (v : ℕ → ℕ) (k m r : ℕ) → k ≤ m
      → first_rows op R exists v k r ≡ true → first_rows op R exists v m r ≡ true

-- ---- the questions

-- what demand 3 is about: a sound index, a column of 1 to 32 slices, no more rows asked for than exist, and no slice with a row that
-- does not exist
pub record RankAsked (index list : List ℕ) (k : ℕ) : Type 0 where
  pub is_sound : SoundIndex index
  pub least : least_column ≤ length list
  pub most : length list ≤ most_column
  pub its : (i : ℕ) → i < length list → get_or list i 0 < bitmap_count index
  pub so-many : k ≤ count_below (row_count index) (existing index list)
  pub no-strays : (i r : ℕ) → StrayAt index list i r → ⊥

-- it is asked exactly where none of the check, 8 and 11 refuses
abbrev pub RankAskedMeans : Type 0
RankAskedMeans =
    (index list : List ℕ) (k : ℕ)
    → RankAsked index list k ↔ ((check index ≡ sound) × (bad_rank index list k ≡ false) × (strays index list ≡ sound))

-- of a question's outcome and of the buffer left behind
pub record RankDemand (op : Ranking) (index list : List ℕ) (k : ℕ) (buffer : List ℕ) (o : Outcome (List ℕ)) (buffer' : List ℕ)
    : Type 0 where
  -- the right rows are the k of largest or smallest values, ties to the lowest rows
  pub right : Ranked op (row_count index) (existing index list) (value_at index list) k (ranked_rows index op list k)
  pub demand : Demand3 (format_of index) (row_count index) (ranked_rows index op list k) (named_bodies index list) buffer o buffer'

pub record RankHolds : Type 0 where
  pub asked-means : RankAskedMeans
  -- demand 3, for every buffer
  pub demand : (op : Ranking) (index list : List ℕ) (k : ℕ) (buffer : List ℕ) → RankAsked index list k
      → RankDemand op index list k buffer (ranked index op list k (length buffer))
      (buffer_after (ranked index op list k (length buffer)) buffer)
  -- of all rows that exist, the body is that of the existence bitmap's rows
  pub all : (op : Ranking) (index list : List ℕ) (room : ℕ)
      → RankAsked index list (count_below (row_count index) (existing index list))
      → ranked index op list (count_below (row_count index) (existing index list)) room
      ≡ write (format_of index) (row_count index) (existing index list) room
  -- an answer for a larger k has every row of one for a smaller k
  pub more : (op : Ranking) (index list : List ℕ) (k m room room' : ℕ) (a b : List ℕ) → k ≤ m
      → ranked index op list k room ≡ answer a → ranked index op list m room' ≡ answer b
      → (r : ℕ) → r < row_count index → rows_of (format_of index) a r ≡ true → rows_of (format_of index) b r ≡ true

-- ---- the order of refusals: the index's own faults; on a sound index a bad list or too large a k, whatever strays; a stray, whatever
-- the room; 9 with the words needed, if there is less room; and else the answer

-- the canonical body of the answer's rows
abbrev pub ranked_body : (op : Ranking) (index list : List ℕ) (k : ℕ) → List ℕ
ranked_body op index list k = canonical (format_of index) (row_count index) (ranked_rows index op list k)

-- nothing is refused with one of the index's own faults or with 8
pub record GoodRank (index list : List ℕ) (k : ℕ) : Type 0 where
  pub is-sound : SoundIndex index
  pub good-list : bad_column index most_column list ≡ false
  pub so-many : k ≤ count_below (row_count index) (existing index list)

pub record RankOrder (op : Ranking) (index list : List ℕ) (k room : ℕ) : Type 0 where
  pub faulty : (number bitmap word : ℕ) → check index ≡ refused number bitmap word
      → ranked index op list k room ≡ refused number bitmap word
  pub bad-list : SoundIndex index → bad_column index most_column list ≡ true → ranked index op list k room ≡ refused 8 0 0
  pub too_many : SoundIndex index → count_below (row_count index) (existing index list) < k
      → ranked index op list k room ≡ refused 8 0 0
  pub stray : GoodRank index list k
      → (i r : ℕ) → FirstStray index list i r → ranked index op list k room ≡ refused 11 (get_or list (suc i) 0) r
  pub no_room : GoodRank index list k → strays index list ≡ sound → room < length (ranked_body op index list k)
      → ranked index op list k room ≡ refused 9 0 (length (ranked_body op index list k))
  pub answered : GoodRank index list k → strays index list ≡ sound → length (ranked_body op index list k) ≤ room
      → ranked index op list k room ≡ answer (ranked_body op index list k)

abbrev pub RankOrderHolds : Type 0
RankOrderHolds = (op : Ranking) (index list : List ℕ) (k room : ℕ) → RankOrder op index list k room
