-- What holds of new indexes and of columns, for a reader to find in one place. `NewIndexHolds` and `NewIndexRoomHolds` are proved in
-- `proofs/NewIndexes`, `StrayLaws` in `StraysFound`, `DigitLaws` and `SignLaws` in `ColumnDigits`, `OrderLaws` in `ColumnOrder`,
-- `PairsHold` and `PartsHold` in `ColumnsHold`.
-- Assumes nothing.
use Rattle.std.specs.Prelude.{ℕ, suc, ◌+◌, ◌-◌, ◌*◌, ◌%◌, ◌^◌, ◌≤◌, ◌<◌, min, Bool, true, false, not, ◌&&◌, ◌||◌, ◌≡◌, ◌↔◌, List, [], ◌∷◌, leb, length, get_or, ℤ, pos, negsuc, nat_abs, ◌+ℤ◌, ◌-ℤ◌}
use Rattle.std.specs.Int.Signed.{mag, non_neg}
use Rattle.meaning.specs.Limits.{most_rows, most_bitmaps, most_index_words, most_column, most_value_column}
use Rattle.meaning.specs.Rows.{bit, none}
use Rattle.meaning.specs.Refusal.{Outcome, refused, answer, sound, refuse_if}
use Rattle.meaning.specs.Format.{canonical, Canonical}
use Rattle.meaning.specs.Index.{format_of, row_count, bitmap_count, body_at, rows_at, SoundIndex}
use Rattle.meaning.specs.declared.Format.{Format}
use Rattle.meaning.specs.Answer.{check}
use Rattle.meaning.specs.NewIndex.{index_of, index_room, write_index}
use Rattle.column_meaning.specs.Column.{value_of, signed_of, slice, slices_from, whole}
use Rattle.column_meaning.specs.Columns.{slice_count, wider, pair_width, existing, value_at, signed_at, bad_column, bad_row, strays, value, signed_value, pair_column, pair, sum, signed_difference, smaller, difference_or_zero}
use Rattle.meaning.specs.declared.Pairing.{Pairing}

-- ---- a new index

-- it is sound, has bodies of the format F and R rows; its bitmaps are these sets, in this order, and each body is the canonical one
-- of its set
pub record NewIndex (F : Format) (R : ℕ) (ps : List (ℕ → Bool)) (index : List ℕ) : Type 0 where
  pub is-sound : SoundIndex index
  pub format : format_of index ≡ F
  pub rows : row_count index ≡ R
  pub count : bitmap_count index ≡ length ps
  pub bodies : (k : ℕ) → k < length ps → body_at index k ≡ canonical F R (get_or ps k none)
  pub sets : (k r : ℕ) → k < length ps → r < R → rows_at index k r ≡ get_or ps k none r

-- which holds of whatever is written, for as many rows and as many bitmaps as an index may have
abbrev pub NewIndexHolds : Type 0
NewIndexHolds =
    (F : Format) (R : ℕ) (ps : List (ℕ → Bool)) (room : ℕ) (index : List ℕ) → R ≤ most_rows → length ps ≤ most_bitmaps
    → write_index F R ps room ≡ answer index → NewIndex F R ps index

-- it is written exactly where it fits the buffer and has no more words than an index may have: one that is too long is 9 in every
-- buffer, with its words (request 6)
pub record NewIndexRoom (F : Format) (R : ℕ) (ps : List (ℕ → Bool)) (room : ℕ) : Type 0 where
  pub too_long : most_index_words < length (index_of F R ps) → write_index F R ps room ≡ refused 9 0 (length (index_of F R ps))
  pub no_room : room < length (index_of F R ps) → write_index F R ps room ≡ refused 9 0 (length (index_of F R ps))
  pub written : length (index_of F R ps) ≤ room → length (index_of F R ps) ≤ most_index_words
      → write_index F R ps room ≡ answer (index_of F R ps)

abbrev pub NewIndexRoomHolds : Type 0
NewIndexRoomHolds = (F : Format) (R : ℕ) (ps : List (ℕ → Bool)) (room : ℕ) → NewIndexRoom F R ps room

-- ---- digits

-- the most slices that a sum or a difference can have
abbrev pub most_sum_slices : ℕ
most_sum_slices = most_value_column - 1

-- how many digits values and sums have, and that no digit of a sum is left out
pub record DigitLaws : Type 0 where
  -- a value of n slices is below 2 ^ n, whatever the sets are and whichever column is named
  pub below : (ps : List (ℕ → Bool)) (r : ℕ) → value_of ps r < 2 ^ length ps
  pub named-below : (index list : List ℕ) (r : ℕ) → value_at index list r < 2 ^ slice_count list
  -- at a row that exists, n slices made of a number have its n lowest digits, so they are all of a number below 2 ^ n
  pub lowest : (exists : ℕ → Bool) (v : ℕ → ℕ) (n r : ℕ) → exists r ≡ true
      → value_of (slices_from exists v 0 n) r ≡ v r % 2 ^ n
  pub all : (exists : ℕ → Bool) (v : ℕ → ℕ) (n r : ℕ) → exists r ≡ true → v r < 2 ^ n
      → value_of (slices_from exists v 0 n) r ≡ v r
  -- a sum has at most one digit more than the wider column has slices; of columns of up to 32 slices it is below 2 ^ 33
  pub sum_below : (index first second : List ℕ) (r : ℕ)
      → value_at index first r + value_at index second r < 2 ^ suc (wider first second)
  pub sum-most : (index first second : List ℕ) (r : ℕ) → length first ≤ most_column → length second ≤ most_column
      → value_at index first r + value_at index second r < 2 ^ most_sum_slices
  -- so its slices, of which there is one more than the wider column has, are all of it
  pub sum-digits : (index first second : List ℕ) (exists : ℕ → Bool) (r : ℕ) → exists r ≡ true
      → value_of (slices_from exists (λ s. value_at index first s + value_at index second s) 0 (suc (wider first second))) r
      ≡ value_at index first r + value_at index second r
  -- a value that is answered is below 2 ^ 33
  pub value-most : (index list : List ℕ) (r v : ℕ) → value index list r ≡ answer v → v < 2 ^ most_sum_slices

-- ---- signed values (request 7)

-- whether the top slice has row r, as a digit; 0 where there is no slice
unfoldable pub sign_of : List (ℕ → Bool) → (r : ℕ) → ℕ
unfolding bit
sign_of [] r = 0
sign_of (p ∷ []) r = bit (p r)
sign_of (p ∷ q ∷ ps) r = sign_of (q ∷ ps) r

-- an integer, or 0 where it is negative
unfoldable pub or_zero : ℤ → ℕ
or_zero (pos n) = n
or_zero (negsuc n) = 0

-- what a signed value is, and which it can be
pub record SignLaws : Type 0 where
  -- the plain value, less 2 ^ n where the top of the n slices has the row
  pub less : (ps : List (ℕ → Bool)) (r : ℕ) → signed_of ps r ≡ pos (value_of ps r) -ℤ pos (sign_of ps r * 2 ^ length ps)
  -- so a column without its sign set is read as a plain one is
  pub plain : (ps : List (ℕ → Bool)) (r : ℕ) → sign_of ps r ≡ 0 → signed_of ps r ≡ pos (value_of ps r)
  -- of n + 1 slices it is from - 2 ^ n to 2 ^ n - 1: `mag` is k both of k and of - (k + 1). One slice gives 0 or - 1
  pub range : (ps : List (ℕ → Bool)) (r n : ℕ) → length ps ≡ suc n → mag (signed_of ps r) < 2 ^ n
  -- a signed value that is answered is from - 2 ^ 32 to 2 ^ 32 - 1
  pub signed-most : (index list : List ℕ) (r : ℕ) (z : ℤ) → signed_value index list r ≡ answer z → mag z < 2 ^ (most_sum_slices - 1)
  -- the difference of two values of up to 32 slices is from - (2 ^ 32 - 1) to 2 ^ 32 - 1: `nat_abs` is k both of k and of - k
  pub difference-most : (index first second : List ℕ) (r : ℕ) → length first ≤ most_column → length second ≤ most_column
      → (z : ℤ) → z +ℤ pos (value_at index second r) ≡ pos (value_at index first r) → nat_abs z < 2 ^ (most_sum_slices - 1)

-- ---- refusal 11

-- slice i of the column that a list names, counted from 0, has row r, and r does not exist
pub record StrayAt (index list : List ℕ) (i r : ℕ) : Type 0 where
  pub slice-there : suc i < length list
  pub row-there : r < row_count index
  pub has : rows_at index (get_or list (suc i) 0) r ≡ true
  pub lacks : existing index list r ≡ false

-- it is the first such slice in the order of the list, and r is its lowest such row
pub record FirstStray (index list : List ℕ) (i r : ℕ) : Type 0 where
  pub stray : StrayAt index list i r
  pub no-earlier : (j s : ℕ) → j < i → StrayAt index list j s → ⊥
  pub no_lower : (s : ℕ) → s < r → StrayAt index list i s → ⊥

-- what `strays` says of a column
pub record StrayLaws : Type 0 where
  -- nothing is refused exactly if no slice has a row that does not exist
  pub none-means : (index list : List ℕ) → (strays index list ≡ sound) ↔ ((i r : ℕ) → StrayAt index list i r → ⊥)
  -- else 11 with the first slice's bitmap number and its lowest such row, and it is never refused otherwise
  pub first-given : (index list : List ℕ) (i r : ℕ) → FirstStray index list i r
      → strays index list ≡ refused 11 (get_or list (suc i) 0) r
  pub only-first : (index list : List ℕ) (number bitmap word : ℕ) → strays index list ≡ refused number bitmap word
      → (i : ℕ) × (FirstStray index list i word) × (number ≡ 11) × (bitmap ≡ get_or list (suc i) 0)

-- ---- the order of refusals

-- nothing about the value at a row is refused with one of the index's own faults or with 8
pub record GoodValue (index list : List ℕ) (r : ℕ) : Type 0 where
  pub is-sound : SoundIndex index
  pub good-list : bad_column index most_value_column list ≡ false
  pub good-row : bad_row index list r ≡ false

-- the same of two columns
pub record GoodPair (index first second : List ℕ) : Type 0 where
  pub is-sound : SoundIndex index
  pub good-first : bad_column index most_column first ≡ false
  pub good-second : bad_column index most_column second ≡ false

-- of what is told of a row, where v is its value: the index's own faults; on a sound index a bad list or row; a stray; and else v
pub record ValueOrder {A : Type 0} (index list : List ℕ) (r : ℕ) (told : Outcome A) (v : A) : Type 0 where
  pub faulty : (number bitmap word : ℕ) → check index ≡ refused number bitmap word → told ≡ refused number bitmap word
  pub bad-list : SoundIndex index → bad_column index most_value_column list ≡ true → told ≡ refused 8 0 0
  pub bad-row : SoundIndex index → bad_row index list r ≡ true → told ≡ refused 8 0 0
  pub stray : GoodValue index list r → (i s : ℕ) → FirstStray index list i s → told ≡ refused 11 (get_or list (suc i) 0) s
  pub answered : GoodValue index list r → strays index list ≡ sound → told ≡ answer v

-- the index that an operation makes of two columns, with n slices
abbrev pub pair_index : (op : Pairing) (index first second : List ℕ) (n : ℕ) → List ℕ
pair_index op index first second n = index_of (format_of index) (row_count index) (pair_column index op n first second)

-- of two columns: the index's own faults; on a sound index a bad list, whatever strays; a stray, in the first column before the
-- second, and whatever the room; 9 with the words needed, if there is less room or an index may not have so many; and else the
-- answer
pub record PairOrder (op : Pairing) (index first second : List ℕ) (room : ℕ) : Type 0 where
  pub faulty : (number bitmap word : ℕ) → check index ≡ refused number bitmap word
      → pair index op first second room ≡ refused number bitmap word
  pub bad-first : SoundIndex index → bad_column index most_column first ≡ true
      → pair index op first second room ≡ refused 8 0 0
  pub bad-second : SoundIndex index → bad_column index most_column second ≡ true
      → pair index op first second room ≡ refused 8 0 0
  pub stray-first : GoodPair index first second
      → (i r : ℕ) → FirstStray index first i r → pair index op first second room ≡ refused 11 (get_or first (suc i) 0) r
  pub stray-second : GoodPair index first second → strays index first ≡ sound
      → (i r : ℕ) → FirstStray index second i r → pair index op first second room ≡ refused 11 (get_or second (suc i) 0) r
  pub no_room : GoodPair index first second → strays index first ≡ sound → strays index second ≡ sound
      → index_room room < length (pair_index op index first second (pair_width op first second))
      → pair index op first second room ≡ refused 9 0 (length (pair_index op index first second (pair_width op first second)))
  pub answered : GoodPair index first second → strays index first ≡ sound → strays index second ≡ sound
      → length (pair_index op index first second (pair_width op first second)) ≤ index_room room
      → pair index op first second room ≡ answer (pair_index op index first second (pair_width op first second))

-- for every index, list, row, operation and room
pub record OrderLaws : Type 0 where
  pub of-value : (index list : List ℕ) (r : ℕ) → ValueOrder index list r (value index list r) (value_at index list r)
  pub of-signed : (index list : List ℕ) (r : ℕ) → ValueOrder index list r (signed_value index list r) (signed_at index list r)
  pub of_pair : (op : Pairing) (index first second : List ℕ) (room : ℕ) → PairOrder op index first second room

-- ---- an answer that is a column of n slices

module _ (index first second : List ℕ) where
  -- the row exists in both
  abbrev pub in_both : ℕ → Bool
  in_both r = existing index first r && existing index second r

  -- what is told of row r of such a column where a row's value is v, or 8 where there is no such row or it does not exist
  abbrev pub told_at : {A : Type 0} (v : ℕ → A) (r : ℕ) → Outcome A
  told_at v r = refuse_if (leb (row_count index) r || not (in_both r)) 8 0 0 (answer (v r))

  -- it is sound, has the same format and as many rows, and n + 1 bitmaps in canonical form; a row exists in it if it does in both;
  -- no slice has any other row, so 11 is given of no list of its bitmaps that begins with its existence
  pub record ColumnIn (n : ℕ) (out : List ℕ) : Type 0 where
    pub is-sound : SoundIndex out
    pub format : format_of out ≡ format_of index
    pub rows : row_count out ≡ row_count index
    pub count : bitmap_count out ≡ suc n
    pub forms : (k : ℕ) → k ≤ n → Canonical (format_of index) (row_count index) (body_at out k)
    pub exists : (r : ℕ) → r < row_count index → rows_at out 0 r ≡ in_both r
    pub no-strays : (ks : List ℕ) → ((i : ℕ) → i < length ks → get_or ks i 0 ≤ n) → strays out (0 ∷ ks) ≡ sound

  -- its values are v
  pub record ColumnOf (n : ℕ) (v : ℕ → ℕ) (out : List ℕ) : Type 0 where
    pub column : ColumnIn n out
    pub slices : (i r : ℕ) → i < n → r < row_count index → rows_at out (suc i) r ≡ slice in_both v i r
    pub values : (r : ℕ) → value out (whole n) r ≡ told_at v r

  -- it is a signed column, whose values are z; its top slice has just the rows that exist and whose value is negative
  pub record SignedColumnOf (n : ℕ) (z : ℕ → ℤ) (out : List ℕ) : Type 0 where
    pub column : ColumnIn n out
    pub sign : (r : ℕ) → r < row_count index → rows_at out n r ≡ in_both r && not (non_neg (z r))
    pub values : (r : ℕ) → signed_value out (whole n) r ≡ told_at z r

  -- row r of the signed difference `out`, asked by the public calls: added to the second column's value it gives the first's back
  pub record GivesBack (out : List ℕ) (r : ℕ) : Type 0 where
    pub x : ℕ
    pub y : ℕ
    pub z : ℤ
    pub first-is : value index first r ≡ answer x
    pub second_is : value index second r ≡ answer y
    pub difference-is : signed_value out (whole (suc (wider first second))) r ≡ answer z
    pub back : z +ℤ pos y ≡ pos x

-- whatever an operation answers is such a column: of one slice more than the wider one for a sum, and as numbers the sums, so that
-- no digit is lost; for a difference, signed, and as integers the differences; of as many slices as the wider one for the smaller and
-- for the difference or zero, whose values these are
pub record PairLaws (index first second : List ℕ) (room : ℕ) (out : List ℕ) : Type 0 where
  pub of-sum : sum index first second room ≡ answer out
      → ColumnOf index first second (suc (wider first second)) (λ r. value_at index first r + value_at index second r) out
  pub of-difference : signed_difference index first second room ≡ answer out
      → SignedColumnOf index first second (suc (wider first second))
      (λ r. pos (value_at index first r) -ℤ pos (value_at index second r)) out
  pub of-smaller : smaller index first second room ≡ answer out
      → ColumnOf index first second (wider first second) (λ r. min (value_at index first r) (value_at index second r)) out
  pub of_zero : difference_or_zero index first second room ≡ answer out
      → ColumnOf index first second (wider first second) (λ r. value_at index first r - value_at index second r) out
  pub gives_back : signed_difference index first second room ≡ answer out
      → (r : ℕ) → r < row_count index → in_both index first second r ≡ true → GivesBack index first second out r

abbrev pub PairsHold : Type 0
PairsHold = (index first second : List ℕ) (room : ℕ) (out : List ℕ) → PairLaws index first second room out

-- row r of the signed difference d, of the difference or zero o and of the smaller m, asked by the public calls: the second is the
-- first where that is not negative, and 0 elsewhere; with the third it makes the first column's value
pub record Parted (index first second d o m : List ℕ) (r : ℕ) : Type 0 where
  pub x : ℕ
  pub y : ℕ
  pub z : ℤ
  pub first-is : value index first r ≡ answer x
  pub second_is : value index second r ≡ answer y
  pub difference-is : signed_value d (whole (suc (wider first second))) r ≡ answer z
  pub zero_is : value o (whole (wider first second)) r ≡ answer (or_zero z)
  pub smaller-is : value m (whole (wider first second)) r ≡ answer (min x y)
  pub parts : min x y + or_zero z ≡ x

abbrev pub PartsHold : Type 0
PartsHold =
    (index first second : List ℕ) (room : ℕ) (d o m : List ℕ) → signed_difference index first second room ≡ answer d
    → difference_or_zero index first second room ≡ answer o → smaller index first second room ≡ answer m
    → (r : ℕ) → r < row_count index → in_both index first second r ≡ true → Parted index first second d o m r
