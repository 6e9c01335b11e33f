-- Every refusal of every call has one of the numbers.
-- Assumes nothing.
use Prim.Native.Nat.{ℕ, zero, suc, ◌+◌, ◌-◌, ◌≤◌}
use mathlib.Core.Bool.{Bool, true, false, not, ◌||◌}
use mathlib.Core.List.{List, [], ◌∷◌}
use lib.Dec.{eqb, leb, ltb}
use lib.ListN.{length, get_or}
use native.Mathlib.Omega.{arith}
use Rattle.meaning.specs.Refusal.{Outcome, refused, answer, Verdict, sound, refuse_if, ◌then◌, IsNumber, Numbered}
use Rattle.meaning.specs.Limits.{most_rows, most_bitmaps, most_index_words, head_words, most_column, most_value_column}
use Rattle.meaning.specs.Rows.{count_below, nth_below}
use Rattle.meaning.specs.Segment.{over_pad, segment_count, last_limit, last_of, has_row, from_rows}
use Rattle.meaning.specs.Piece.{piece_size, dirty_in}
use Rattle.meaning.specs.Ewah.{clean_of, dirty_of, fault_from, ewah_fault}
use Rattle.meaning.specs.Wah.{piece_of, wah_fault_from, wah_fault}
use Rattle.meaning.specs.Format.{body_fault, rows_of, canonical}
use Rattle.meaning.specs.declared.Format.{Format}
use Rattle.meaning.specs.declared.Format.TheVariants.{Ewah, Wah}
use Rattle.meaning.specs.Index.{is_kind, format_of, bitmap_count, entry_place, start_of, length_of, row_count, body_at, rows_at, entries_fault, bodies_fault, head_fault, index_fault}
use Rattle.meaning.specs.Question.{intersection, union, symmetric_difference, difference, complement, by_table}
use Rattle.meaning.specs.Extent.{row_answer}
use Rattle.meaning.specs.NewIndex.{index_of, index_room, write_index}
use Rattle.meaning.specs.declared.Pairing.{Pairing}
use Rattle.meaning.specs.declared.Ranking.{Ranking}
use Rattle.meaning.specs.Answer as meaning
use Rattle.column_meaning.specs.Columns as columns
use Rattle.meaning.specs.Rewriting as rewriting

pub number_of : (A : Type 0) (n b w : ℕ) → Numbered {A = A} (refused n b w) → 1 ≤ n
unfolding Numbered
number_of A n b w h = h.0

-- ---- the steps of an outcome

module _ {A : Type 0} where
  answered : (a : A) → Numbered (answer a)
  unfolding Numbered
  answered a = tt

  refuse : (t : Bool) (n b w : ℕ) (o : Outcome A) → IsNumber n → Numbered o → Numbered (refuse_if t n b w o)
  unfolding refuse_if Numbered
  refuse true n b w o h k = h
  refuse false n b w o h k = k

  after : (v : Verdict) (o : Outcome A) → Numbered v → Numbered o → Numbered (v then o)
  unfolding ◌then◌ Numbered
  after (refused n b w) o h k = h
  after (answer u) o h k = k

fits : (room : ℕ) (ws : List ℕ) → Numbered (meaning.fits room ws)
unfolding meaning.fits
fits room ws = refuse (ltb room (length ws)) 9 0 (length ws) (answer ws) (omega arith) (answered ws)

-- ---- the checks

fault : (bitmap R place due left : ℕ) (ws : List ℕ) → Numbered (fault_from bitmap R place due left ws)
unfolding fault_from
fault bitmap R place due left [] = refuse (ltb 0 left) 6 bitmap place sound (omega arith) (answered tt)
fault bitmap R place zero left (m ∷ ws) =
    refuse (ltb (length ws) (dirty_of m)) 5 bitmap place _ (omega arith)
    (refuse (ltb left (clean_of m + dirty_of m)) 6 bitmap place _ (omega arith)
    (fault bitmap R (suc place) (dirty_of m) (left - clean_of m) ws))
fault bitmap R place (suc due) left (w ∷ ws) = refuse (over_pad 32 R left 1 w) 7 bitmap place _ (omega arith) (fault bitmap R (suc place) due (left - 1) ws)

wah-fault : (bitmap R place left : ℕ) (ws : List ℕ) → Numbered (wah_fault_from bitmap R place left ws)
unfolding wah_fault_from
wah-fault bitmap R place left [] = refuse (ltb 0 left) 6 bitmap place sound (omega arith) (answered tt)
wah-fault bitmap R place left (x ∷ xs) =
    refuse (eqb (piece_size (piece_of x)) 0) 10 bitmap place _ (omega arith)
    (refuse (ltb left (piece_size (piece_of x))) 6 bitmap place _ (omega arith)
    (refuse (over_pad 31 R left 1 (dirty_in (piece_of x))) 7 bitmap place _ (omega arith)
    (wah-fault bitmap R (suc place) (left - piece_size (piece_of x)) xs)))

body : (F : Format) (bitmap place R : ℕ) (b : List ℕ) → Numbered (body_fault F bitmap place R b)
unfolding ewah_fault wah_fault
body Ewah bitmap place R b = fault bitmap R place 0 _ b
body Wah bitmap place R b = wah-fault bitmap R place _ b

module _ (index : List ℕ) where
  entries : (k more end : ℕ) → Numbered (entries_fault index k more end)
  unfolding entries_fault
  entries k zero end = refuse (ltb end (length index)) 4 0 end sound (omega arith) (answered tt)
  entries k (suc more) end =
      refuse (not (eqb (start_of index k) end)) 4 k (entry_place index k) _ (omega arith)
      (refuse (ltb (length index) (end + length_of index k)) 4 k (entry_place index k + 1) _ (omega arith)
      (entries (suc k) more (end + length_of index k)))

  bodies : (k more : ℕ) → Numbered (bodies_fault index k more)
  unfolding bodies_fault
  bodies k zero = answered tt
  bodies k (suc more) = after (body_fault (format_of index) k (start_of index k) (row_count index) (body_at index k)) (bodies_fault index (suc k) more) (body (format_of index) k (start_of index k) (row_count index) (body_at index k)) (bodies (suc k) more)

  head : Numbered (head_fault index)
  unfolding head_fault
  head =
      refuse (ltb most_index_words (length index)) 3 0 0 _ (omega arith)
      (refuse (ltb (length index) head_words) 1 0 (length index) _ (omega arith)
      (refuse (not (is_kind (get_or index 0 0))) 2 0 0 _ (omega arith)
      (refuse (ltb most_rows (row_count index)) 3 0 1 _ (omega arith)
      (refuse (ltb most_bitmaps (bitmap_count index)) 3 0 2 _ (omega arith)
      (refuse (ltb (length index) (entry_place index (bitmap_count index))) 1 0 (length index) _ (omega arith)
      (answered tt))))))

  pub check : Numbered (meaning.check index)
  unfolding meaning.check index_fault
  check =
      after (head_fault index) _ head
      (after (entries_fault index 0 (bitmap_count index) (entry_place index (bitmap_count index))) _ (entries 0 (bitmap_count index) (entry_place index (bitmap_count index))) (bodies 0 (bitmap_count index)))

-- ---- the questions

ask-row : (F : Format) (R : ℕ) (b : List ℕ) (r : ℕ) → Numbered (meaning.ask_row F R b r)
unfolding meaning.ask_row
ask-row F R b r = refuse (leb R r) 8 0 0 _ (omega arith) (answered (row_answer F R b r))

ask-count : (R : ℕ) (p : ℕ → Bool) → Numbered (meaning.ask_count R p)
unfolding meaning.ask_count
ask-count R p = answered _

ask-nth : (R : ℕ) (p : ℕ → Bool) (n : ℕ) → Numbered (meaning.ask_nth R p n)
unfolding meaning.ask_nth
ask-nth R p n = refuse (leb (count_below R p) n) 8 0 0 _ (omega arith) (answered (nth_below R p n))

ask-plain : (R : ℕ) (p : ℕ → Bool) (room : ℕ) → Numbered (meaning.ask_plain R p room)
unfolding meaning.ask_plain
ask-plain R p room = fits room (from_rows 32 R p)

write : (F : Format) (R : ℕ) (p : ℕ → Bool) (room : ℕ) → Numbered (meaning.write F R p room)
unfolding meaning.write
write F R p room = fits room (canonical F R p)

rows : (R : ℕ) → Numbered (meaning.rows_fault R)
unfolding meaning.rows_fault
rows R = refuse (ltb most_rows R) 3 0 1 sound (omega arith) (answered tt)

-- ---- of a body alone

module _ (F : Format) (R : ℕ) (b : List ℕ) where
  pub check-body : Numbered (meaning.check_body F R b)
  unfolding meaning.check_body
  check-body = after (meaning.rows_fault R) (body_fault F 0 0 R b) (rows R) (body F 0 0 R b)

  pub body-row : (r : ℕ) → Numbered (meaning.body_row F R b r)
  unfolding meaning.body_row
  body-row r = after (meaning.check_body F R b) _ check-body (ask-row F R b r)

  pub body-count : Numbered (meaning.body_count F R b)
  unfolding meaning.body_count
  body-count = after (meaning.check_body F R b) _ check-body (ask-count R (rows_of F b))

  pub body-nth : (n : ℕ) → Numbered (meaning.body_nth F R b n)
  unfolding meaning.body_nth
  body-nth n = after (meaning.check_body F R b) _ check-body (ask-nth R (rows_of F b) n)

  pub expand : (room : ℕ) → Numbered (meaning.expand F R b room)
  unfolding meaning.expand
  expand room = after (meaning.check_body F R b) _ check-body (ask-plain R (rows_of F b) room)

plain : (R : ℕ) (ws : List ℕ) → Numbered (meaning.plain_fault R ws)
unfolding meaning.plain_fault
plain R ws =
    after (meaning.rows_fault R) _ (rows R)
    (refuse (not (eqb (length ws) (segment_count 32 R))) 8 0 0 _ (omega arith)
    (refuse (leb (last_limit 32 R) (last_of ws)) 7 0 (length ws - 1) sound (omega arith) (answered tt)))

pub compress : (F : Format) (R : ℕ) (ws : List ℕ) (room : ℕ) → Numbered (meaning.compress F R ws room)
unfolding meaning.compress
compress F R ws room = after (meaning.plain_fault R ws) _ (plain R ws) (write F R (has_row 32 ws) room)

-- ---- of an index

module _ (index : List ℕ) where
  module _ (k : ℕ) where
    pub bitmap-refusal : Numbered (meaning.bitmap_refusal index k)
    unfolding meaning.bitmap_refusal
    bitmap-refusal = after (meaning.check index) _ (check index) (refuse (meaning.bad_bitmap index k) 8 0 0 sound (omega arith) (answered tt))

    pub row : (r : ℕ) → Numbered (meaning.row index k r)
    unfolding meaning.row
    row r = after (meaning.bitmap_refusal index k) _ bitmap-refusal (ask-row (format_of index) (row_count index) (body_at index k) r)

    pub count : Numbered (meaning.count index k)
    unfolding meaning.count
    count = after (meaning.bitmap_refusal index k) _ bitmap-refusal (ask-count (row_count index) (rows_at index k))

    pub nth : (n : ℕ) → Numbered (meaning.nth index k n)
    unfolding meaning.nth
    nth n = after (meaning.bitmap_refusal index k) _ bitmap-refusal (ask-nth (row_count index) (rows_at index k) n)

    pub expand-bitmap : (room : ℕ) → Numbered (meaning.expand_bitmap index k room)
    unfolding meaning.expand_bitmap
    expand-bitmap room = after (meaning.bitmap_refusal index k) _ bitmap-refusal (ask-plain (row_count index) (rows_at index k) room)

  logical : (op : (ℕ → Bool) → (ℕ → Bool) → ℕ → Bool) (j k room : ℕ) → Numbered (meaning.logical index op j k room)
  unfolding meaning.logical meaning.ask_logical
  logical op j k room =
      after (meaning.check index) _ (check index)
      (refuse (meaning.bad_bitmap index j || meaning.bad_bitmap index k) 8 0 0 _ (omega arith) (write (format_of index) (row_count index) (op (rows_at index j) (rows_at index k)) room))

  pub not-of : (k room : ℕ) → Numbered (meaning.not_of index k room)
  unfolding meaning.not_of meaning.ask_not
  not-of k room =
      after (meaning.check index) _ (check index)
      (refuse (meaning.bad_bitmap index k) 8 0 0 _ (omega arith) (write (format_of index) (row_count index) (complement (rows_at index k)) room))

  pub and : (j k room : ℕ) → Numbered (meaning.and index j k room)
  unfolding meaning.and
  and = logical intersection

  pub or : (j k room : ℕ) → Numbered (meaning.or index j k room)
  unfolding meaning.or
  or = logical union

  pub xor : (j k room : ℕ) → Numbered (meaning.xor index j k room)
  unfolding meaning.xor
  xor = logical symmetric_difference

  pub and-not : (j k room : ℕ) → Numbered (meaning.and_not index j k room)
  unfolding meaning.and_not
  and-not = logical difference

  module _ (list : List ℕ) where
    pub threshold : (T room : ℕ) → Numbered (meaning.threshold index list T room)
    unfolding meaning.threshold meaning.ask_threshold
    threshold T room =
        after (meaning.check index) _ (check index)
        (refuse (meaning.bad_threshold index list T) 8 0 0 _ (omega arith) (write (format_of index) (row_count index) (meaning.right_rows index list T) room))

    pub symmetric : (table : List ℕ) (room : ℕ) → Numbered (meaning.symmetric index list table room)
    unfolding meaning.symmetric meaning.ask_symmetric
    symmetric table room =
        after (meaning.check index) _ (check index)
        (refuse (meaning.bad_symmetric index list table) 8 0 0 _ (omega arith) (write (format_of index) (row_count index) (by_table table (meaning.named index list)) room))

    pub histogram : Numbered (meaning.histogram index list)
    unfolding meaning.histogram meaning.ask_histogram
    histogram = after (meaning.check index) _ (check index) (refuse (meaning.bad_list index list) 8 0 0 _ (omega arith) (answered _))

-- ---- of columns

module _ (index : List ℕ) where
  strays-in : (exists : ℕ → Bool) (ks : List ℕ) → Numbered (columns.strays_in index exists ks)
  unfolding columns.strays_in
  strays-in exists [] = answered tt
  strays-in exists (k ∷ ks) =
      let rows = columns.stray_rows index exists k in
      refuse (ltb 0 (count_below (row_count index) rows)) 11 k (nth_below (row_count index) rows 0) _ (omega arith) (strays-in exists ks)

  strays : (list : List ℕ) → Numbered (columns.strays index list)
  unfolding columns.strays
  strays [] = answered tt
  strays (k ∷ ks) = strays-in (rows_at index k) ks

  at_row : {A : Type 0} (list : List ℕ) (r : ℕ) (v : A) → Numbered (meaning.check index then columns.ask_at index list r v)
  unfolding columns.ask_at
  at_row list r v =
      after (meaning.check index) _ (check index)
      (refuse (columns.bad_column index most_value_column list || columns.bad_row index list r) 8 0 0 _ (omega arith)
      (after (columns.strays index list) _ (strays list) (answered _)))

  pub value : (list : List ℕ) (r : ℕ) → Numbered (columns.value index list r)
  unfolding columns.value columns.ask_value
  value list r = at_row list r (columns.value_at index list r)

  pub signed-value : (list : List ℕ) (r : ℕ) → Numbered (columns.signed_value index list r)
  unfolding columns.signed_value columns.ask_signed_value
  signed-value list r = at_row list r (columns.signed_at index list r)

  pub pair : (op : Pairing) (first second : List ℕ) (room : ℕ) → Numbered (columns.pair index op first second room)
  unfolding columns.pair columns.ask_pair columns.write_pair write_index
  pair op first second room =
      let sets : List (ℕ → Bool) = columns.pair_column index op (columns.pair_width op first second) first second in
      after (meaning.check index) _ (check index)
      (refuse (columns.bad_column index most_column first || columns.bad_column index most_column second) 8 0 0 _ (omega arith)
      (after (columns.strays index first) _ (strays first)
      (after (columns.strays index second) _ (strays second)
      (fits (index_room room) (index_of (format_of index) (row_count index) sets)))))

  pub ranked : (op : Ranking) (list : List ℕ) (k room : ℕ) → Numbered (columns.ranked index op list k room)
  unfolding columns.ranked columns.ask_ranked
  ranked op list k room =
      after (meaning.check index) _ (check index)
      (refuse (columns.bad_rank index list k) 8 0 0 _ (omega arith)
      (after (columns.strays index list) _ (strays list)
      (write (format_of index) (row_count index) (columns.ranked_rows index op list k) room)))

  -- ---- rewriting

  pub rewrite-bitmap : (k : ℕ) (G : Format) (room : ℕ) → Numbered (rewriting.rewrite_bitmap index k G room)
  unfolding rewriting.rewrite_bitmap
  rewrite-bitmap k G room = after (meaning.bitmap_refusal index k) _ (bitmap-refusal index k) (write G (row_count index) (rows_at index k) room)

  pub rewrite-index : (G : Format) (room : ℕ) → Numbered (rewriting.rewrite_index index G room)
  unfolding rewriting.rewrite_index write_index
  rewrite-index G room = after (meaning.check index) _ (check index) (fits (index_room room) (index_of G (row_count index) (rewriting.sets_from index 0 (bitmap_count index))))

pub rewrite : (F G : Format) (R : ℕ) (b : List ℕ) (room : ℕ) → Numbered (rewriting.rewrite F G R b room)
unfolding rewriting.rewrite
rewrite F G R b room = after (meaning.check_body F R b) _ (check-body F R b) (write G R (rows_of F b) room)
