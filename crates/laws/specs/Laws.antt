-- What holds of the definitions, for a reader to find in one place. `BodyLaws`, `EwahLaws` and `WahLaws` are proved in `proofs/Lawful`, `IndexMeans` in
-- `IndexSound`, `PartLaws` in `BitmapPart`, `AnswerLaws` in `Answering`.
-- Assumes nothing.
use Rattle.std.specs.Prelude.{ℕ, ◌+◌, ◌≤◌, ◌<◌, Bool, ◌≡◌, ◌↔◌, length, get_or, replicate}
use mathlib.Core.List.{List, [], foldl}
use Rattle.meaning.specs.Limits.{most_clean, most_fill, most_rows, most_bitmaps, most_index_words, head_words, histogram_counts}
use Rattle.meaning.specs.Segment.{Segment, clean, segment_count, last_rows, last_limit}
use Rattle.meaning.specs.Refusal.{refused, answer, sound}
use Rattle.meaning.specs.Piece.{NoneEmpty, last_dirty, flat}
use Rattle.meaning.specs.Ewah.{segments, due_after, pieces}
use Rattle.meaning.specs.Canonical.{Draft, body, put, ewah_of}
use Rattle.meaning.specs.Wah.{wah_segments, wah_pieces, wah_of}
use Rattle.meaning.specs.Format.{kind_of, width, pieces_of, segments_of, rows_of, Sound, canonical, Canonical}
use Rattle.meaning.specs.declared.Format.{Format}
use Rattle.meaning.specs.declared.Format.TheVariants.{Ewah, Wah}
use Rattle.meaning.specs.Index.{format_of, row_count, bitmap_count, entry_place, start_of, body_place, body_at, rows_at, SoundIndex}
use Rattle.meaning.specs.Question.{complement, by_table, sum_of}
use Rattle.meaning.specs.Answer.{bitmap, bitmap_refusal, part_of, logical, not_of, named, right_rows, threshold, symmetric, histogram}
use Rattle.laws.specs.Demands.{BodyOf, Fewest}
use Rattle.laws.specs.Paragraph.{groups, groups_words, wah_groups_words}

-- the plain facts of a sound EWAH body of R rows: its last marker has all its dirty words, it stands for as many segments as
-- R rows have, and a dirty word that is the last of them sets no pad bit
pub record EwahFacts (R : ℕ) (b : List ℕ) : Type 0 where
  pub ended : due_after 0 b ≡ 0
  pub count : length (segments b) ≡ segment_count 32 R
  pub pads : last_dirty (pieces 0 b) < last_limit 32 R

-- of a sound WAH body: no fill has no segments, it stands for as many as R rows have, and a literal that is the last of them sets
-- no pad bit
pub record WahFacts (R : ℕ) (b : List ℕ) : Type 0 where
  pub some : NoneEmpty (wah_pieces b)
  pub count : length (wah_segments b) ≡ segment_count 31 R
  pub pads : last_dirty (wah_pieces b) < last_limit 31 R

abbrev pub SoundFacts : Format → (R : ℕ) → List ℕ → Type 0
SoundFacts Ewah R b = EwahFacts R b
SoundFacts Wah R b = WahFacts R b

-- of both formats
pub record BodyLaws (F : Format) : Type 0 where
  -- the pieces of a body spell its segments
  pub spells : (b : List ℕ) → flat (width F) (pieces_of F b) ≡ segments_of F b
  -- a body is sound exactly if these facts hold
  pub sound-means : (R : ℕ) (b : List ℕ) → Sound F R b ↔ SoundFacts F R b
  -- the canonical body of a set of rows is a sound body of 32-bit words with exactly these rows
  pub is_body : (R : ℕ) (p : ℕ → Bool) → BodyOf F R p (canonical F R p)
  -- it is in canonical form
  pub is-canonical : (R : ℕ) (p : ℕ → Bool) → Canonical F R (canonical F R p)
  -- no sound body of this format, of 32-bit words, with exactly these rows has fewer words
  pub least : (R : ℕ) (p : ℕ → Bool) → Fewest F R p (length (canonical F R p))
  -- equal rows give equal words
  pub same_rows : (R : ℕ) (p q : ℕ → Bool) → ((r : ℕ) → r < R → p r ≡ q r) → canonical F R p ≡ canonical F R q
  pub no_rows : (p : ℕ → Bool) → canonical F 0 p ≡ []
  -- written anew in any format, a body keeps its rows; and back again it is in canonical form
  pub rewrite-keeps : (G : Format) (R : ℕ) (b : List ℕ) → BodyOf G R (rows_of F b) (canonical G R (rows_of F b))
  pub rewrite-back : (G : Format) (R : ℕ) (b : List ℕ) → canonical F R (rows_of G (canonical G R (rows_of F b))) ≡ canonical F R (rows_of F b)

-- of EWAH
pub record EwahLaws : Type 0 where
  -- the canonical form is the one that paper 01 tells by longest runs; of no segments it has no words
  pub by_runs : (ss : List Segment) → ewah_of ss ≡ groups_words (groups ss)
  -- more rows never need fewer words: k rows more behind the same R rows
  pub never-shorter : (R k : ℕ) (p q : ℕ → Bool) → ((r : ℕ) → r < R → p r ≡ q r) → length (canonical Ewah R p) ≤ length (canonical Ewah (R + k) q)
  -- a clean run that one marker can hold adds at most one word, and one segment at most two
  pub run-adds : (d : Draft) (v n : ℕ) → n ≤ most_clean → length (body (foldl put d (replicate n (clean v)))) ≤ length (body d) + 1
  pub segment-adds : (d : Draft) (s : Segment) → length (body (put d s)) ≤ length (body d) + 2

-- of WAH
pub record WahLaws : Type 0 where
  -- the canonical form is the one that request 4 tells by longest runs, each of them one word: of no more segments than a fill can count
  pub by_runs : (R : ℕ) (ss : List Segment) → length ss ≤ most_fill → wah_of R ss ≡ wah_groups_words (last_rows 31 R) (groups ss)

-- ---- an index

-- the plain facts of a sound index: of its head and the room for its contents,
pub record HeadFacts (index : List ℕ) : Type 0 where
  pub few_words : length index ≤ most_index_words
  pub head : head_words ≤ length index
  pub kind : get_or index 0 0 ≡ kind_of (format_of index)
  pub few-rows : row_count index ≤ most_rows
  pub few-bitmaps : bitmap_count index ≤ most_bitmaps
  pub contents : entry_place index (bitmap_count index) ≤ length index

-- of its entries: every body starts where the one before ends and lies within the index, and the last end is the index's,
pub record EntryFacts (index : List ℕ) : Type 0 where
  pub starts : (k : ℕ) → k < bitmap_count index → start_of index k ≡ body_place index k
  pub ends : (k : ℕ) → k ≤ bitmap_count index → body_place index k ≤ length index
  pub last_end : body_place index (bitmap_count index) ≡ length index

-- and of its bodies: each is sound
pub record IndexFacts (index : List ℕ) : Type 0 where
  pub head : HeadFacts index
  pub entries : EntryFacts index
  pub bodies : (k : ℕ) → k < bitmap_count index → SoundFacts (format_of index) (row_count index) (body_at index k)

-- an index is sound exactly if these facts hold
abbrev pub IndexMeans : Type 0
IndexMeans = (index : List ℕ) → SoundIndex index ↔ IndexFacts index

-- where bitmap k is not refused: the index is sound and has it, and its part is the sound body that every question on it is about
pub record Known (index : List ℕ) (k : ℕ) : Type 0 where
  pub facts : IndexFacts index
  pub below : k < bitmap_count index
  pub part : part_of (bitmap index k) ≡ body_at index k
  pub is-sound : SoundFacts (format_of index) (row_count index) (part_of (bitmap index k))
  pub rows : (r : ℕ) → rows_at index k r ≡ rows_of (format_of index) (part_of (bitmap index k)) r

pub record PartLaws : Type 0 where
  pub known : (index : List ℕ) (k : ℕ) → bitmap_refusal index k ≡ sound → Known index k
  -- where it is refused the part is empty
  pub none : (index : List ℕ) (k number place word : ℕ) → bitmap_refusal index k ≡ refused number place word → part_of (bitmap index k) ≡ []

-- ---- what is written

-- a sound body in canonical form with exactly the rows p
pub record Answers (F : Format) (R : ℕ) (p : ℕ → Bool) (b : List ℕ) : Type 0 where
  pub right : BodyOf F R p b
  pub form : Canonical F R b

-- each question over bitmaps agrees with the rows, NOT and tables that say yes at 0 included
pub record AnswerLaws : Type 0 where
  pub of_pair : (index : List ℕ) (op : (ℕ → Bool) → (ℕ → Bool) → ℕ → Bool) (j k room : ℕ) (b : List ℕ) → logical index op j k room ≡ answer b
      → Answers (format_of index) (row_count index) (op (rows_at index j) (rows_at index k)) b
  pub of-not : (index : List ℕ) (k room : ℕ) (b : List ℕ) → not_of index k room ≡ answer b → Answers (format_of index) (row_count index) (complement (rows_at index k)) b
  pub of-threshold : (index list : List ℕ) (T room : ℕ) (b : List ℕ) → threshold index list T room ≡ answer b → Answers (format_of index) (row_count index) (right_rows index list T) b
  pub of-symmetric : (index list table : List ℕ) (room : ℕ) (b : List ℕ) → symmetric index list table room ≡ answer b
      → Answers (format_of index) (row_count index) (by_table table (named index list)) b
  -- a histogram has an entry for each number of holders, and they add up to the rows
  pub of-histogram : (index list entries : List ℕ) → histogram index list ≡ answer entries → (length entries ≡ histogram_counts) × (sum_of entries ≡ row_count index)
