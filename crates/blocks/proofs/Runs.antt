-- Segments within clean runs of all places: each word is clean there, and so is what is made of such words bit by bit.
-- Assumes nothing.
use Prim.Native.Nat.{ℕ, suc, ◌+◌, ◌-◌, ◌*◌, ◌%◌, ◌^◌, ◌≤◌, ◌<◌}
use mathlib.Core.Bool.{Bool, true, false}
use mathlib.Core.Path.{◌≡◌, refl, sym, ap, ◌∙◌}
use mathlib.Core.List.{List}
use lib.Dec.{eqb}
use lib.ListN.{length, get_or}
use lib.Pow.{pow_pos, ones_lt}
use native.Mathlib.Nat.{zero-mul, mod-eq_of_lt, one-mul}
use native.Mathlib.Omega.{arith}
use native.Mathlib.Decide.{dec_le, ℕ_discrete}
use Rattle.meaning.specs.Rows.{bit}
use Rattle.meaning.specs.Segment.{Segment, kind, rows_in, bit_at, is_set, segment_count, fill, all_set, last_limit}
use Rattle.meaning.specs.Format.{width, segments_of, rows_of}
use Rattle.meaning.specs.declared.Format.{Format}
use Rattle.meaning.specs.Index.{format_of}
use Rattle.meaning.specs.Limits.{block_segments}
use Rattle.laws.proofs.RowWords.{word-by-bits, eqb-bit}
use Rattle.laws.proofs.Segments.{fill-cut, kind-fill}
use Rattle.laws.proofs.Cut.{rows_inside, rows_end, rows-some}
use Rattle.laws.proofs.Formats.{width-pos}
use Rattle.laws.proofs.Sums.{sum-ext}
use Rattle.laws.proofs.Counting.{zero_clear, full-set}
use Rattle.laws.proofs.Pieces.{fill-lt}
use Rattle.words.proofs.BitLaws.{bit-set}
use Rattle.adder.specs.Digits.{number_at}
use Rattle.ewah.specs.declared.cursor.Cursor.{Cursor}
use Rattle.ewah.specs.declared.cursor.Piece as code
use Rattle.ewah.specs.declared.cursor.Piece.TheVariants.{Clean, Dirty}
use Rattle.ewah.specs.Cursors.{left_of}
use Rattle.block_read.specs.Taken.{word_at}
use Rattle.walk.specs.Queries.{place_body, cursor_of, CursorAt, Standing}
use Rattle.walk.specs.Surveys.{ones_in, dirty_in}
use Rattle.merge.proofs.Stretched.{row-bit, row-run}
use Rattle.block_write.specs.Rowed.{CleanWord}
use Rattle.blocks.specs.Blocks.{BlockOf, AllAlike}

-- ---- one cursor

bit-only : (a b : Bool) → bit a ≡ bit b → a ≡ b
bit-only a b e = sym (eqb-bit a) ∙ ap (λ (k : ℕ). eqb k 1) e ∙ eqb-bit b

-- a piece of several segments is no dirty word
several-clean : (q : code.Piece) → 2 ≤ left_of q → dirty_in q ≡ 0
several-clean (Clean v n) h = refl
several-clean (Dirty x) h = absurd (omega arith)

-- all bits of a run's segment are alike
run-bits : (F : Format) (b : List ℕ) (o : ℕ) (c : Cursor) → CursorAt F b o c → o < length (segments_of F b)
    → 2 ≤ left_of c.piece → (j : ℕ) → j < width F
    → is_set (get_or (segments_of F b) o 0) j ≡ is_set (get_or (segments_of F b) o 0) 0
run-bits F b o c a l h j k =
    let pos = width-pos F in
    sym (row-bit F b o j k) ∙ bit-only _ _ (at j k ∙ sym (at 0 pos)) ∙ row-bit F b o 0 pos
  where
    at : (j : ℕ) → j < width F → bit (rows_of F b (o * width F + j)) ≡ ones_in c.piece
    at j k = row-run F b o c a l (several-clean c.piece h) o (omega arith) (omega arith) j k

-- a word of a segment whose bits are all alike is clean
pub uniform : (F : Format) (z : ℕ) → z < 2 ^ width F → ((j : ℕ) → j < width F → is_set z j ≡ is_set z 0) → CleanWord F z
unfolding all_set
uniform F z h g n = go (is_set z 0) refl
  where
    go : (t : Bool) → is_set z 0 ≡ t → z ≡ 2 ^ width F - 1
    go true e =
        word-by-bits (width F) z (2 ^ width F - 1) h (ones_lt (width F)) (λ j k. g j k ∙ e ∙ sym (full-set (width F) j k))
    go false e =
        absurd (n (word-by-bits (width F) z 0 h (pow_pos (width F)) (λ j k. g j k ∙ e ∙ sym (zero_clear j))))

-- ---- a word of a run, over a segment with pad bits too

module _ (F : Format) (R i : ℕ) where
  abbrev pos : 0 < width F
  pos = width-pos F

  abbrev real : ℕ
  real = rows_in (width F) R i

  -- how a word is written as segment i: by its rows
  abbrev pub rows_kind : (x : ℕ) → Segment
  rows_kind x = kind real (x % 2 ^ real)

  module _ (h : i < segment_count (width F) R) where
    fill-rows : (v : ℕ) → v < 2 → fill (width F) v % 2 ^ real ≡ fill real v
    fill-rows v l = elim (dec_le (suc (suc i)) (segment_count (width F) R)) [
      | yes g ↦ rw (rows_inside (width F) pos R i g) (mod-eq_of_lt (fill-lt (width F) v l))
      | no g ↦
          let e : suc i ≡ segment_count (width F) R = omega arith in
          rw (rows_end (width F) pos R i e) (unfold last_limit in fill-cut (width F) R pos v l)
    ]

    by_value : (x v : ℕ) → v < 2 → x ≡ fill (width F) v → kind (width F) x ≡ rows_kind x
    by_value x v l e =
        ap (kind (width F)) e
        ∙ kind-fill (width F) v pos l
        ∙ sym (ap (kind real) (ap (λ (y : ℕ). y % 2 ^ real) e ∙ fill-rows v l)
        ∙ kind-fill real v (rows-some (width F) pos R i h) l)

    pub clean-kind : (x : ℕ) → CleanWord F x → kind (width F) x ≡ rows_kind x
    clean-kind x c = elim (ℕ_discrete x 0) [
      | yes e ↦ by_value x 0 (omega arith) (unfold fill in e ∙ sym (zero-mul (all_set (width F))))
      | no e ↦ by_value x 1 (omega arith) (unfold fill in c e ∙ sym (one-mul (all_set (width F))))
    ]

-- ---- the words of a list

module _ (index list : List ℕ) (cs : List Cursor) (x : List ℕ) (o n : ℕ) (some : 1 ≤ n) (b : BlockOf index list o n true x) where
  abbrev F : Format
  F = format_of index

  word : (k : ℕ) → k < length list
      → get_or x (k * block_segments + 0) 0 ≡ get_or (segments_of (format_of index) (place_body index list k)) o 0
  unfolding word_at
  word k h = b.has k 0 h (omega arith) ∙ ap (λ (i : ℕ). get_or (segments_of F (place_body index list k)) i 0) (omega arith)

  pub alike : Standing (format_of index) index list cs (length list) o
      → ((k : ℕ) → k < length list → o < length (segments_of (format_of index) (place_body index list k)))
      → ((k : ℕ) → k < length list → 2 ≤ left_of (cursor_of cs k).piece) → AllAlike (width (format_of index)) x
  alike st inside left k j l = elim (dec_le (suc k) (length list)) [
    | yes h ↦ rw (word k h) (run-bits F (place_body index list k) o (cursor_of cs k) (st k h) (inside k h) (left k h) j l)
    | no h ↦ rw (b.rest (k * block_segments + 0) (omega arith)) (zero_clear j ∙ sym (zero_clear 0))
  ]

pub number-alike : (w : ℕ) (x : List ℕ) (n j : ℕ) → j < w → AllAlike w x → number_at x n 0 j ≡ number_at x n 0 0
unfolding number_at
number-alike w x n j l h =
    sum-ext n (λ i. bit_at (first i) j * 2 ^ i) (λ i. bit_at (first i) 0 * 2 ^ i)
    (λ i g. ap (λ (b : ℕ). b * 2 ^ i) (bit-set (first i) j ∙ ap bit (h (i + 1) j l) ∙ sym (bit-set (first i) 0)))
  where
    first : ℕ → ℕ
    first i = get_or x ((i + 1) * block_segments + 0) 0
