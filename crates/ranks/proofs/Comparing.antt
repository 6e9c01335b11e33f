-- What the words of a block that was compared with a pivot say of the column's rows.
-- Assumes nothing.
use Prim.Native.Nat.{ℕ, ◌+◌, ◌-◌, ◌*◌, ◌/◌, ◌%◌, ◌^◌, ◌≤◌, ◌<◌}
use mathlib.Core.Bool.{Bool, true, false, ◌&&◌}
use mathlib.Core.Path.{◌≡◌, sym, ap, ap₂, ◌∙◌}
use mathlib.Core.List.{List}
use lib.Dec.{eqb}
use lib.ListN.{length, get_or}
use native.Mathlib.Nat.{div-add-mod', div-lt_iff_lt-mul, mod-lt, add-mul}
use native.Mathlib.Omega.{arith}
use Rattle.meaning.specs.Limits.{word_bits, block_segments}
use Rattle.meaning.specs.Segment.{is_set}
use Rattle.meaning.specs.Format.{width}
use Rattle.meaning.specs.Index.{format_of}
use Rattle.column_meaning.specs.Ranking.{ahead}
use Rattle.column_meaning.specs.Columns.{existing, value_at}
use Rattle.meaning.specs.declared.Format.{Format}
use Rattle.meaning.specs.declared.Ranking.{Ranking}
use Rattle.laws.proofs.Formats.{width-pos, width-le}
use Rattle.adder.specs.Digits.{number_at}
use Rattle.block_read.specs.Taken.{word_at}
use Rattle.walk.specs.Queries.{place_body}
use Rattle.ewah.specs.declared.cursor.Cursor.{Cursor}
use Rattle.blocks.specs.Blocks.{NextPlaced}
use Rattle.blocks.proofs.Values.{exists-bit, value-number, place, place-low, words-at, number_same}
use Rattle.blocks.proofs.Segmented.{segment-clear, word_low}
use Rattle.blocks.proofs.Runs.{number-alike}
use Rattle.pivots.specs.Splits.{HasRows, SplitBy}
use Rattle.ranks.specs.Frames.{Column}

-- the words t have, of the rows that exist, those whose value passes the test g
pub record Tested (x : List ℕ) (n : ℕ) (g : ℕ → Bool) (t : List ℕ) : Type 0 where
  pub low : (w : ℕ) → get_or t w 0 < 2 ^ word_bits
  pub bits : (w j : ℕ) → w < block_segments → j < word_bits
      → is_set (get_or t w 0) j ≡ is_set (get_or x w 0) j && g (number_at x n w j)

module _ {index list : List ℕ} {o end n : ℕ} {even : Bool} {cursors : List Cursor} {x : List ℕ} (cs : Column index list)
    (nb : NextPlaced index list o end n even cursors x) {g : ℕ → Bool} {t : List ℕ} (ts : Tested x (length list - 1) g t) where
  abbrev F : Format
  F = format_of index

  -- the rows that t is to have
  abbrev rows : ℕ → Bool
  rows r = existing index list r && g (value_at index list r)

  one : 1 ≤ length list
  one = omega (arith, cs.some)

  -- one segment of them
  module _ (i : ℕ) (h : i < n) where
    abbrev at : ℕ
    at = place even i

    at_low : at < block_segments
    at_low = place-low even i n h nb.in_block

    -- row 0 of the block has the rows that exist
    front : (v : List ℕ) → word_at even v 0 i ≡ get_or v at 0
    unfolding word_at
    front v = ap (λ (q : ℕ). get_or v q 0) (omega arith)

    first : word_at even x (0 * block_segments) i ≡ get_or x at 0
    unfolding word_at
    first = ap (λ (q : ℕ). get_or x q 0) (omega arith)

    pub clear : (j : ℕ) → width (format_of index) ≤ j → j < 32 → is_set (get_or t (place even i) 0) j ≡ false
    clear j l k =
        ts.bits at j at_low k
        ∙ ap (λ (b : Bool). b && g (number_at x (length list - 1) at j))
        (ap (λ (v : ℕ). is_set v j) (sym first ∙ nb.block.has 0 i (omega (arith, one)) h)
        ∙ segment-clear F (place_body index list 0) (o + i) j l k)

    bit_is : (j : ℕ) → j < width F → is_set (word_at even t 0 i) j ≡ rows ((o + i) * width F + j)
    bit_is j l =
        let ws = words-at nb.block i h in
        ap (λ (v : ℕ). is_set v j) (front t)
        ∙ ts.bits at j at_low (omega (arith, width-le F))
        ∙ ap₂ (λ (b : Bool) (v : ℕ). b && g v)
        (sym (exists-bit index (o + i) j l list _ ws one ∙ ap (λ (v : ℕ). is_set v j) first))
        (sym (value-number index (o + i) j l list _ (length list - 1) ws one (omega arith)
        ∙ number_same x even (length list - 1) i j))

  pub has-rows : HasRows (format_of index) o n even t (λ r. existing index list r && g (value_at index list r))
  has-rows = record {
    low = λ i h. rw (front i h t) (word_low F (get_or t (at i h) 0) (ts.low (at i h)) (clear i h));
    bits = λ i j h l. bit_is i h j l;
  }

  -- within a run all rows are alike
  module _ (e : even ≡ true) where
    pub like : (j : ℕ) → j < width (format_of index) → is_set (get_or t 0 0) j ≡ is_set (get_or t 0 0) 0
    like j l =
        let al = nb.alike e in
        let pos = width-pos F in
        let wide = width-le F in
        ts.bits 0 j (omega arith) (omega arith)
        ∙ ap₂ (λ (b : Bool) (v : ℕ). b && g v) (al 0 j l) (number-alike (width F) x (length list - 1) j l al)
        ∙ sym (ts.bits 0 0 (omega arith) (omega arith))

    run-word : (i : ℕ) → word_at even t 0 i ≡ get_or t 0 0
    unfolding word_at
    run-word i = rw e

    run_row : (i j : ℕ) → i < n → j < width F → rows ((o + i) * width F + j) ≡ is_set (get_or t 0 0) 0
    run_row i j h l = sym (bit_is i h j l) ∙ ap (λ (v : ℕ). is_set v j) (run-word i) ∙ like j l

    pub run-rows : (k : ℕ) → k < n * width (format_of index)
        → existing index list (o * width (format_of index) + k) && g (value_at index list (o * width (format_of index) + k))
        ≡ existing index list (o * width (format_of index)) && g (value_at index list (o * width (format_of index)))
    run-rows k l =
        let w = width F in
        let pos = width-pos F in
        let some = nb.some in
        let a : o * w + k ≡ (o + k / w) * w + k % w = omega (arith, div-add-mod' k w, add-mul o (k / w) w) in
        let b : o * w ≡ (o + 0) * w + 0 = omega (arith, add-mul o 0 w) in
        ap rows a
        ∙ run_row (k / w) (k % w) ((div-lt_iff_lt-mul pos).1 l) (mod-lt k pos)
        ∙ sym (ap rows b ∙ run_row 0 0 (omega arith) pos)

-- ---- the two tests

module _ {op : Ranking} {x : List ℕ} {n m : ℕ} {a s : List ℕ} (sp : SplitBy op x n m a s) where
  pub tested-ahead : ((w : ℕ) → get_or a w 0 < 2 ^ word_bits) → Tested x n (λ v. ahead op v m) a
  tested-ahead low = record { low = low; bits = sp.ahead-bits }

  pub tested-same : ((w : ℕ) → get_or s w 0 < 2 ^ word_bits) → Tested x n (λ v. eqb v m) s
  tested-same low = record { low = low; bits = sp.same_bits }
