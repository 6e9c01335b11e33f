-- The words of one row, as a part of the block of rows.
-- Assumes nothing.
use Prim.Native.Nat.{ℕ, ◌+◌, ◌-◌, ◌*◌, ◌≤◌}
use mathlib.Core.Bool.{Bool, true, false}
use mathlib.Core.Path.{◌≡◌, refl, ap, ◌∙◌}
use mathlib.Core.List.{List}
use native.Mathlib.Omega.{arith}
use lib.ListN.{length, get_or, take, drop, length-drop}
use lib.Seq.{get_or-drop, get_or-take, length-take-le}
use Rattle.meaning.specs.Limits.{block_segments}
use Rattle.meaning.specs.declared.Format.{Format}
use Rattle.block_write.specs.Rowed.{row_length, row_segments, CleanWord}
use Rattle.new_index.specs.Writers.{row_of}

-- a row has at most a block's words
pub row_low : (n : ℕ) (even : Bool) → (even ≡ false → n ≤ block_segments) → row_length n even ≤ block_segments
row_low n true h = omega arith
row_low n false h = h refl

-- row k's m words
module _ (F : Format) (rows : List ℕ) (n : ℕ) (even : Bool) (k m : ℕ) (e : m ≡ row_length n even) where
  abbrev words : List ℕ
  words = take ((k * block_segments + m) - k * block_segments) (drop (k * block_segments) rows)

  many : (k * block_segments + m) - k * block_segments ≡ m
  many = omega arith

  -- they are the row's segments
  pub row_is : row_segments F words n even ≡ row_of F rows n even k
  unfolding row_of
  row_is = ap (λ (j : ℕ). row_segments F (take j (drop (k * block_segments) rows)) n even) (many ∙ e)

  module _ (fits : k * block_segments + m ≤ length rows) where
    row-length : length words ≡ m
    row-length = length-take-le _ (drop (k * block_segments) rows) (omega (arith, length-drop (k * block_segments) rows)) ∙ many

    -- where all segments are alike, the first word is there
    pub row_first : even ≡ true → CleanWord F (get_or rows (k * block_segments) 0) → (1 ≤ length words) × CleanWord F (get_or words 0 0)
    row_first t g =
        let one : m ≡ 1 = e ∙ ap (row_length n) t in
        let some : 1 ≤ length words = omega (arith, row-length, one) in
        let here : k * block_segments + 0 ≡ k * block_segments = omega arith in
        let same : get_or words 0 0 ≡ get_or rows (k * block_segments) 0 =
        get_or-take ((k * block_segments + m) - k * block_segments) (drop (k * block_segments) rows) 0 0 (omega (arith, one, many))
        ∙ get_or-drop (k * block_segments) rows 0 0 ∙ ap (λ (j : ℕ). get_or rows j 0) here in
        (some, rw same g)

    -- and else one for each
    pub row-each : even ≡ false → length words ≡ n
    row-each t = row-length ∙ e ∙ ap (row_length n) t
