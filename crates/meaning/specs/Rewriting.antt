-- The outcome of rewriting, either way between the two formats and to the same one, which makes a body canonical: of a body alone,
-- of a bitmap of an index, and of a whole index. Request 4.
-- Assumes nothing.
use Prim.Native.Nat.{ℕ, zero, suc}
use Rattle.std.specs.Prelude.{Bool}
use mathlib.Core.List.{List, [], ◌∷◌}
use Rattle.meaning.specs.Refusal.{Outcome, ◌then◌}
use Rattle.meaning.specs.Format.{rows_of}
use Rattle.meaning.specs.declared.Format.{Format}
use Rattle.meaning.specs.Index.{row_count, bitmap_count, rows_at}
use Rattle.meaning.specs.Answer.{write, check_body, check, bitmap_refusal}
use Rattle.meaning.specs.NewIndex.{write_index}

-- `rewrite`: a body of R rows and of format F, in the format G. 3, then its own faults, then 9
unfoldable pub rewrite : (F G : Format) (R : ℕ) (body : List ℕ) (room : ℕ) → Outcome (List ℕ)
unfolding check_body ◌then◌ write rows_of
rewrite F G R body room = check_body F R body then write G R (rows_of F body) room

module _ (index : List ℕ) where
  -- `rewrite_bitmap`: the faults of the index, then 8, then 9
  unfoldable pub rewrite_bitmap : (k : ℕ) (G : Format) (room : ℕ) → Outcome (List ℕ)
  unfolding bitmap_refusal ◌then◌ write row_count rows_at
  rewrite_bitmap k G room = bitmap_refusal index k then write G (row_count index) (rows_at index k) room

  -- the sets of rows of the bitmaps k, k + 1, .. , `more` in all
  unfoldable pub sets_from : (k more : ℕ) → List (ℕ → Bool)
  unfolding rows_at
  sets_from k zero = []
  sets_from k (suc more) = rows_at index k ∷ sets_from (suc k) more

  -- `rewrite_index`: a new index of all bitmaps, in their order. The faults of the index, then 9
  unfoldable pub rewrite_index : (G : Format) (room : ℕ) → Outcome (List ℕ)
  unfolding check ◌then◌ write_index row_count sets_from bitmap_count
  rewrite_index G room = check index then write_index G (row_count index) (sets_from 0 (bitmap_count index)) room
