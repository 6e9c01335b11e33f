-- What holds of rewriting, for a reader to find in one place. Request 4.
-- Assumes nothing.
use Rattle.std.specs.Prelude.{ℕ, ◌≡◌, List}
use Rattle.meaning.specs.Refusal.{answer}
use Rattle.meaning.specs.Format.{rows_of, canonical}
use Rattle.meaning.specs.declared.Format.{Format}
use Rattle.meaning.specs.Index.{row_count, bitmap_count, rows_at}
use Rattle.meaning.specs.Rewriting.{rewrite, rewrite_bitmap, sets_from, rewrite_index}
use Rattle.laws.specs.Laws.{Answers}
use Rattle.laws.specs.ColumnLaws.{NewIndex}

-- proved in `proofs/Rewritten`: what is written has the same rows, in canonical form; and what is written back is the canonical form of what there was
pub record RewriteLaws : Type 0 where
  pub keeps : (F G : Format) (R : ℕ) (body : List ℕ) (room : ℕ) (b : List ℕ) → rewrite F G R body room ≡ answer b → Answers G R (rows_of F body) b
  pub back : (F G : Format) (R : ℕ) (body : List ℕ) (room room' : ℕ) (b c : List ℕ) → rewrite F G R body room ≡ answer b → rewrite G F R b room' ≡ answer c
      → c ≡ canonical F R (rows_of F body)
  pub of-bitmap : (index : List ℕ) (k : ℕ) (G : Format) (room : ℕ) (b : List ℕ) → rewrite_bitmap index k G room ≡ answer b → Answers G (row_count index) (rows_at index k) b
  -- a whole index: the new one is sound, of the format G, and its bitmaps are the old one's
  pub of-index : (index : List ℕ) (G : Format) (room : ℕ) (b : List ℕ) → rewrite_index index G room ≡ answer b
      → NewIndex G (row_count index) (sets_from index 0 (bitmap_count index)) b
