-- A row of words as segments, and what many mixed ones at once do to the writer.
-- Assumes nothing.
use Rattle.std.specs.Prelude.{ℕ, ◌+◌, Bool, cond, ◌≡◌, List, map, length, get_or, replicate}
use Rattle.meaning.specs.Segment.{Segment, mixed, kind, all_set}
use Rattle.meaning.specs.Format.{width}
use Rattle.meaning.specs.declared.Format.{Format}
use Rattle.ewah_write.specs.declared.writer.Writer.{Writer}
use Rattle.ewah_write.specs.Drafts.{Grown}

-- the words that a row of n segments has: one where all are alike
abbrev pub row_length : (n : ℕ) (even : Bool) → ℕ
row_length n even = cond even 1 n

-- the segments of a row of words; where all n segments are alike, of its first word
unfoldable pub row_segments : Format → (words : List ℕ) (n : ℕ) (even : Bool) → List Segment
row_segments F words n even = cond even (replicate n (kind (width F) (get_or words 0 0))) (map (kind (width F)) words)

-- a word of no mixed segment
abbrev pub CleanWord : Format → ℕ → Type 0
CleanWord F x = (x ≡ 0 → ⊥) → x ≡ all_set (width F)

-- from w to r any m mixed segments are put, all under the last EWAH marker of w
pub record Joined (w : Writer) (m : ℕ) (r : Writer) : Type 0 where
  pub grown : (xs : List ℕ) → length xs ≡ m → Grown w (map mixed xs) r
  pub same_at : r.at ≡ w.at
  pub more-used : r.used ≡ w.used + m
