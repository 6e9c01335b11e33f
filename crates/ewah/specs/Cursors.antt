-- Which pieces of a body, of either format, a cursor has still to give.
-- Assumes nothing.
use Rattle.std.specs.Prelude.{ℕ, ◌-◌, ◌≤◌, ◌<◌, ◌≡◌, List, [], ◌∷◌, length, drop, get_or}
use Rattle.meaning.specs.Limits.{most_dirty}
use Rattle.meaning.specs.Piece.{Piece, dirty_word, run_then, NoneEmpty}
use Rattle.meaning.specs.Format.{most_run}
use Rattle.meaning.specs.declared.Format.{Format}
use Rattle.meaning.specs.declared.Format.TheVariants.{Ewah, Wah}
use Rattle.laws.specs.Ahead.{rest_of}
use Rattle.ewah.specs.declared.cursor.Piece as code
use Rattle.ewah.specs.declared.cursor.Piece.TheVariants.{Clean, Dirty}
use Rattle.ewah.specs.declared.cursor.Cursor.{Cursor}

-- how many segments a piece has left
abbrev pub left_of : code.Piece → ℕ
left_of (Clean v n) = n
left_of (Dirty x) = 1

-- a clean run's value is 0 or 1
abbrev pub ValueLow : code.Piece → Type 0
ValueLow (Clean v n) = v < 2
ValueLow (Dirty x) = Unit {0}

-- a dirty word is the one before the next word
abbrev pub HeldIn : List ℕ → code.Piece → (next : ℕ) → Type 0
HeldIn b (Clean v n) next = Unit {0}
HeldIn b (Dirty x) next = (1 ≤ next) × (get_or b (next - 1) 0 ≡ x)

-- the most dirty words that can be due: only EWAH has a marker that announces some
abbrev pub most_due : Format → ℕ
most_due Ewah = most_dirty
most_due Wah = 0

-- what is left of the piece, and then the others
unfoldable pub piece_then : code.Piece → List Piece → List Piece
unfolding run_then
piece_then (Clean v n) ps = run_then v n ps
piece_then (Dirty x) ps = dirty_word x ∷ ps

module _ (F : Format) where
  unfoldable pub pieces_from : List ℕ → Cursor → List Piece
  unfolding piece_then
  pieces_from b c = piece_then c.piece (rest_of F c.dirty (drop c.next b))

  -- its numbers are in range, and no piece behind its own is empty
  pub record InOrder (b : List ℕ) (c : Cursor) : Type 0 where
    pub inside : c.next ≤ length b
    pub value_low : ValueLow c.piece
    pub left-low : left_of c.piece ≤ most_run F
    pub dirty-low : c.dirty ≤ most_due F
    pub word-is : HeldIn b c.piece c.next
    pub rest_some : NoneEmpty (rest_of F c.dirty (drop c.next b))

  -- it has the pieces ps still to give, and none only if its own is empty
  pub record Stands (b : List ℕ) (c : Cursor) (ps : List Piece) : Type 0 where
    pub in_order : InOrder b c
    pub has : pieces_from b c ≡ ps
    pub at-end : left_of c.piece ≡ 0 → ps ≡ []
