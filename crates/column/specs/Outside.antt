-- What a search for the rows that one body has and another has not finds, in segments of w rows.
-- Assumes nothing.
use Rattle.std.specs.Prelude.{ℕ, ◌+◌, ◌*◌, ◌^◌, ◌≤◌, ◌<◌, Bool, true, false, not, ◌&&◌, ◌≡◌, List, Option, Some, None}
use Rattle.meaning.specs.Segment.{is_set}
use Rattle.meaning.specs.Format.{rows_of}
use Rattle.meaning.specs.declared.Format.{Format}
use Rattle.meaning.specs.Question.{difference}
use Rattle.column.specs.declared.outside.Seen.{Seen}
use Rattle.column.specs.declared.outside.Seen.TheVariants as seen

-- the rows that a slice has and existence has not, in bodies of one format
abbrev pub outside : Format → (slice exists : List ℕ) → ℕ → Bool
outside F slice exists = difference (rows_of F slice) (rows_of F exists)

-- ---- words

-- bit j of the word x, where the word e has it not
abbrev pub over_bit : (x e j : ℕ) → Bool
over_bit x e j = is_set x j && not (is_set e j)

-- the word y has just these of its w bits
pub record OverBits (w x e y : ℕ) : Type 0 where
  pub low : y < 2 ^ w
  pub bits : (j : ℕ) → j < w → is_set y j ≡ over_bit x e j

-- the rows p of n segments are the bits that words x 0, x 1, .. , each of w bits, have and words e 0, e 1, .. have not
pub record Spells (w : ℕ) (p : ℕ → Bool) (x e : ℕ → ℕ) (n : ℕ) : Type 0 where
  pub low : (i : ℕ) → i < n → x i < 2 ^ w
  pub bits : (i j : ℕ) → i < n → j < w → p (i * w + j) ≡ over_bit (x i) (e i) j

-- ---- the lowest row

-- the set p has no row below n
abbrev pub NoneBelow : (n : ℕ) (p : ℕ → Bool) → Type 0
NoneBelow n p = (r : ℕ) → r < n → p r ≡ false

-- r is the lowest row of the set p, and it is below n
pub record Lowest (n : ℕ) (p : ℕ → Bool) (r : ℕ) : Type 0 where
  pub below : r < n
  pub set : p r ≡ true
  pub before : NoneBelow r p

-- what is told of n rows
abbrev pub FoundIn : (n : ℕ) (p : ℕ → Bool) → Option ℕ → Type 0
FoundIn n p (Some r) = Lowest n p r
FoundIn n p None = NoneBelow n p

-- what is told of the next n segments: if there is no row in the first of them, of how many that holds
abbrev pub SeenIn : (w n : ℕ) (p : ℕ → Bool) → Seen → Type 0
SeenIn w n p (seen.Row r) = Lowest (n * w) p r
SeenIn w n p (seen.Clear m) = (1 ≤ m) × (m ≤ n) × NoneBelow (m * w) p
