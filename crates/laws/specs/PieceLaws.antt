-- What holds of the first and last rows that answers on rows give: a walk from answer to answer goes through a body's pieces.
-- Request 5 of paper 02. `proofs/PiecesMet` proves it of every sound body and of every bitmap of a sound index.
-- Assumes nothing.
use Rattle.std.specs.Prelude.{ℕ, suc, ◌+◌, ◌-◌, ◌≤◌, ◌<◌, Bool, ◌≡◌}
use mathlib.Core.List.{List, [], ◌∷◌}
use Rattle.meaning.specs.Rows.{count_below}
use Rattle.meaning.specs.Refusal.{Outcome, answer, sound}
use Rattle.meaning.specs.Format.{width, rows_of}
use Rattle.meaning.specs.Extent.{Extent, extents_of, given}
use Rattle.meaning.specs.Index.{format_of, row_count, body_at}
use Rattle.meaning.specs.Answer.{check_body, body_row, body_count, body_nth, bitmap_refusal, row, count, nth}
use Rattle.meaning.specs.declared.Format.{Format}
use Rattle.meaning.specs.declared.Row.{Row}

-- a walk over answers, from row r on: the last row of each says where to ask next, and it is over when none of R rows is left; what they
-- gave, in order
pub data Meets (R : ℕ) (ask : ℕ → Outcome Row) : (r : ℕ) → List Extent → Type 0 where
  all-given : (r : ℕ) → r ≡ R → Meets R ask r []
  then_next : (r : ℕ) (t : Row) (es : List Extent) → r < R → ask r ≡ answer t → Meets R ask (suc t.last) es
      → Meets R ask r (given t ∷ es)

module _ (p : ℕ → Bool) where
  -- how many rows from the first to the last are set
  unfoldable pub set_in : Extent → ℕ
  unfolding count_below
  set_in e = count_below (suc e.last - e.first) (λ r. p (e.first + r))

  -- and in all of these
  unfoldable pub set_in_all : List Extent → ℕ
  unfolding set_in
  set_in_all [] = 0
  set_in_all (e ∷ es) = set_in e + set_in_all es

  -- with `sum` set rows before them, row r is in the one of these in which the count of set rows goes past n
  pub data PassesAt (n r : ℕ) : (sum : ℕ) → List Extent → Type 0 where
    here : (sum : ℕ) (e : Extent) (es : List Extent) → sum ≤ n → n < sum + set_in e → e.first ≤ r → r ≤ e.last → PassesAt n r sum (e ∷ es)
    later : (sum : ℕ) (e : Extent) (es : List Extent) → sum + set_in e ≤ n → PassesAt n r (sum + set_in e) es → PassesAt n r sum (e ∷ es)

-- of a body of R rows, and the calls that ask it for a row, its count and its nth set row
pub record PieceLaws (F : Format) (R : ℕ) (b : List ℕ) (ask : ℕ → Outcome Row) (counted : Outcome ℕ) (nth_of : ℕ → Outcome ℕ) : Type 0 where
  -- every row is answered, and lies between the two that are given with it, which are rows
  pub inside : (r : ℕ) → r < R → ((t : Row) × (ask r ≡ answer t) × (t.first ≤ r) × (r ≤ t.last) × (t.last < R))
  -- a walk from row 0 comes by every piece, one after the other and none twice; and any such walk comes by nothing else
  pub meets : Meets R ask 0 (extents_of F R b)
  pub only : (es : List Extent) → Meets R ask 0 es → es ≡ extents_of F R b
  -- counted piece by piece no set row is missed, and none is counted twice
  pub adds : counted ≡ answer (set_in_all (rows_of F b) (extents_of F R b))
  -- as long as there are so many set rows, such a count over the pieces tells which of them has the nth
  pub passes : (n : ℕ) → n < set_in_all (rows_of F b) (extents_of F R b)
      → ((r : ℕ) × (nth_of n ≡ answer r) × PassesAt (rows_of F b) n r 0 (extents_of F R b))
  -- where more rows than a segment has are given, all of them are as the one asked
  pub alike : (r : ℕ) (t : Row) → ask r ≡ answer t → t.first + width F ≤ t.last
      → (q : ℕ) → t.first ≤ q → q ≤ t.last → rows_of F b q ≡ t.set

-- of every sound body, and of every bitmap that is not refused
pub record PiecesMet : Type 0 where
  pub of-body : (F : Format) (R : ℕ) (b : List ℕ) → check_body F R b ≡ sound
      → PieceLaws F R b (body_row F R b) (body_count F R b) (body_nth F R b)
  pub of-bitmap : (index : List ℕ) (k : ℕ) → bitmap_refusal index k ≡ sound
      → PieceLaws (format_of index) (row_count index) (body_at index k) (row index k) (count index k) (nth index k)
