-- The piece that a cursor loads, in either format.
-- Assumes nothing.
use Prim.Native.Nat.{ℕ, zero, suc, ◌+◌, ◌-◌, ◌≤◌, ◌<◌}
use mathlib.Core.Bool.{Bool, true, false}
use mathlib.Core.Path.{◌≡◌, refl, sym, ap, ap₂, ◌∙◌}
use mathlib.Core.List.{List, ◌∷◌}
use native.Mathlib.Omega.{arith}
use lib.ListN.{length, drop, get_or}
use Rattle.meaning.specs.Limits.{most_dirty}
use Rattle.meaning.specs.Piece.{Piece, clean_run, run_then, piece_size, NoneEmpty}
use Rattle.meaning.specs.Wah.{is_fill, piece_of, wah_pieces}
use Rattle.meaning.specs.declared.Format.{Format}
use Rattle.meaning.specs.declared.Format.TheVariants.{Ewah, Wah}
use Rattle.laws.specs.Ahead.{rest_of}
use Rattle.ewah.specs.declared.cursor.Piece as code
use Rattle.ewah.specs.declared.cursor.Piece.TheVariants.{Clean, Dirty}
use Rattle.ewah.specs.Cursors.{Stands, HeldIn, most_due, left_of, piece_then, pieces_from}
use Rattle.laws.proofs.Decoded.{pieces-some}
use Rattle.ewah.proofs.Pieces.{cons-at}
use Rattle.wah.specs.declared.word.Fill.{Fill}
use Rattle.wah.specs.Words.{FieldsOf}
use Rattle.wah.proofs.Spelled.{fill-piece, literal-piece}
use Rattle.bodies.specs.Walks.{same_as, WordIs, PieceIs}

-- ---- a WAH word

pub literal-is : (x : ℕ) {t : Bool} → t ≡ is_fill x → t ≡ false → PieceIs x (Dirty x)
literal-is x is not-fill = record {
  same = sym (literal-piece x (sym is ∙ not-fill));
  value_low = tt;
  left-low = omega arith;
  word-is = refl;
}

pub fill_is : (x : ℕ) (f : Fill) {t : Bool} → t ≡ is_fill x → t ≡ true → FieldsOf x f → PieceIs x (Clean f.value f.count)
fill_is x f is fill of = record {
  same = ap₂ clean_run of.value-is of.count-is ∙ sym (fill-piece x (sym is ∙ fill));
  value_low = of.value_low;
  left-low = of.count_low;
  word-is = tt;
}

-- a piece that has segments is the first
then_is : (p : code.Piece) (ps : List Piece) → 1 ≤ left_of p → piece_then p ps ≡ same_as p ∷ ps
unfolding piece_then run_then
then_is (Clean v zero) ps h = absurd (omega arith)
then_is (Clean v (suc n)) ps h = refl
then_is (Dirty x) ps h = refl

size-as : (p : code.Piece) → piece_size (same_as p) ≡ left_of p
unfolding piece_size
size-as (Clean v n) = refl
size-as (Dirty x) = refl

held_at : (b : List ℕ) (at : ℕ) (p : code.Piece) → WordIs p (get_or b at 0) → HeldIn b p (at + 1)
held_at b at (Clean v n) h = tt
held_at b at (Dirty x) h = (omega arith, (let e : at + 1 - 1 ≡ at = omega arith in rw e (sym h)))

-- the piece of the word at `at`, and what is behind it
first-wah : (b : List ℕ) (at : ℕ) → at < length b → wah_pieces (drop at b) ≡ piece_of (get_or b at 0) ∷ wah_pieces (drop (at + 1) b)
unfolding wah_pieces
first-wah b at h = ap wah_pieces (cons-at b at h)

pub wah-next : (b : List ℕ) (at : ℕ) (p : code.Piece) → at < length b → NoneEmpty (wah_pieces (drop at b))
    → PieceIs (get_or b at 0) p → Stands Wah b (record { piece = p; next = at + 1; dirty = 0 }) (wah_pieces (drop at b))
unfolding pieces_from
wah-next b at p h some f =
    let cons = first-wah b at h in
    let s : NoneEmpty (piece_of (get_or b at 0) ∷ wah_pieces (drop (at + 1) b)) = rw cons at some in
    let l : 1 ≤ left_of p = omega (arith, s.0, ap piece_size f.same, size-as p) in
    record {
      in_order = record {
        inside = omega arith;
        value_low = f.value_low;
        left-low = f.left-low;
        dirty-low = omega arith;
        word-is = held_at b at p f.word-is;
        rest_some = s.1;
      };
      has = then_is p (wah_pieces (drop (at + 1) b)) l ∙ ap (λ (q : Piece). q ∷ wah_pieces (drop (at + 1) b)) f.same ∙ sym cons;
      at-end = λ z. absurd (omega arith);
    }

-- ---- either format

-- no more dirty words are due than an EWAH marker can announce
pub due-low : (F : Format) → most_due F ≤ most_dirty
due-low Ewah = omega arith
due-low Wah = omega arith

-- behind dirty words that are due no piece is empty
pub later-some : (F : Format) (b : List ℕ) (next d k : ℕ) → d ≤ most_due F → k ≤ d → NoneEmpty (rest_of F d (drop next b))
    → NoneEmpty (rest_of F (d - k) (drop (next + k) b))
later-some Ewah b next d k l h s = pieces-some (d - k) (drop (next + k) b)
later-some Wah b next d k l h s = let e : next + k ≡ next = omega arith in rw e s
