-- The next piece of an EWAH body, word by word.
-- Assumes nothing.
use Prim.Native.Nat.{ℕ, zero, suc, ◌+◌, ◌-◌, ◌≤◌, ◌<◌}
use mathlib.Core.Path.{◌≡◌, refl, sym, ap, ◌∙◌}
use mathlib.Core.List.{List, [], ◌∷◌}
use native.Mathlib.Omega.{arith}
use native.Mathlib.Numerals.{add-one}
use lib.ListN.{length, drop, get_or, drop_of_length-le}
use lib.Seq.{drop-cons}
use Rattle.meaning.specs.Limits.{most_dirty}
use Rattle.meaning.specs.Piece.{Piece, dirty_word, run_then}
use Rattle.meaning.specs.Ewah.{pieces}
use Rattle.meaning.specs.Wah.{wah_pieces}
use Rattle.meaning.specs.declared.Format.{Format}
use Rattle.meaning.specs.declared.Format.TheVariants.{Ewah, Wah}
use Rattle.laws.specs.Ahead.{rest_of}
use Rattle.laws.proofs.Decoded.{pieces-some}
use Rattle.ewah.specs.declared.marker.Marker.{Marker}
use Rattle.ewah.specs.declared.cursor.Piece.TheVariants.{Clean, Dirty}
use Rattle.ewah.specs.Markers.{FieldsOf}
use Rattle.ewah.specs.Cursors.{Stands, pieces_from, piece_then}

pub cons-at : (b : List ℕ) (at : ℕ) → at < length b → drop at b ≡ get_or b at 0 ∷ drop (at + 1) b
cons-at b at h = drop-cons b at 0 h ∙ ap (λ (n : ℕ). get_or b at 0 ∷ drop n b) (sym (add-one at))

pub run-zero : (v n : ℕ) (ps : List Piece) → n ≡ 0 → run_then v n ps ≡ ps
unfolding run_then
run-zero v zero ps e = refl
run-zero v (suc n) ps e = absurd (omega arith)

pub pieces-dirty : (due x : ℕ) (ws : List ℕ) → (due ≡ 0 → ⊥) → pieces due (x ∷ ws) ≡ dirty_word x ∷ pieces (due - 1) ws
unfolding pieces
pieces-dirty zero x ws h = absurd (h refl)
pieces-dirty (suc due) x ws h = let e : suc due - 1 ≡ due = omega arith in rw e

-- ---- no piece of EWAH is empty

-- ---- the end, of either format

none_left : (F : Format) (due : ℕ) → rest_of F due [] ≡ []
unfolding pieces wah_pieces
none_left Ewah due = refl
none_left Wah due = refl

pub at-end : (F : Format) (b : List ℕ) (at due : ℕ) → length b ≤ at → at ≤ length b
    → Stands F b (record { piece = Clean 0 0; next = at; dirty = 0 }) (rest_of F due (drop at b))
unfolding pieces_from piece_then run_then
at-end F b at due h i = record {
  in_order = record {
    inside = i;
    value_low = omega arith;
    left-low = omega arith;
    dirty-low = omega arith;
    word-is = tt;
    rest_some = rw (none 0) tt;
  };
  has = none 0 ∙ sym (none due);
  at-end = λ z. none due;
}
  where
    none : (d : ℕ) → rest_of F d (drop at b) ≡ []
    none d = ap (rest_of F d) (drop_of_length-le b h) ∙ none_left F d

-- ---- where the walk has met word `at`

module _ (b : List ℕ) (at : ℕ) (h : at < length b) where
  -- a dirty word
  pub on-dirty : (due : ℕ) → 1 ≤ due → due ≤ most_dirty
      → Stands Ewah b (record { piece = Dirty (get_or b at 0); next = at + 1; dirty = due - 1 }) (pieces due (drop at b))
  unfolding pieces_from piece_then
  on-dirty due k l = record {
    in_order = record {
      inside = omega arith;
      value_low = tt;
      left-low = omega arith;
      dirty-low = omega arith;
      word-is = (omega arith, (let e : at + 1 - 1 ≡ at = omega arith in rw e));
      rest_some = pieces-some (due - 1) (drop (at + 1) b);
    };
    has = sym (pieces-dirty due (get_or b at 0) (drop (at + 1) b) (omega arith)) ∙ ap (pieces due) (sym (cons-at b at h));
    at-end = λ z. absurd (omega arith);
  }

  -- a marker, with the pieces ps still to come
  module _ (ps : List Piece) (inv : pieces 0 (drop at b) ≡ ps) (m : Marker) (f : FieldsOf (get_or b at 0) m) where
    marked : run_then m.value m.clean (pieces m.dirty (drop (at + 1) b)) ≡ ps
    unfolding pieces
    marked = rw (f.value-is, f.clean_is, f.dirty-is) (rw (cons-at b at h) at inv)

    pub on-run : (m.clean ≡ 0 → ⊥)
        → Stands Ewah b (record { piece = Clean m.value m.clean; next = at + 1; dirty = m.dirty }) ps
    unfolding pieces_from piece_then
    on-run k = record {
      in_order = record {
        inside = omega arith;
        value_low = f.in-range.value_low;
        left-low = f.in-range.clean-low;
        dirty-low = f.in-range.dirty-low;
        word-is = tt;
        rest_some = pieces-some m.dirty (drop (at + 1) b);
      };
      has = marked;
      at-end = λ e. absurd (k e);
    }

    -- that has no clean run: its dirty words are next
    pub on_none : m.clean ≡ 0 → pieces m.dirty (drop (at + 1) b) ≡ ps
    on_none e = sym (run-zero m.value m.clean (pieces m.dirty (drop (at + 1) b)) e) ∙ marked

    -- and that has no dirty words either
    pub on-idle : m.clean ≡ 0 → m.dirty ≡ 0 → pieces 0 (drop (at + 1) b) ≡ ps
    on-idle e d = rw d at (on_none e)
