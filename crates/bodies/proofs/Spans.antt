-- The segments from a cursor up to the next marker or fill of its body, as words.
-- Assumes nothing.
use Prim.Native.Nat.{ℕ, zero, suc, ◌+◌, ◌-◌, ◌≤◌, ◌<◌}
use mathlib.Core.Path.{◌≡◌, refl, sym, ap, ◌∙◌, subst}
use mathlib.Core.List.{List, [], ◌∷◌}
use native.Mathlib.Omega.{arith}
use lib.ListN.{length, get_or, drop, length-drop}
use Rattle.meaning.specs.Segment.{fill}
use Rattle.meaning.specs.Piece.{Piece, dirty_word, run_then, piece_size, flat}
use Rattle.meaning.specs.Ewah.{pieces}
use Rattle.meaning.specs.Format.{width, segments_of}
use Rattle.meaning.specs.declared.Format.{Format}
use Rattle.meaning.specs.declared.Format.TheVariants.{Ewah, Wah}
use Rattle.laws.specs.Ahead.{rest_of, Ahead, advanced, first_size}
use Rattle.laws.proofs.Walked.{ahead-on, ahead-run, ahead-dirty, ahead-some}
use Rattle.ewah.specs.declared.cursor.Cursor.{Cursor}
use Rattle.ewah.specs.declared.cursor.Piece as code
use Rattle.ewah.specs.declared.cursor.Piece.TheVariants.{Clean, Dirty}
use Rattle.ewah.specs.Cursors.{InOrder, HeldIn, most_due, left_of, piece_then, pieces_from}
use Rattle.bodies.specs.Walks.{word_of, span_by, span_of}
use Rattle.bodies.proofs.Advancing.{rest-dirty, skip-dirty}

-- k of the dirty words due are there where there are k segments
in-ewah : (k d : ℕ) (ws : List ℕ) → k ≤ d → k ≤ length (flat 32 (pieces d ws)) → k ≤ length ws
unfolding flat pieces
in-ewah zero d ws h l = omega arith
in-ewah (suc k) d [] h l = absurd (omega arith)
in-ewah (suc k) zero (w ∷ ws) h l = absurd (omega arith)
in-ewah (suc k) (suc d) (w ∷ ws) h l = omega (arith, in-ewah k d ws (omega arith) (omega arith))

enough : (F : Format) (k d : ℕ) (ws : List ℕ) → d ≤ most_due F → k ≤ d → k ≤ length (flat (width F) (rest_of F d ws)) → k ≤ length ws
enough Ewah k d ws m h l = in-ewah k d ws h l
enough Wah k d ws m h l = omega arith

-- the cursor's dirty word is in its body
pub word_held : (F : Format) (b : List ℕ) (c : Cursor) → InOrder F b c → (x : ℕ) → c.piece ≡ Dirty x
    → (1 ≤ c.next) × (get_or b (c.next - 1) 0 ≡ x)
word_held F b c k x e = subst (λ (q : code.Piece). HeldIn b q c.next) e k.word-is

module _ (F : Format) (b : List ℕ) (o : ℕ) (c : Cursor) (a : Ahead F b o (pieces_from F b c)) where
  -- the pieces behind the cursor's
  abbrev others : List Piece
  others = rest_of F c.dirty (drop c.next b)

  pub ahead_of : (q : code.Piece) → c.piece ≡ q → Ahead F b o (piece_then q others)
  unfolding pieces_from
  ahead_of q e = subst (λ (z : code.Piece). Ahead F b o (piece_then z others)) e a

  -- before the body's end something of the piece is left
  pub left-some : (left_of c.piece ≡ 0 → pieces_from F b c ≡ []) → o < length (segments_of F b) → 1 ≤ left_of c.piece
  left-some z l = go (left_of c.piece) refl
    where
      go : (n : ℕ) → left_of c.piece ≡ n → 1 ≤ left_of c.piece
      go zero e =
          let s : first_size (pieces_from F b c) ≡ 0 = ap first_size (z e) ∙ (unfold first_size in refl) in
          absurd (omega (arith, ahead-some F b o (pieces_from F b c) a l))
      go (suc n) e = omega arith

  -- and there is a segment in the span
  pub span-some : (left_of c.piece ≡ 0 → pieces_from F b c ≡ []) → o < length (segments_of F b) → 1 ≤ span_of c
  span-some z l = go c.piece (left-some z l)
    where
      go : (q : code.Piece) → 1 ≤ left_of q → 1 ≤ span_by q c.dirty
      go (Clean v n) h = omega arith
      go (Dirty x) h = omega arith

  -- the segments of a clean run are its word
  pub run-word : (v left : ℕ) → c.piece ≡ Clean v left → (i : ℕ) → i < left → get_or (segments_of F b) (o + i) 0 ≡ fill (width F) v
  run-word v zero e i h = absurd (omega arith)
  run-word v (suc n) e i h = ahead-run F b o v (suc n) others (unfold piece_then run_then in ahead_of (Clean v (suc n)) e) i h

  module _ (x : ℕ) (e : c.piece ≡ Dirty x) where
    on_word : Ahead F b o (dirty_word x ∷ others)
    on_word = unfold piece_then in ahead_of (Dirty x) e

    behind-word : Ahead F b (o + 1) others
    unfolding advanced first_size piece_size
    behind-word = ahead-on F b o 1 (dirty_word x ∷ others) on_word (omega arith) (omega arith)

    -- the cursor's segment is its dirty word
    first_word : get_or (segments_of F b) (o + 0) 0 ≡ x
    first_word = let p : o + 0 ≡ o = omega arith in rw p (ahead-dirty F b o x others on_word)

    -- the dirty words of the next n segments are in the body
    pub words-there : (n : ℕ) → InOrder F b c → 1 ≤ n → n ≤ c.dirty + 1 → o + n ≤ length (segments_of F b)
        → c.next + (n - 1) ≤ length b
    words-there n k g h l =
        let f : length (flat (width F) others) ≡ length (segments_of F b) - (o + 1) =
        ap length behind-word.rest ∙ length-drop (o + 1) (segments_of F b) in
        let some = enough F (n - 1) c.dirty (drop c.next b) k.dirty-low (omega arith) (omega arith) in
        omega (arith, some, length-drop c.next b, k.inside)

    -- the i-th of the segments, from 0 on, is the i-th of the dirty words
    pub dirty-segment : InOrder F b c → (i : ℕ) → i ≤ c.dirty → c.next + i ≤ length b
        → get_or (segments_of F b) (o + i) 0 ≡ get_or b (c.next - 1 + i) 0
    dirty-segment k zero h l =
        let q : c.next - 1 + 0 ≡ c.next - 1 = omega arith in
        rw q (first_word ∙ sym (word_held F b c k x e).1)
    dirty-segment k (suc i) h l =
        let p : c.next + i ≡ c.next - 1 + suc i = omega (arith, (word_held F b c k x e).0) in
        let q : o + 1 + i ≡ o + suc i = omega arith in
        let there : Ahead F b (o + suc i) (rest_of F (c.dirty - i) (drop (c.next + i) b)) =
        rw q at (skip-dirty F b (o + 1) i c.next c.dirty k.dirty-low (omega arith) (omega arith) behind-word) in
        let is = rest-dirty F b (c.next + i) (c.dirty - i) (omega arith) (omega arith) (omega (arith, k.dirty-low)) in
        ahead-dirty F b (o + suc i) (get_or b (c.next + i) 0) _ (subst (λ (ps : List Piece). Ahead F b (o + suc i) ps) is there)
        ∙ ap (λ (j : ℕ). get_or b j 0) p

  -- all segments of the cursor's piece are its word
  pub piece-word : (i : ℕ) → i < left_of c.piece → get_or (segments_of F b) (o + i) 0 ≡ word_of F c.piece
  piece-word i h = go c.piece refl h
    where
      go : (q : code.Piece) → c.piece ≡ q → i < left_of q → get_or (segments_of F b) (o + i) 0 ≡ word_of F q
      go (Clean v n) e l = run-word v n e i l
      go (Dirty x) e l = let z : i ≡ 0 = omega arith in rw z (first_word x e)
