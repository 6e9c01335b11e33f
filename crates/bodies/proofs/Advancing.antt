-- A cursor that goes on in a body of either format.
-- Assumes nothing.
use Prim.Native.Nat.{ℕ, zero, suc, ◌+◌, ◌-◌, ◌≤◌, ◌<◌}
use mathlib.Core.Path.{◌≡◌, refl, sym, ap, ◌∙◌, subst}
use mathlib.Core.List.{List, ◌∷◌}
use native.Mathlib.Omega.{arith}
use lib.ListN.{length, drop, get_or}
use Rattle.meaning.specs.Piece.{Piece, dirty_word, run_then, piece_size}
use Rattle.meaning.specs.Ewah.{pieces}
use Rattle.meaning.specs.declared.Format.{Format}
use Rattle.meaning.specs.declared.Format.TheVariants.{Ewah, Wah}
use Rattle.laws.specs.Ahead.{rest_of, Ahead, advanced, first_size}
use Rattle.laws.proofs.Walked.{ahead-on}
use Rattle.ewah.specs.declared.cursor.Cursor.{Cursor}
use Rattle.ewah.specs.declared.cursor.Piece as code
use Rattle.ewah.specs.declared.cursor.Piece.TheVariants.{Clean, Dirty}
use Rattle.ewah.specs.Cursors.{Stands, InOrder, most_due, left_of, pieces_from, piece_then}
use Rattle.ewah.proofs.Pieces.{cons-at, run-zero, pieces-dirty}
use Rattle.bodies.specs.Walks.{Passes}

-- the first of the dirty words that are due, and what is behind it
pub rest-dirty : (F : Format) (b : List ℕ) (next d : ℕ) → next < length b → 1 ≤ d → d ≤ most_due F
    → rest_of F d (drop next b) ≡ dirty_word (get_or b next 0) ∷ rest_of F (d - 1) (drop (next + 1) b)
rest-dirty Ewah b next d h g l =
    ap (pieces d) (cons-at b next h) ∙ pieces-dirty d (get_or b next 0) (drop (next + 1) b) (omega arith)
rest-dirty Wah b next d h g l = absurd (omega arith)

-- over n of the dirty words that are due
pub skip-dirty : (F : Format) (b : List ℕ) (o n next d : ℕ) → d ≤ most_due F → n ≤ d → next + n ≤ length b
    → Ahead F b o (rest_of F d (drop next b)) → Ahead F b (o + n) (rest_of F (d - n) (drop (next + n) b))
unfolding advanced first_size piece_size
skip-dirty F b o zero next d m h l a =
    let e : o + 0 ≡ o = omega arith in
    let f : d - 0 ≡ d = omega arith in
    let g : next + 0 ≡ next = omega arith in
    rw (e, f, g) a
skip-dirty F b o (suc n) next d m h l a =
    let x = get_or b next 0 in
    let others = rest_of F (d - 1) (drop (next + 1) b) in
    let first = rest-dirty F b next d (omega arith) (omega arith) m in
    let one : Ahead F b (o + 1) others =
    ahead-on F b o 1 (dirty_word x ∷ others) (subst (λ (ps : List Piece). Ahead F b o ps) first a) (omega arith) (omega arith) in
    let e : o + 1 + n ≡ o + suc n = omega arith in
    let f : d - 1 - n ≡ d - suc n = omega arith in
    let g : next + 1 + n ≡ next + suc n = omega arith in
    rw (e, f, g) at (skip-dirty F b (o + 1) n (next + 1) (d - 1) (omega arith) (omega arith) (omega arith) one)

module _ (F : Format) (b : List ℕ) (c : Cursor) where
  -- the pieces behind the cursor's
  abbrev others : List Piece
  others = rest_of F c.dirty (drop c.next b)

  -- what is left of the cursor's piece is the first one's size
  pub first-left : 1 ≤ left_of c.piece → first_size (pieces_from F b c) ≡ left_of c.piece
  unfolding pieces_from piece_then first_size
  first-left h = go c.piece h
    where
      go : (p : code.Piece) → 1 ≤ left_of p → first_size (piece_then p others) ≡ left_of p
      go (Clean v zero) h = absurd (omega arith)
      go (Clean v (suc n)) h = refl
      go (Dirty x) h = refl

  module _ (n : ℕ) (g : 1 ≤ n) where
    module _ (h : n ≤ left_of c.piece) where
      -- the run goes on
      pub run-shorter : InOrder F b c → (v k : ℕ) → c.piece ≡ Clean v k → n < k
          → Stands F b (record { piece = Clean v (k - n); next = c.next; dirty = c.dirty }) (advanced n (pieces_from F b c))
      unfolding pieces_from piece_then
      run-shorter o v k e l = record {
        in_order = record {
          inside = o.inside;
          value_low = rw e at o.value_low;
          left-low = omega (arith, o.left-low, ap left_of e);
          dirty-low = o.dirty-low;
          word-is = tt;
          rest_some = o.rest_some;
        };
        has = sym (ap (λ (q : code.Piece). advanced n (piece_then q others)) e ∙ part k l);
        at-end = λ z. absurd (omega arith);
      }
        where
          part : (k : ℕ) → n < k → advanced n (run_then v k others) ≡ run_then v (k - n) others
          part zero l = absurd (omega arith)
          part (suc k) l = unfold advanced run_then in refl

      -- it ends, and the next piece was loaded
      pub run-over : (v k : ℕ) (r : Cursor) → c.piece ≡ Clean v k → k ≤ n → Stands F b r others
          → Stands F b r (advanced n (pieces_from F b c))
      unfolding pieces_from piece_then
      run-over v k r e l s = rw e (rw (part k (omega (arith, ap left_of e)) l) s)
        where
          part : (k : ℕ) → n ≤ k → k ≤ n → advanced n (run_then v k others) ≡ others
          part zero i l = absurd (omega arith)
          part (suc k) i l = unfold advanced run_then in run-zero v (suc k - n) others (omega arith)

      pub dirty-over : (x : ℕ) (r : Cursor) → c.piece ≡ Dirty x → Stands F b r others
          → Stands F b r (advanced n (pieces_from F b c))
      unfolding pieces_from piece_then advanced
      dirty-over x r e s = rw e s

      -- within one piece
      pub passes-one : (r : Cursor) → Stands F b r (advanced n (pieces_from F b c)) → Passes F b c n r
      passes-one r s = record {
        in_order = s.in_order;
        on = λ o a. rw s.has (ahead-on F b o n (pieces_from F b c) a g (omega (arith, first-left (omega arith))));
        at-end = λ z. s.has ∙ s.at-end z;
      }

    -- over n dirty words
    pub passes-dirty : InOrder F b c → (x : ℕ) → c.piece ≡ Dirty x → n ≤ c.dirty + 1 → c.next + (n - 1) ≤ length b
        → (r : Cursor) → Stands F b r (rest_of F (c.dirty - (n - 1)) (drop (c.next + (n - 1)) b)) → Passes F b c n r
    unfolding pieces_from piece_then advanced first_size piece_size
    passes-dirty k x e h l r s = record {
      in_order = s.in_order;
      on = λ o a.
          let f : Ahead F b o (dirty_word x ∷ others) = subst (λ (q : code.Piece). Ahead F b o (piece_then q others)) e a in
          let one : Ahead F b (o + 1) others = ahead-on F b o 1 (dirty_word x ∷ others) f (omega arith) (omega arith) in
          let q : o + 1 + (n - 1) ≡ o + n = omega arith in
          rw s.has (rw q at (skip-dirty F b (o + 1) (n - 1) c.next c.dirty k.dirty-low (omega arith) l one));
      at-end = λ z. s.has ∙ s.at-end z;
    }
