-- The last segment of a sound body, by the marker that it belongs to: which of its pad bits are set.
-- Assumes nothing.
use Prim.Native.Nat.{ℕ, zero, suc, ◌+◌, ◌-◌, ◌*◌, ◌<◌}
use mathlib.Core.Path.{◌≡◌, ap, ◌∙◌, subst}
use mathlib.Core.List.{List, [], ◌∷◌}
use lib.ListN.{length, get_or, drop}
use native.Mathlib.Omega.{arith}
use borrow.Author.Tests.{eq-eqb, ne_eqb}
use Rattle.meaning.specs.Segment.{segment_count}
use Rattle.meaning.specs.Piece.{Piece, dirty_word, last_dirty}
use Rattle.meaning.specs.Ewah.{pieces, value_of, clean_of, dirty_of}
use Rattle.laws.proofs.Decoded.{last-run, last-behind}
use Rattle.ewah.proofs.Pieces.{cons-at}
use Rattle.ewah_count.specs.Pads.{pads_set}

-- ---- where the last piece, if it is a dirty word, is below lim

module _ (lim : ℕ) (pos : 0 < lim) where
  -- so it is behind d dirty words
  pub behind-words : (d : ℕ) (ws : List ℕ) → last_dirty (pieces d ws) < lim → last_dirty (pieces 0 (drop d ws)) < lim
  unfolding pieces
  behind-words zero ws h = h
  behind-words (suc d) [] h = h
  behind-words (suc d) (w ∷ ws) h = behind-words d ws (last-behind lim w (pieces d ws) pos h)

  -- where no piece is behind them the last of them is below lim
  pub last_word : (d : ℕ) (ws : List ℕ) → d < length ws → pieces 0 (drop (suc d) ws) ≡ []
      → last_dirty (pieces (suc d) ws) < lim → get_or ws d 0 < lim
  unfolding pieces last_dirty
  last_word d [] l e h = absurd (omega arith)
  last_word zero (w ∷ ws) l e h = subst (λ (ps : List Piece). last_dirty (dirty_word w ∷ ps) < lim) e h
  last_word (suc d) (w ∷ ws) l e h = last_word d ws (omega arith) e (last-behind lim w (pieces (suc d) ws) pos h)

-- a marker's run is no dirty word
pub behind-run : (b : List ℕ) (i : ℕ) → i < length b
    → last_dirty (pieces 0 (drop i b)) ≡ last_dirty (pieces (dirty_of (get_or b i 0)) (drop (i + 1) b))
unfolding pieces
behind-run b i h =
    let m = get_or b i 0 in
    ap (λ (ws : List ℕ). last_dirty (pieces 0 ws)) (cons-at b i h)
    ∙ last-run (value_of m) (clean_of m) (pieces (dirty_of m) (drop (i + 1) b))

-- ---- the pad bits that are set, by the marker, as code finds them

pub pads-clean : (R m : ℕ) → dirty_of m ≡ 0 → pads_set R m ≡ value_of m * (segment_count 32 R * 32 - R)
unfolding pads_set
pads-clean R m h = rw (eq-eqb (dirty_of m) 0 h)

pub pads-dirty : (R m : ℕ) → 0 < dirty_of m → pads_set R m ≡ 0
unfolding pads_set
pads-dirty R m h = rw (ne_eqb (dirty_of m) 0 (omega arith))
