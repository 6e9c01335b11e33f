-- What a word of a body spells, and what the words of a body spell together.
-- Assumes nothing.
use Prim.Native.Nat.{ℕ, suc, ◌+◌, ◌/◌, ◌<◌}
use mathlib.Core.Bool.{Bool, true, false, not}
use mathlib.Core.Path.{◌≡◌, refl, sym, ap, ap₂, ◌∙◌}
use mathlib.Core.List.{List, [], ◌∷◌, ◌++◌, append-nil}
use lib.Dec.{eqb}
use lib.ListN.{length, take, drop, get_or, replicate, length-replicate, take-append-drop}
use lib.Seq.{drop-cons, take-suc}
use native.Mathlib.Numerals.{add-one}
use native.Mathlib.Omega.{arith}
use Rattle.meaning.specs.Segment.{fill}
use Rattle.meaning.specs.Piece.{Piece, clean_run, dirty_word, piece_size, flat}
use Rattle.meaning.specs.Wah.{is_fill, fill_value, fill_count, piece_of, wah_pieces, wah_segments}
use Rattle.laws.proofs.WahBody.{segments-append}
use Rattle.words.proofs.Segmented.{left_behind}
use Rattle.wah.specs.Words.{Spells}

-- ---- one word

-- the top bit by a shift
pub top_bit : (x : ℕ) → not (eqb (x / 2147483648) 0) ≡ is_fill x
unfolding is_fill
top_bit x = left_behind x 2147483648 (omega arith)

module _ (x : ℕ) where
  pub fill-piece : is_fill x ≡ true → piece_of x ≡ clean_run (fill_value x) (fill_count x)
  unfolding piece_of
  fill-piece e = rw e

  pub literal-piece : is_fill x ≡ false → piece_of x ≡ dirty_word x
  unfolding piece_of
  literal-piece e = rw e

  pub fill-size : is_fill x ≡ true → piece_size (piece_of x) ≡ fill_count x
  unfolding piece_size
  fill-size e = ap piece_size (fill-piece e)

  pub literal-size : is_fill x ≡ false → piece_size (piece_of x) ≡ 1
  unfolding piece_size
  literal-size e = ap piece_size (literal-piece e)

  pub fill-spells : is_fill x ≡ true → wah_segments (x ∷ []) ≡ replicate (fill_count x) (fill 31 (fill_value x))
  unfolding wah_segments wah_pieces flat
  fill-spells e = ap (λ (p : Piece). flat 31 (p ∷ [])) (fill-piece e) ∙ append-nil (replicate (fill_count x) (fill 31 (fill_value x)))

  pub literal-spells : is_fill x ≡ false → wah_segments (x ∷ []) ≡ x ∷ []
  unfolding wah_segments wah_pieces flat
  literal-spells e = ap (λ (p : Piece). flat 31 (p ∷ [])) (literal-piece e)

  -- as one word, so many times
  pub spelled-fill : (y : ℕ) → is_fill x ≡ true → y ≡ fill 31 (fill_value x) → Spells x y
  spelled-fill y e f = fill-spells e ∙ ap₂ replicate (sym (fill-size e)) (sym f)

  pub spelled-literal : is_fill x ≡ false → Spells x x
  spelled-literal e = literal-spells e ∙ ap (λ (n : ℕ). replicate n x) (sym (literal-size e))

  pub spells-size : length (wah_segments (x ∷ [])) ≡ piece_size (piece_of x)
  spells-size = go (is_fill x) refl
    where
      go : (t : Bool) → is_fill x ≡ t → length (wah_segments (x ∷ [])) ≡ piece_size (piece_of x)
      go true e = ap length (fill-spells e) ∙ length-replicate (fill_count x) (fill 31 (fill_value x)) ∙ sym (fill-size e)
      go false e = ap length (literal-spells e) ∙ sym (literal-size e)

-- ---- many words

pub spells-none : wah_segments [] ≡ []
unfolding wah_segments wah_pieces flat
spells-none = refl

-- the word at i, with those before and behind it
module _ (b : List ℕ) (i : ℕ) (h : i < length b) where
  pub spells_at : wah_segments (drop i b) ≡ wah_segments (get_or b i 0 ∷ []) ++ wah_segments (drop (i + 1) b)
  spells_at = ap wah_segments (drop-cons b i 0 h) ∙ segments-append (get_or b i 0 ∷ []) (drop (suc i) b) ∙ rw (add-one i)

  pub spells-split : wah_segments b ≡ wah_segments (take i b) ++ (wah_segments (get_or b i 0 ∷ []) ++ wah_segments (drop (i + 1) b))
  spells-split =
      ap wah_segments (sym (take-append-drop i b))
      ∙ segments-append (take i b) (drop i b)
      ∙ ap (λ (l : List ℕ). wah_segments (take i b) ++ l) spells_at

  pub spells-next : wah_segments (take (i + 1) b) ≡ wah_segments (take i b) ++ wah_segments (get_or b i 0 ∷ [])
  spells-next =
      rw (add-one i) (ap wah_segments (take-suc b i 0 h) ∙ segments-append (take i b) (get_or b i 0 ∷ []))
