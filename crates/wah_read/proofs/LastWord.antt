-- The last word of a sound body of R rows: which pad bits it sets.
-- Assumes nothing.
use Prim.Native.Nat.{ℕ, zero, suc, ◌+◌, ◌-◌, ◌*◌, ◌≤◌, ◌<◌}
use mathlib.Core.Bool.{true, false}
use mathlib.Core.Path.{◌≡◌, sym, ap, ◌∙◌}
use mathlib.Core.List.{List, [], ◌∷◌, ◌++◌}
use lib.Dec.{lit<}
use lib.ListN.{length, take, get_or, length-append, get_or-replicate}
use lib.Pow.{pow_pos}
use lib.Seq.{take_all, get_or-append-add}
use native.Mathlib.Omega.{arith}
use Rattle.meaning.specs.Segment.{segment_count, last_rows, last_limit, fill, pads}
use Rattle.meaning.specs.Piece.{Piece, piece_size, NoneEmpty, last_dirty}
use Rattle.meaning.specs.Wah.{is_fill, fill_value, piece_of, wah_pieces, wah_segments}
use Rattle.laws.specs.Laws.{WahFacts}
use Rattle.laws.proofs.Pads.{pads-empty, pads-none, pads-all}
use Rattle.wah.specs.Words.{Spells}
use Rattle.wah.proofs.Spelled.{literal-piece, spelled-fill, spelled-literal, spells-none, spells-next, spells-size}

-- where no piece is empty, each word spells a segment
some_at : (b : List ℕ) (i : ℕ) → i < length b → NoneEmpty (wah_pieces b) → 1 ≤ piece_size (piece_of (get_or b i 0))
unfolding wah_pieces
some_at [] i h s = absurd (omega arith)
some_at (x ∷ xs) zero h s = s.0
some_at (x ∷ xs) (suc i) h s = some_at xs i (omega arith) s.1

-- a literal that is the last word is the last piece
last-literal : (b : List ℕ) (m : ℕ) → length b ≡ suc m → is_fill (get_or b m 0) ≡ false → last_dirty (wah_pieces b) ≡ get_or b m 0
unfolding wah_pieces last_dirty
last-literal [] m e f = absurd (omega arith)
last-literal (x ∷ []) zero e f = ap (λ (p : Piece). last_dirty (p ∷ [])) (literal-piece x f)
last-literal (x ∷ []) (suc m) e f = absurd (omega arith)
last-literal (x ∷ y ∷ ys) zero e f = absurd (omega arith)
last-literal (x ∷ y ∷ ys) (suc m) e f = last-literal (y ∷ ys) m (omega arith) f

-- no words
pub pads-no-words : (R : ℕ) (b : List ℕ) → length b ≡ 0 → pads 31 R (wah_segments b) ≡ 0
pads-no-words R [] e = pads-empty 31 R (wah_segments []) (ap length spells-none)
pads-no-words R (x ∷ xs) e = absurd (omega arith)

module _ (R : ℕ) (b : List ℕ) (facts : WahFacts R b) (some : length b ≡ 0 → ⊥) where
  -- the last word, and the segments before its own
  abbrev m : ℕ
  m = length b - 1

  abbrev last : ℕ
  last = get_or b m 0

  abbrev front : List ℕ
  front = wah_segments (take m b)

  inside : m < length b
  inside = omega (arith, some)

  in_two : wah_segments b ≡ front ++ wah_segments (last ∷ [])
  in_two = ap wah_segments (sym (take_all (m + 1) b (omega (arith, some)))) ∙ spells-next b m inside

  -- the last segment's place
  abbrev n : ℕ
  n = length front + (piece_size (piece_of last) - 1)

  size-some : 1 ≤ piece_size (piece_of last)
  size-some = some_at b m inside facts.some

  end : length (wah_segments b) ≡ suc n
  end = omega (arith, ap length in_two, length-append front (wah_segments (last ∷ [])), spells-size last, size-some)

  -- and its word
  last-is : (y : ℕ) → Spells last y → get_or (wah_segments b) n 0 ≡ y
  last-is y s =
      ap (λ (xs : List ℕ). get_or xs n 0) in_two
      ∙ get_or-append-add front (wah_segments (last ∷ [])) (piece_size (piece_of last) - 1) 0
      ∙ ap (λ (xs : List ℕ). get_or xs (piece_size (piece_of last) - 1) 0) s
      ∙ get_or-replicate (piece_size (piece_of last)) (piece_size (piece_of last) - 1) y 0 (omega (arith, size-some))

  -- it sets none
  low : (y : ℕ) → Spells last y → y < last_limit 31 R → pads 31 R (wah_segments b) ≡ 0
  low y s h = pads-none 31 (lit< tt) R (wah_segments b) n facts.count end (rw (last-is y s) h)

  -- it sets all
  all : get_or (wah_segments b) n 0 ≡ fill 31 1 → pads 31 R (wah_segments b) ≡ length (wah_segments b) * 31 - R
  all f = pads-all 31 (lit< tt) R (wah_segments b) n facts.count end f

  pub pads-literal : is_fill (get_or b (length b - 1) 0) ≡ false → pads 31 R (wah_segments b) ≡ 0
  pads-literal f = low last (spelled-literal last f) (rw (last-literal b m (omega (arith, some)) f) at facts.pads)

  -- of a fill all or none, by its value
  pub pads-fill : is_fill (get_or b (length b - 1) 0) ≡ true → (v : ℕ) → v ≡ fill_value (get_or b (length b - 1) 0) → v < 2
      → pads 31 R (wah_segments b) ≡ v * (segment_count 31 R * 31 - R)
  pads-fill f v e l = go v l (spelled-fill last (fill 31 v) f (ap (fill 31) e))
    where
      go : (v : ℕ) → v < 2 → Spells last (fill 31 v) → pads 31 R (wah_segments b) ≡ v * (segment_count 31 R * 31 - R)
      go zero h s = low (fill 31 0) s (unfold fill last_limit in pow_pos (last_rows 31 R)) ∙ omega arith
      go (suc zero) h s = omega (arith, facts.count, all (last-is (fill 31 1) s))
      go (suc (suc v)) h s = absurd (omega arith)
