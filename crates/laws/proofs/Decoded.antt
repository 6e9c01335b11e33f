-- What an EWAH body decodes to, and that it is sound exactly if it is whole, has as many segments as its rows, and its last
-- dirty word sets no pad bit.
-- Assumes nothing.
use Prim.Native.Nat.{ℕ, zero, suc, ◌+◌, ◌-◌, ◌%◌, ◌≤◌, ◌<◌}
use mathlib.Core.Bool.{Bool, true, false, false≢true}
use mathlib.Core.Path.{◌≡◌, refl, sym, ap, ◌∙◌}
use mathlib.Core.List.{List, [], ◌∷◌, ◌++◌, append_assoc}
use lib.Dec.{ltb}
use lib.ListN.{length, replicate}
use mathlib.Core.Logic.{◌↔◌}
use native.Mathlib.Omega.{arith}
use borrow.Author.Tests.{ltb-false, le-ltb}
use Rattle.meaning.specs.Limits.{most_clean, most_dirty}
use Rattle.meaning.specs.Segment.{fill, last_limit, segment_count, over_pad}
use Rattle.meaning.specs.Refusal.{Verdict, sound, refuse_if}
use Rattle.meaning.specs.Piece.{Piece, dirty_word, run_then, piece_size, NoneEmpty, dirty_in, last_dirty, flat}
use Rattle.meaning.specs.Ewah.{pieces, decode, segments, value_of, clean_of, dirty_of, marker, due_after, fault_from, ewah_fault}
use Rattle.laws.specs.Demands.{Words}
use Rattle.laws.proofs.Pieces.{flat-run, run_length, some-run, some-none, last_rest, limit-pos, pad-clear, pad-last, LowPieces, low_run, flat-below}

pub decode-append : (due : ℕ) (a b : List ℕ) → decode due (a ++ b) ≡ decode due a ++ decode (due_after due a) b
unfolding decode due_after
decode-append due [] b = refl
decode-append zero (m ∷ ws) b = rw (decode-append (dirty_of m) ws b, append_assoc)
decode-append (suc due) (w ∷ ws) b = ap (λ (l : List ℕ). w ∷ l) (decode-append due ws b)

pub due-append : (due : ℕ) (a b : List ℕ) → due_after due (a ++ b) ≡ due_after (due_after due a) b
unfolding due_after
due-append due [] b = refl
due-append zero (m ∷ ws) b = due-append (dirty_of m) ws b
due-append (suc due) (w ∷ ws) b = due-append due ws b

pub decode-dirty : (ds : List ℕ) → decode (length ds) ds ≡ ds
unfolding decode
decode-dirty [] = refl
decode-dirty (d ∷ ds) = ap (λ (l : List ℕ). d ∷ l) (decode-dirty ds)

pub due-dirty : (ds : List ℕ) → due_after (length ds) ds ≡ 0
unfolding due_after
due-dirty [] = refl
due-dirty (d ∷ ds) = due-dirty ds

-- ---- a marker's fields come back

module _ (v c d : ℕ) (hv : v < 2) (hc : c ≤ most_clean) (hd : d ≤ most_dirty) where
  pub value-marker : value_of (marker v c d) ≡ v
  unfolding value_of marker
  value-marker = omega arith

  pub clean-marker : clean_of (marker v c d) ≡ c
  unfolding clean_of marker
  clean-marker = omega arith

  pub dirty-marker : dirty_of (marker v c d) ≡ d
  unfolding dirty_of marker
  dirty-marker = omega arith

-- ---- sound, as facts on what is decoded

-- Words that begin with `due` dirty words are whole, decode to `left` segments, and the last of those, if it is a dirty word, is below `lim`
pub record Whole (lim due left : ℕ) (ws : List ℕ) : Type 0 where
  pub ended : due_after due ws ≡ 0
  pub count : length (decode due ws) ≡ left
  pub last : last_dirty (pieces due ws) < lim

pub due-le : (due : ℕ) (ws : List ℕ) → due_after due ws ≡ 0 → due ≤ length ws
unfolding due_after
due-le due [] e = omega arith
due-le zero (m ∷ ws) e = omega arith
due-le (suc due) (w ∷ ws) e = omega (arith, due-le due ws e)

decode-length : (due : ℕ) (ws : List ℕ) → due ≤ length ws → due ≤ length (decode due ws)
unfolding decode
decode-length due [] h = omega arith
decode-length zero (m ∷ ws) h = omega arith
decode-length (suc due) (w ∷ ws) h = omega (arith, decode-length due ws (omega arith))

-- ---- pieces

pub flat-pieces : (due : ℕ) (b : List ℕ) → flat 32 (pieces due b) ≡ decode due b
unfolding pieces decode flat
flat-pieces due [] = refl
flat-pieces zero (m ∷ ws) =
    flat-run 32 (value_of m) (clean_of m) (pieces (dirty_of m) ws)
    ∙ ap (λ (l : List ℕ). replicate (clean_of m) (fill 32 (value_of m)) ++ l) (flat-pieces (dirty_of m) ws)
flat-pieces (suc due) (w ∷ ws) = ap (λ (l : List ℕ). w ∷ l) (flat-pieces due ws)

pub pieces-some : (due : ℕ) (b : List ℕ) → NoneEmpty (pieces due b)
unfolding pieces piece_size
pieces-some due [] = tt
pieces-some zero (m ∷ ws) = some-run (value_of m) (clean_of m) (pieces (dirty_of m) ws) (pieces-some (dirty_of m) ws)
pieces-some (suc due) (w ∷ ws) = (omega arith, pieces-some due ws)

-- a body of no segments has no pieces
pub pieces_none : (due : ℕ) (ws : List ℕ) → length (decode due ws) ≡ 0 → pieces due ws ≡ []
pieces_none due ws e = some-none 32 (pieces due ws) (pieces-some due ws) (ap length (flat-pieces due ws) ∙ e)

pub last-run : (v c : ℕ) (ps : List Piece) → last_dirty (run_then v c ps) ≡ last_dirty ps
unfolding last_dirty run_then
last-run v zero ps = refl
last-run v (suc c) [] = refl
last-run v (suc c) (q ∷ ps) = refl

-- behind a dirty word the last one is as low
pub last-behind : (lim w : ℕ) (ps : List Piece) → 0 < lim → last_dirty (dirty_word w ∷ ps) < lim → last_dirty ps < lim
last-behind lim w ps pos h = last_rest lim (dirty_word w) ps pos h

-- the test for pad bits of a dirty word, and the last piece
module _ (R left w due : ℕ) (ws : List ℕ) (count : suc (length (decode due ws)) ≡ left) where
  spelt : piece_size (dirty_word w) + length (flat 32 (pieces due ws)) ≡ left
  unfolding piece_size
  spelt = omega (arith, ap length (flat-pieces due ws))

  word-clear : last_dirty (dirty_word w ∷ pieces due ws) < last_limit 32 R → over_pad 32 R left 1 w ≡ false
  unfolding dirty_in piece_size
  word-clear h = pad-clear 32 R left (dirty_word w) (pieces due ws) (omega arith, pieces-some due ws) spelt h

  word-last : over_pad 32 R left 1 w ≡ false → last_dirty (pieces due ws) < last_limit 32 R
      → last_dirty (dirty_word w ∷ pieces due ws) < last_limit 32 R
  unfolding dirty_in
  word-last t h = pad-last 32 R left (dirty_word w) (pieces due ws) spelt t h

-- ---- segments of 32 bits

pieces-low : (due : ℕ) (b : List ℕ) → Words b → LowPieces 32 (pieces due b)
unfolding pieces value_of
pieces-low due [] h = tt
pieces-low zero (m ∷ ws) h =
    low_run 32 (m % 2) (clean_of m) (pieces (dirty_of m) ws) (omega arith) (pieces-low (dirty_of m) ws (λ i. h (suc i)))
pieces-low (suc due) (w ∷ ws) h = (h 0, pieces-low due ws (λ i. h (suc i)))

pub decoded-words : (b : List ℕ) → Words b → Words (segments b)
decoded-words b h = rw (← flat-pieces 0 b) (flat-below 32 (pieces 0 b) (pieces-low 0 b h))

-- ---- both ways

pub not-refused : (t : Bool) (n b w : ℕ) (r : Verdict) → refuse_if t n b w r ≡ sound → (t ≡ false) × (r ≡ sound)
unfolding refuse_if
not-refused true n b w r e = let z : ◌≡◌ {A = ℕ} 0 1 = cc in absurd (omega arith)
not-refused false n b w r e = (refl, e)

pub let_through : (t : Bool) (n b w : ℕ) (r : Verdict) → t ≡ false → r ≡ sound → refuse_if t n b w r ≡ sound
unfolding refuse_if
let_through true n b w r e f = absurd (false≢true (sym e))
let_through false n b w r e f = f

module _ (bitmap rows : ℕ) where
  pub sound-whole : (place due left : ℕ) (ws : List ℕ) → due ≤ length ws → due ≤ left → fault_from bitmap rows place due left ws ≡ sound → Whole (last_limit 32 rows) due left ws
  unfolding fault_from due_after decode pieces
  sound-whole place due left [] h k e =
      let p = not-refused (ltb 0 left) 6 bitmap place sound e in
      record { ended = omega arith; count = omega (arith, ltb-false 0 left p.0); last = unfold last_dirty in limit-pos 32 rows }
  sound-whole place zero left (m ∷ ws) h k e =
      let rest : Verdict = fault_from bitmap rows (suc place) (dirty_of m) (left - clean_of m) ws in
      let t6 : Bool = ltb left (clean_of m + dirty_of m) in
      let p5 = not-refused (ltb (length ws) (dirty_of m)) 5 bitmap place (refuse_if t6 6 bitmap place rest) e in
      let p6 = not-refused t6 6 bitmap place rest p5.1 in
      let h6 : clean_of m + dirty_of m ≤ left = ltb-false left (clean_of m + dirty_of m) p6.0 in
      let f = sound-whole (suc place) (dirty_of m) (left - clean_of m) ws (ltb-false (length ws) (dirty_of m) p5.0) (omega arith) p6.1 in
      let n : clean_of m + length (decode (dirty_of m) ws) ≡ left = omega (arith, f.count) in
      record { ended = f.ended; count = run_length _ _ _ ∙ n; last = omega (arith, last-run (value_of m) (clean_of m) (pieces (dirty_of m) ws), f.last) }
  sound-whole place (suc due) left (w ∷ ws) h k e =
      let p = not-refused (over_pad 32 rows left 1 w) 7 bitmap place (fault_from bitmap rows (suc place) due (left - 1) ws) e in
      let f = sound-whole (suc place) due (left - 1) ws (omega arith) (omega arith) p.1 in
      record { ended = f.ended; count = omega (arith, f.count); last = word-last rows left w due ws (omega (arith, f.count)) p.0 f.last }

  pub whole-sound : (place due left : ℕ) (ws : List ℕ) → Whole (last_limit 32 rows) due left ws → fault_from bitmap rows place due left ws ≡ sound
  unfolding fault_from due_after decode pieces
  whole-sound place due left [] f = let_through _ _ _ _ _ (le-ltb 0 left (omega (arith, f.count))) refl
  whole-sound place zero left (m ∷ ws) f =
      let h5 = due-le (dirty_of m) ws f.ended in
      let n : clean_of m + length (decode (dirty_of m) ws) ≡ left = sym (run_length _ _ _) ∙ f.count in
      let h6 : clean_of m + dirty_of m ≤ left = omega (arith, decode-length (dirty_of m) ws h5) in
      let_through _ _ _ _ _ (le-ltb _ _ h5)
      (let_through _ _ _ _ _ (le-ltb _ _ h6)
      (whole-sound (suc place) (dirty_of m) (left - clean_of m) ws
      (record { ended = f.ended; count = omega arith; last = omega (arith, last-run (value_of m) (clean_of m) (pieces (dirty_of m) ws), f.last) })))
  whole-sound place (suc due) left (w ∷ ws) f =
      let n : suc (length (decode due ws)) ≡ left = omega (arith, f.count) in
      let_through _ _ _ _ _ (word-clear rows left w due ws n f.last)
      (whole-sound (suc place) due (left - 1) ws (record { ended = f.ended; count = omega (arith, f.count); last = last-behind (last_limit 32 rows) w (pieces due ws) (limit-pos 32 rows) f.last }))

-- A body is sound exactly if its last marker has all its dirty words, it decodes to as many segments as its rows have, and
-- a dirty word at its end sets no pad bit
pub sound-iff : (rows : ℕ) (b : List ℕ) → (ewah_fault 0 0 rows b ≡ sound) ↔ Whole (last_limit 32 rows) 0 (segment_count 32 rows) b
unfolding ewah_fault
sound-iff rows b = (sound-whole 0 rows 0 0 (segment_count 32 rows) b (omega arith) (omega arith), whole-sound 0 rows 0 0 (segment_count 32 rows) b)
