-- Facts on pieces, and on the segments of w rows that they spell, for any width w. No format is known here.
-- Assumes nothing.
use Prim.Native.Nat.{ℕ, zero, suc, ◌+◌, ◌^◌, ◌≤◌, ◌<◌}
use mathlib.Core.Bool.{Bool, true, false, cond, and-false}
use mathlib.Core.Path.{◌≡◌, refl, ap}
use mathlib.Core.List.{List, [], ◌∷◌, ◌++◌, append_assoc}
use lib.Dec.{eqb, leb}
use lib.ListN.{length, get_or, replicate, length-append, length-replicate}
use lib.Pow.{pow_pos}
use native.Mathlib.Omega.{arith}
use borrow.Author.Tests.{leb-false, lt-leb, eq-eqb, ne_eqb}
use Rattle.meaning.specs.Segment.{Segment, clean, mixed, kind, kinds, fill, all_set, last_rows, last_limit, over_pad}
use Rattle.meaning.specs.Piece.{Piece, clean_run, dirty_word, run_then, piece_size, NoneEmpty, dirty_in, last_dirty, flat}

-- ---- the segments that pieces spell

pub flat-run : (w v n : ℕ) (ps : List Piece) → flat w (run_then v n ps) ≡ replicate n (fill w v) ++ flat w ps
unfolding flat run_then
flat-run w v zero ps = refl
flat-run w v (suc n) ps = refl

pub run_length : (c x : ℕ) (ys : List ℕ) → length (replicate c x ++ ys) ≡ c + length ys
run_length c x ys = rw (length-append (replicate c x) ys, length-replicate c x)

pub replicate-suc : (c x : ℕ) → replicate c x ++ x ∷ [] ≡ x ∷ replicate c x
replicate-suc zero x = refl
replicate-suc (suc c) x = ap (λ (l : List ℕ). x ∷ l) (replicate-suc c x)

pub flat-length : (w : ℕ) (p : Piece) (ps : List Piece) → length (flat w (p ∷ ps)) ≡ piece_size p + length (flat w ps)
unfolding flat piece_size
flat-length w (clean_run v n) ps = run_length n (fill w v) (flat w ps)
flat-length w (dirty_word x) ps = omega arith

pub flat_append : (w : ℕ) (ps qs : List Piece) → flat w (ps ++ qs) ≡ flat w ps ++ flat w qs
unfolding flat
flat_append w [] qs = refl
flat_append w (clean_run v n ∷ ps) qs = rw (flat_append w ps qs, append_assoc)
flat_append w (dirty_word x ∷ ps) qs = ap (λ (l : List ℕ). x ∷ l) (flat_append w ps qs)

-- ---- no piece is empty

pub some-run : (v n : ℕ) (ps : List Piece) → NoneEmpty ps → NoneEmpty (run_then v n ps)
unfolding run_then piece_size
some-run v zero ps s = s
some-run v (suc n) ps s = (omega arith, s)

pub some-append : (ps qs : List Piece) → NoneEmpty ps → NoneEmpty qs → NoneEmpty (ps ++ qs)
some-append [] qs s t = t
some-append (p ∷ ps) qs s t = (s.0, some-append ps qs s.1 t)

-- pieces that spell nothing are none
pub some-none : (w : ℕ) (ps : List Piece) → NoneEmpty ps → length (flat w ps) ≡ 0 → ps ≡ []
some-none w [] s e = refl
some-none w (p ∷ ps) s e = absurd (omega (arith, s.0, flat-length w p ps))

-- ---- the last piece, and the test for pad bits

pub last-append : (ps : List Piece) (q : Piece) (qs : List Piece) → last_dirty (ps ++ q ∷ qs) ≡ last_dirty (q ∷ qs)
unfolding last_dirty
last-append [] q qs = refl
last-append (p ∷ []) q qs = refl
last-append (p ∷ r ∷ ps) q qs = last-append (r ∷ ps) q qs

-- behind a piece the last one is as low
pub last_rest : (lim : ℕ) (p : Piece) (ps : List Piece) → 0 < lim → last_dirty (p ∷ ps) < lim → last_dirty ps < lim
unfolding last_dirty
last_rest lim p [] pos h = pos
last_rest lim p (q ∷ ps) pos h = h

pub limit-pos : (w R : ℕ) → 0 < last_limit w R
unfolding last_limit
limit-pos w R = pow_pos (last_rows w R)

module _ (w R left : ℕ) where
  -- a piece with which `left` segments begin passes the test, if the last of these pieces has no pad bit set
  pub pad-clear : (p : Piece) (ps : List Piece) → NoneEmpty (p ∷ ps) → piece_size p + length (flat w ps) ≡ left
      → last_dirty (p ∷ ps) < last_limit w R → over_pad w R left 1 (dirty_in p) ≡ false
  unfolding over_pad last_dirty dirty_in
  pad-clear (clean_run v n) [] s e h = rw (lt-leb (last_limit w R) 0 h, and-false)
  pad-clear (dirty_word x) [] s e h = rw (lt-leb (last_limit w R) x h, and-false)
  pad-clear p (q ∷ ps) s e h = rw (ne_eqb 1 left (omega (arith, s.0, s.1.0, flat-length w q ps)))

  -- and the other way
  pub pad-last : (p : Piece) (ps : List Piece) → piece_size p + length (flat w ps) ≡ left
      → over_pad w R left 1 (dirty_in p) ≡ false → last_dirty ps < last_limit w R → last_dirty (p ∷ ps) < last_limit w R
  unfolding over_pad last_dirty dirty_in piece_size flat
  pad-last (clean_run v n) [] e t h = limit-pos w R
  pad-last (dirty_word x) [] e t h =
      let l : leb (last_limit w R) x ≡ false = rw (eq-eqb 1 left (omega arith)) at t in
      leb-false (last_limit w R) x l
  pad-last p (q ∷ ps) e t h = h

-- ---- words below a limit

abbrev pub Below : ℕ → List ℕ → Type 0
Below n xs = (i : ℕ) → get_or xs i 0 < n

pub below-join : (n : ℕ) (xs ys : List ℕ) → Below n xs → Below n ys → Below n (xs ++ ys)
below-join n [] ys h k i = k i
below-join n (x ∷ xs) ys h k zero = h 0
below-join n (x ∷ xs) ys h k (suc i) = below-join n xs ys (λ j. h (suc j)) k i

pub below_one : (n x : ℕ) → 0 < n → x < n → Below n (x ∷ [])
below_one n x pos h zero = h
below_one n x pos h (suc i) = pos

below-run : (n c x : ℕ) → 0 < n → x < n → Below n (replicate c x)
below-run n zero x pos h i = pos
below-run n (suc c) x pos h zero = h
below-run n (suc c) x pos h (suc i) = below-run n c x pos h i

pub fill-lt : (real v : ℕ) → v < 2 → fill real v < 2 ^ real
unfolding fill all_set
fill-lt real zero h = omega (arith, pow_pos real)
fill-lt real (suc zero) h = omega (arith, pow_pos real)
fill-lt real (suc (suc v)) h = absurd (omega arith)

-- pieces of values below 2 and of words of w bits
abbrev pub LowPieces : ℕ → List Piece → Type 0
LowPieces w [] = Unit {0}
LowPieces w (clean_run v n ∷ ps) = (v < 2) × LowPieces w ps
LowPieces w (dirty_word x ∷ ps) = (x < 2 ^ w) × LowPieces w ps

pub low_run : (w v n : ℕ) (ps : List Piece) → v < 2 → LowPieces w ps → LowPieces w (run_then v n ps)
unfolding run_then
low_run w v zero ps h l = l
low_run w v (suc n) ps h l = (h, l)

-- spell segments of w bits
pub flat-below : (w : ℕ) (ps : List Piece) → LowPieces w ps → Below (2 ^ w) (flat w ps)
unfolding flat
flat-below w [] l i = pow_pos w
flat-below w (clean_run v n ∷ ps) l i =
    below-join (2 ^ w) (replicate n (fill w v)) (flat w ps)
    (below-run (2 ^ w) n (fill w v) (pow_pos w) (fill-lt w v l.0))
    (flat-below w ps l.1) i
flat-below w (dirty_word x ∷ ps) l zero = l.0
flat-below w (dirty_word x ∷ ps) l (suc i) = flat-below w ps l.1 i

-- ---- what is put into a draft

-- a segment as it is made from a word of w bits
abbrev pub Ok : ℕ → Segment → Type 0
Ok w (clean v) = v < 2
Ok w (mixed x) = x < 2 ^ w

abbrev pub AllOk : ℕ → List Segment → Type 0
AllOk w [] = Unit {0}
AllOk w (s ∷ ss) = Ok w s × AllOk w ss

pub kind_ok : (w real x : ℕ) → x < 2 ^ w → Ok w (kind real x)
unfolding kind
kind_ok w real x h = go (eqb x 0) (eqb x (all_set real))
  where
    go : (s t : Bool) → Ok w (cond s (clean 0) (cond t (clean 1) (mixed x)))
    go true t = omega arith
    go false true = omega arith
    go false false = h

pub kinds-ok : (w R : ℕ) (xs : List ℕ) → Below (2 ^ w) xs → AllOk w (kinds w R xs)
unfolding kinds
kinds-ok w R [] h = tt
kinds-ok w R (x ∷ []) h = (kind_ok w (last_rows w R) x (h 0), tt)
kinds-ok w R (x ∷ y ∷ ys) h = (kind_ok w w x (h 0), kinds-ok w R (y ∷ ys) (λ i. h (suc i)))

-- the word of a mixed segment
abbrev pub mixed_word : Segment → ℕ
mixed_word (clean v) = 0
mixed_word (mixed x) = x

pub mixed-le : (real x : ℕ) → mixed_word (kind real x) ≤ x
unfolding kind
mixed-le real x = go (eqb x 0) (eqb x (all_set real))
  where
    go : (s t : Bool) → mixed_word (cond s (clean 0) (cond t (clean 1) (mixed x))) ≤ x
    go true t = omega arith
    go false true = omega arith
    go false false = omega arith
