-- A walk over the pieces of a body of either format: where it starts, how it goes on, and what the first of the pieces
-- ahead says of the body's segments and ends.
-- Assumes nothing.
use Prim.Native.Nat.{ℕ, zero, suc, ◌+◌, ◌-◌, ◌≤◌, ◌<◌}
use mathlib.Core.Bool.{Bool, true, false}
use mathlib.Core.Path.{◌≡◌, refl, sym, ap, ◌∙◌}
use mathlib.Core.List.{List, [], ◌∷◌, ◌++◌}
use lib.ListN.{length, get_or, drop, replicate, length-drop, length-replicate, get_or-replicate, get_or-append}
use lib.Seq.{drop-drop, get_or-drop}
use native.Mathlib.Omega.{arith}
use borrow.Author.Tests.{eq-eqb, ne_eqb}
use Rattle.meaning.specs.Rows.{bit, sum_below, count_below}
use Rattle.meaning.specs.Segment.{fill}
use Rattle.meaning.specs.Piece.{Piece, clean_run, dirty_word, run_then, piece_size, NoneEmpty, flat}
use Rattle.meaning.specs.Format.{width, pieces_of, segments_of}
use Rattle.meaning.specs.declared.Format.{Format}
use Rattle.meaning.specs.Question.{is_in, ends_from, ends_at}
use Rattle.laws.specs.Ahead.{advanced, first_size, Ahead}
use Rattle.laws.proofs.Tests.{or-true}
use Rattle.laws.proofs.Pieces.{some-run}
use Rattle.laws.proofs.Formats.{spells, flat-run, flat-length}
use Rattle.laws.proofs.Counting.{count_add}
use Rattle.laws.proofs.Counted.{count_none}

-- ---- no piece is empty

-- nor is one where the first has been advanced in
advanced-some : (n : ℕ) (ps : List Piece) → NoneEmpty ps → NoneEmpty (advanced n ps)
unfolding advanced
advanced-some n [] s = tt
advanced-some n (clean_run v k ∷ ps) s = some-run v (k - n) ps s.1
advanced-some n (dirty_word x ∷ ps) s = s.1

-- ---- the segments of the pieces

-- a run without its first n
drop-run : (n k x : ℕ) (ys : List ℕ) → n ≤ k → drop n (replicate k x ++ ys) ≡ replicate (k - n) x ++ ys
drop-run zero k x ys h = let e : k ≡ k - 0 = omega arith in ap (λ (z : ℕ). replicate z x ++ ys) e
drop-run (suc n) zero x ys h = absurd (omega arith)
drop-run (suc n) (suc k) x ys h =
    let e : k - n ≡ suc k - suc n = omega arith in drop-run n k x ys (omega arith) ∙ ap (λ (z : ℕ). replicate z x ++ ys) e

module _ (w : ℕ) where
  -- the segments are those without the first n
  flat-advanced : (n : ℕ) (ps : List Piece) → 1 ≤ n → n ≤ first_size ps → flat w (advanced n ps) ≡ drop n (flat w ps)
  unfolding flat advanced first_size
  flat-advanced n [] h g = absurd (omega arith)
  flat-advanced n (clean_run v k ∷ ps) h g = flat-run w v (k - n) ps ∙ sym (drop-run n k (fill w v) (flat w ps) g)
  flat-advanced n (dirty_word x ∷ ps) h g = let e : n ≡ 1 = omega arith in rw e

  -- the first piece has no more than all
  first-le : (ps : List Piece) → first_size ps ≤ length (flat w ps)
  unfolding first_size
  first-le [] = omega arith
  first-le (p ∷ ps) = omega (arith, flat-length w p ps)

-- ---- the ends of the pieces

-- behind a run, past its start
ends-run : (a v n : ℕ) (ps : List Piece) (e : ℕ) → a < e
    → is_in (ends_from a (run_then v n ps)) e ≡ is_in ((a + n) ∷ ends_from (a + n) ps) e
unfolding is_in ends_from run_then
ends-run a v zero ps e h = let z : a + 0 ≡ a = omega arith in rw (z, ne_eqb a e (omega arith))
ends-run a v (suc n) ps e h = refl

-- the ends further on stay where they are
ends-advanced : (o n : ℕ) (ps : List Piece) (e : ℕ) → 1 ≤ n → n ≤ first_size ps → o + n < e
    → is_in (ends_from (o + n) (advanced n ps)) e ≡ is_in (ends_from o ps) e
unfolding is_in ends_from advanced first_size
ends-advanced o n [] e h g l = refl
ends-advanced o n (clean_run v k ∷ ps) e h g l =
    let z : o + n + (k - n) ≡ o + k = omega arith in
    ends-run (o + n) v (k - n) ps e l ∙ ap (λ (a : ℕ). is_in (a ∷ ends_from a ps) e) z
ends-advanced o n (dirty_word x ∷ ps) e h g l =
    let z : n ≡ 1 = omega arith in rw (z, ne_eqb (o + 1) e (omega arith))

-- none ends before the first does
first_ends : (a : ℕ) (ps : List Piece) (e : ℕ) → e < a + first_size ps → is_in (ends_from a ps) e ≡ false
unfolding is_in ends_from first_size
first_ends a [] e h = refl
first_ends a (p ∷ ps) e h =
    rw (ne_eqb (a + piece_size p) e (omega arith)) (first_ends (a + piece_size p) ps e (omega arith))

-- and it does
first-end : (a : ℕ) (ps : List Piece) → 1 ≤ first_size ps → is_in (ends_from a ps) (a + first_size ps) ≡ true
unfolding is_in ends_from first_size
first-end a [] h = absurd (omega arith)
first-end a (p ∷ ps) h = rw (eq-eqb (a + piece_size p) (a + piece_size p) refl)

-- ---- the walk

-- it starts at the first piece, where no piece is empty
pub ahead-start : (F : Format) (b : List ℕ) → NoneEmpty (pieces_of F b) → Ahead F b 0 (pieces_of F b)
ahead-start F b s = record { some = s; rest = spells F b; ends = λ e h. refl }

module _ (F : Format) (b : List ℕ) (o : ℕ) where
  abbrev w : ℕ
  w = width F

  abbrev segs : List ℕ
  segs = segments_of F b

  -- it goes on within the first piece, or to its end
  pub ahead-on : (n : ℕ) (ps : List Piece) → Ahead F b o ps → 1 ≤ n → n ≤ first_size ps
      → Ahead F b (o + n) (advanced n ps)
  ahead-on n ps a h g =
      record {
        some = advanced-some n ps a.some;
        rest = flat-advanced w n ps h g ∙ ap (drop n) a.rest ∙ drop-drop n o segs;
        ends = λ e l. a.ends e (omega arith) ∙ sym (ends-advanced o n ps e h g l);
      }

  -- the segments from o on are those of the pieces
  ahead-at : (ps : List Piece) → Ahead F b o ps → (j : ℕ) → get_or segs (o + j) 0 ≡ get_or (flat w ps) j 0
  ahead-at ps a j = sym (get_or-drop o segs j 0) ∙ ap (λ (l : List ℕ). get_or l j 0) (sym a.rest)

  -- those of a clean run
  pub ahead-run : (v k : ℕ) (ps : List Piece) → Ahead F b o (clean_run v k ∷ ps) → (j : ℕ) → j < k
      → get_or (segments_of F b) (o + j) 0 ≡ fill (width F) v
  unfolding flat
  ahead-run v k ps a j h =
      let run : List ℕ = replicate k (fill w v) in
      ahead-at (clean_run v k ∷ ps) a j
      ∙ get_or-append run (flat w ps) 0 j (omega (arith, length-replicate k (fill w v)))
      ∙ get_or-replicate k j (fill w v) 0 h

  -- and that of a dirty word
  pub ahead-dirty : (x : ℕ) (ps : List Piece) → Ahead F b o (dirty_word x ∷ ps) → get_or (segments_of F b) o 0 ≡ x
  unfolding flat
  ahead-dirty x ps a =
      let e : o ≡ o + 0 = omega arith in
      ap (λ (i : ℕ). get_or segs i 0) e ∙ ahead-at (dirty_word x ∷ ps) a 0

  -- so many segments are ahead
  ahead-length : (ps : List Piece) → Ahead F b o ps → length (flat w ps) ≡ length segs - o
  ahead-length ps a = ap length a.rest ∙ length-drop o segs

  -- the first piece ends with the body, or before
  pub ahead_within : (ps : List Piece) → Ahead F b o ps → o ≤ length (segments_of F b)
      → o + first_size ps ≤ length (segments_of F b)
  ahead_within ps a h = omega (arith, ahead-length ps a, first-le w ps)

  -- with a segment ahead there is a piece
  pub ahead-some : (ps : List Piece) → Ahead F b o ps → o < length (segments_of F b) → 1 ≤ first_size ps
  unfolding flat first_size
  ahead-some [] a h = absurd (omega (arith, ahead-length [] a))
  ahead-some (p ∷ ps) a h = a.some.0

  -- the body's next end is that of the first piece ahead: none before it,
  pub no_end : (ps : List Piece) → Ahead F b o ps → (e : ℕ) → o < e → e < o + first_size ps
      → is_in (ends_from 0 (pieces_of F b)) e ≡ false
  no_end ps a e h g = a.ends e h ∙ first_ends o ps e g

  -- and there is one
  pub an-end : (ps : List Piece) → Ahead F b o ps → 1 ≤ first_size ps
      → is_in (ends_from 0 (pieces_of F b)) (o + first_size ps) ≡ true
  an-end ps a h = a.ends (o + first_size ps) (omega arith) ∙ first-end o ps h

-- ---- the ends of several bodies

module _ (F : Format) where
  -- no body has an end here
  pub ends-none : (bodies : List (List ℕ)) (e : ℕ)
      → ((i : ℕ) → i < length bodies → is_in (ends_from 0 (pieces_of F (get_or bodies i []))) (suc e) ≡ false)
      → ends_at F bodies e ≡ false
  unfolding ends_at
  ends-none [] e h = refl
  ends-none (b ∷ bs) e h = rw (h 0 (omega arith)) (ends-none bs e (λ i l. h (suc i) (omega arith)))

  -- body i has one
  pub ends_some : (bodies : List (List ℕ)) (e i : ℕ) → i < length bodies
      → is_in (ends_from 0 (pieces_of F (get_or bodies i []))) (suc e) ≡ true → ends_at F bodies e ≡ true
  unfolding ends_at
  ends_some [] e i l h = absurd (omega arith)
  ends_some (b ∷ bs) e zero l h = rw h
  ends_some (b ∷ bs) e (suc i) l h =
      or-true (is_in (ends_from 0 (pieces_of F b)) (suc e)) (ends_at F bs e) (ends_some bs e i (omega arith) h)

-- a stretch of n segments from o on adds one to the count: only its last one is an end
pub count-stretch : (p : ℕ → Bool) (o n : ℕ) → 1 ≤ n
    → ((e : ℕ) → o ≤ e → suc e < o + n → p e ≡ false) → p (o + n - 1) ≡ true
    → count_below (o + n) p ≡ count_below o p + 1
unfolding count_below sum_below bit
count-stretch p o zero l h g = absurd (omega arith)
count-stretch p o (suc n) l h g =
    let e : o + n ≡ o + suc n - 1 = omega arith in
    let one : bit (p (o + n)) ≡ 1 = ap bit (ap p e ∙ g) in
    let q : ℕ → Bool = λ r. p (o + r) in
    omega (arith, count_add o (suc n) p, count_none n q (λ r k. h (o + r) (omega arith) (omega arith)))
