-- Where the pieces of a body end: from any segment on one does within the greatest run, and where none does a run goes
-- on. For any width w, and runs of at most `most` segments.
-- Assumes nothing.
use Prim.Native.Nat.{ℕ, zero, suc, ◌+◌, ◌-◌, ◌≤◌, ◌<◌}
use mathlib.Core.Bool.{Bool, true, false, cond}
use mathlib.Core.Path.{◌≡◌, refl, ap, ◌∙◌, subst}
use mathlib.Core.List.{List, [], ◌∷◌, ◌++◌}
use lib.Dec.{eqb}
use lib.ListN.{length, get_or, replicate}
use native.Mathlib.Omega.{arith}
use native.Mathlib.Decide.{dec_le}
use borrow.Author.Tests.{eq-eqb, eqb-false}
use Rattle.meaning.specs.Limits.{most_clean, most_fill}
use Rattle.meaning.specs.Segment.{fill}
use Rattle.meaning.specs.Piece.{Piece, clean_run, dirty_word, run_then, piece_size, NoneEmpty, flat}
use Rattle.meaning.specs.Ewah.{pieces, value_of, clean_of, dirty_of}
use Rattle.meaning.specs.Wah.{is_fill, fill_value, fill_count, piece_of, wah_pieces}
use Rattle.meaning.specs.Format.{most_run, pieces_of}
use Rattle.meaning.specs.declared.Format.{Format}
use Rattle.meaning.specs.declared.Format.TheVariants.{Ewah, Wah}
use Rattle.meaning.specs.Question.{is_in, ends_from}
use Rattle.laws.proofs.Tests.{or-false, or-true}
use Rattle.laws.proofs.Formats.{flat-length}

-- ---- what a piece can be

-- a run's value is 0 or 1, and neither it nor a single segment is longer than the greatest run
abbrev pub Fine : (most : ℕ) → Piece → Type 0
Fine most (clean_run v n) = (v < 2) × (n ≤ most)
Fine most (dirty_word x) = 1 ≤ most

abbrev pub AllFine : (most : ℕ) → List Piece → Type 0
AllFine most [] = Unit {0}
AllFine most (p ∷ ps) = Fine most p × AllFine most ps

-- a marker's fields hold no more
run-fine : (v n : ℕ) (ps : List Piece) → v < 2 → n ≤ most_clean → AllFine most_clean ps
    → AllFine most_clean (run_then v n ps)
unfolding run_then
run-fine v zero ps hv hn f = f
run-fine v (suc n) ps hv hn f = ((hv, hn), f)

ewah-fine : (due : ℕ) (b : List ℕ) → AllFine most_clean (pieces due b)
unfolding pieces
ewah-fine due [] = tt
ewah-fine zero (m ∷ ws) =
    run-fine (value_of m) (clean_of m) (pieces (dirty_of m) ws)
    (unfold value_of in omega arith)
    (unfold clean_of in omega arith)
    (ewah-fine (dirty_of m) ws)
ewah-fine (suc due) (w ∷ ws) = (omega arith, ewah-fine due ws)

-- nor do those of a fill
piece-fine : (x : ℕ) → Fine most_fill (piece_of x)
unfolding piece_of fill_value fill_count
piece-fine x = go (is_fill x)
  where
    go : (t : Bool) → Fine most_fill (cond t (clean_run (fill_value x) (fill_count x)) (dirty_word x))
    go true = (omega arith, omega arith)
    go false = omega arith

wah-fine : (b : List ℕ) → AllFine most_fill (wah_pieces b)
unfolding wah_pieces
wah-fine [] = tt
wah-fine (x ∷ xs) = (piece-fine x, wah-fine xs)

-- the pieces of any words are such
pub pieces-fine : (F : Format) (b : List ℕ) → AllFine (most_run F) (pieces_of F b)
pieces-fine Ewah b = ewah-fine 0 b
pieces-fine Wah b = wah-fine b

-- and none covers more segments than the greatest run
pub size-fine : (most : ℕ) (p : Piece) → Fine most p → piece_size p ≤ most
unfolding piece_size
size-fine most (clean_run v n) f = f.1
size-fine most (dirty_word x) f = f

-- ---- from any segment on, a piece ends within the greatest run

-- from n on, one of the segments before `all` passes the test within `most` of them
pub record Near (most : ℕ) (ends : ℕ → Bool) (all n : ℕ) : Type 0 where
  pub m : ℕ
  pub from : n ≤ m
  pub till : m < n + most
  pub in-it : m < all
  pub ends_there : ends m ≡ true

-- n is counted from the first piece, whose segments begin at a
pub ends-near : (w most : ℕ) (ps : List Piece) (a n : ℕ) → AllFine most ps → NoneEmpty ps → n < length (flat w ps)
    → Near most (λ i. is_in (ends_from a ps) (a + suc i)) (length (flat w ps)) n
unfolding is_in ends_from flat
ends-near w most [] a n f s h = absurd (omega arith)
ends-near w most (p ∷ ps) a n f s h = elim (dec_le (suc n) (piece_size p)) [
  | yes g ↦ record {
    m = piece_size p - 1;
    from = omega arith;
    till = omega (arith, s.0, size-fine most p f.0);
    in-it = omega (arith, s.0, flat-length w p ps);
    ends_there = rw (eq-eqb (a + piece_size p) (a + suc (piece_size p - 1)) (omega (arith, s.0)));
  }
  | no g ↦
      let to = a + piece_size p in
      let i = ends-near w most ps to (n - piece_size p) f.1 s.1 (omega (arith, flat-length w p ps)) in
      let at = a + suc (piece_size p + i.m) in
      record {
        m = piece_size p + i.m;
        from = omega (arith, i.from);
        till = omega (arith, i.till);
        in-it = omega (arith, i.in-it, flat-length w p ps);
        ends_there =
            or-true (eqb to at) (is_in (ends_from to ps) at)
            (subst (λ (z : ℕ). is_in (ends_from to ps) z ≡ true) (omega arith) i.ends_there);
      }
]

-- ---- where no piece ends, a run goes on

-- two segments that follow each other are clean, and of one value
pub record Steady (w : ℕ) (xs : List ℕ) (n : ℕ) : Type 0 where
  pub v : ℕ
  pub hv : v < 2
  pub here : get_or xs n 0 ≡ fill w v
  pub next : get_or xs (suc n) 0 ≡ fill w v
  pub more : suc n < length xs

-- a list that begins with c times x: inside
pub run_at : (c x : ℕ) (ys : List ℕ) (i : ℕ) → i < c → get_or (replicate c x ++ ys) i 0 ≡ x
run_at zero x ys i h = absurd (omega arith)
run_at (suc c) x ys zero h = refl
run_at (suc c) x ys (suc i) h = run_at c x ys i (omega arith)

-- and behind
pub run_past : (c x : ℕ) (ys : List ℕ) (i : ℕ) → get_or (replicate c x ++ ys) (c + i) 0 ≡ get_or ys i 0
run_past zero x ys i = ap (λ (z : ℕ). get_or ys z 0) (omega arith)
run_past (suc c) x ys i = ap (λ (z : ℕ). get_or (x ∷ (replicate c x ++ ys)) z 0) e ∙ run_past c x ys i
  where
    e : suc c + i ≡ suc (c + i)
    e = omega arith

-- behind a run as in what follows it
steady-past : (w v c : ℕ) (ps : List Piece) (n : ℕ) → c ≤ n → Steady w (flat w ps) (n - c)
    → Steady w (flat w (clean_run v c ∷ ps)) n
unfolding flat piece_size
steady-past w v c ps n h s = record {
  v = s.v;
  hv = s.hv;
  here = ap (λ (z : ℕ). get_or l z 0) at ∙ run_past c (fill w v) (flat w ps) (n - c) ∙ s.here;
  next = ap (λ (z : ℕ). get_or l z 0) on ∙ run_past c (fill w v) (flat w ps) (suc (n - c)) ∙ s.next;
  more = omega (arith, flat-length w (clean_run v c) ps, s.more);
}
  where
    l : List ℕ
    l = replicate c (fill w v) ++ flat w ps

    at : n ≡ c + (n - c)
    at = omega arith

    on : suc n ≡ c + suc (n - c)
    on = omega arith

-- the first piece covers c segments from a on, and no piece ends with segment a + n: not this one, and none behind it
not-here : (a c n : ℕ) (ps : List Piece) → is_in ((a + c) ∷ ends_from (a + c) ps) (a + suc n) ≡ false
    → (c ≡ suc n → ⊥) × (c ≤ n → is_in (ends_from (a + c) ps) (a + c + suc (n - c)) ≡ false)
unfolding is_in
not-here a c n ps q =
    let o = or-false (eqb (a + c) (a + suc n)) (is_in (ends_from (a + c) ps) (a + suc n)) q in (
      λ e. eqb-false (a + c) (a + suc n) o.0 (omega arith),
      λ h. subst (λ (z : ℕ). is_in (ends_from (a + c) ps) z ≡ false) (omega arith) o.1,
    )

-- pieces that begin at segment a, none of which ends with segment a + n
pub quiet-steady : (w most : ℕ) (ps : List Piece) (a n : ℕ) → AllFine most ps → n < length (flat w ps)
    → is_in (ends_from a ps) (a + suc n) ≡ false → Steady w (flat w ps) n
unfolding ends_from flat piece_size
quiet-steady w most [] a n f h q = absurd (omega arith)
quiet-steady w most (dirty_word x ∷ ps) a zero f h q = absurd ((not-here a 1 0 ps q).0 (omega arith))
quiet-steady w most (dirty_word x ∷ ps) a (suc n) f h q =
    let e : suc n - 1 ≡ n = omega arith in
    let later = rw e at ((not-here a 1 (suc n) ps q).1 (omega arith)) in
    let s = quiet-steady w most ps (a + 1) n f.1 (omega arith) later in
    record { v = s.v; hv = s.hv; here = s.here; next = s.next; more = omega (arith, s.more) }
quiet-steady w most (clean_run v c ∷ ps) a n f h q = elim (dec_le (suc (suc n)) c) [
  | yes g ↦ record {
    v = v;
    hv = f.0.0;
    here = run_at c (fill w v) (flat w ps) n (omega arith);
    next = run_at c (fill w v) (flat w ps) (suc n) g;
    more = omega (arith, flat-length w (clean_run v c) ps);
  }
  | no g ↦
      let far : c ≤ n = elim (dec_le c n) [ yes k ↦ k | no k ↦ absurd ((not-here a c n ps q).0 (omega arith)) ] in
      let r : n - c < length (flat w ps) = omega (arith, flat-length w (clean_run v c) ps) in
      steady-past w v c ps n far (quiet-steady w most ps (a + c) (n - c) f.1 r ((not-here a c n ps q).1 far))
]
