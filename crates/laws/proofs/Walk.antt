-- A body is walked from marker to marker: what a marker's run and dirty words stand for, and the faults that can lie there.
-- Assumes nothing.
use Prim.Native.Nat.{ℕ, zero, suc, ◌+◌, ◌-◌, ◌≤◌, ◌<◌}
use mathlib.Core.Bool.{Bool, false, and-false}
use mathlib.Core.Path.{◌≡◌, refl, sym, ap, ap₂, ◌∙◌}
use mathlib.Core.List.{List, [], ◌∷◌, ◌++◌, append_assoc}
use lib.Dec.{leb, ltb, eqb-suc-suc}
use lib.ListN.{length, take, drop, get_or, replicate, length-append, length-replicate, length-drop, get_or-replicate, drop_of_length-le}
use lib.Seq.{drop-cons, take_at, drop_at, drop-drop, length-take-le, get_or-take, get_or-drop, take-add}
use native.Mathlib.Omega.{arith}
use native.Mathlib.Numerals.{add-one}
use borrow.Author.Tests.{lt-ltb, le-ltb, ne_eqb, eq-eqb}
use Rattle.meaning.specs.Segment.{fill, last_limit, over_pad}
use Rattle.meaning.specs.Refusal.{refuse_if}
use Rattle.meaning.specs.Ewah.{value_of, clean_of, dirty_of, decode, segments, due_after, fault_from}
use Rattle.laws.proofs.Decoded.{due-le}

-- ---- dirty words

pub decode-dirty : (d : ℕ) (ws : List ℕ) → d ≤ length ws → decode d ws ≡ take d ws ++ decode 0 (drop d ws)
unfolding decode
decode-dirty zero ws h = refl
decode-dirty (suc d) [] h = absurd (omega arith)
decode-dirty (suc d) (w ∷ ws) h = ap (λ (l : List ℕ). w ∷ l) (decode-dirty d ws (omega arith))

pub due-dirty-words : (d : ℕ) (ws : List ℕ) → d ≤ length ws → due_after d ws ≡ due_after 0 (drop d ws)
unfolding due_after
due-dirty-words zero ws h = refl
due-dirty-words (suc d) [] h = absurd (omega arith)
due-dirty-words (suc d) (w ∷ ws) h = due-dirty-words d ws (omega arith)

-- one segment on, with one dirty word fewer to come: the same test for the last of them
over-next : (w R left d x : ℕ) → 0 < left → over_pad w R (left - 1) (suc d) x ≡ over_pad w R left (suc (suc d)) x
unfolding over_pad
over-next w R zero d x h = absurd (omega arith)
over-next w R (suc left) d x h =
    let e : suc left - 1 ≡ left = omega arith in
    rw (e, lt-ltb 0 (suc d) (omega arith), lt-ltb 0 (suc (suc d)) (omega arith), eqb-suc-suc (suc d) left)

-- the answer to the test for pad bits: of no segments, not of the last one, of the last one
pub over_none : (w R left c x : ℕ) → c ≡ 0 → false ≡ over_pad w R left c x
unfolding over_pad
over_none w R left c x e = rw (le-ltb 0 c (omega arith))

pub over-inside : (w R left c x : ℕ) → (c ≡ left → ⊥) → false ≡ over_pad w R left c x
unfolding over_pad
over-inside w R left c x h = rw (ne_eqb c left h, and-false (ltb 0 c))

pub over_last : (w R left c x : ℕ) (t : Bool) → (c ≡ 0 → ⊥) → c ≡ left → t ≡ leb (last_limit w R) x → t ≡ over_pad w R left c x
unfolding over_pad
over_last w R left c x t h e f = rw (lt-ltb 0 c (omega arith), eq-eqb c left e) f

-- of a marker's dirty words only the last can be refused: the others are not the last segment
module _ (k R : ℕ) where
  pub skip-dirty : (place d left : ℕ) (ws : List ℕ) → d ≤ length ws → d ≤ left
      → fault_from k R place d left ws
      ≡ refuse_if (over_pad 32 R left d (get_or ws (d - 1) 0)) 7 k (place + (d - 1)) (fault_from k R (place + d) 0 (left - d) (drop d ws))
  unfolding fault_from refuse_if
  skip-dirty place zero left ws h g =
      let p : place + 0 ≡ place = omega arith in
      let l : left - 0 ≡ left = omega arith in
      rw (p, l)
  skip-dirty place (suc d) left [] h g = absurd (omega arith)
  skip-dirty place (suc zero) left (w ∷ ws) h g =
      let p : place + 0 ≡ place = omega arith in
      rw (p, add-one place)
  skip-dirty place (suc (suc d)) left (w ∷ ws) h g =
      let n : suc (suc d) - 1 ≡ suc d = omega arith in
      let m : suc d - 1 ≡ d = omega arith in
      let p : suc place + d ≡ place + suc d = omega arith in
      let q : suc place + suc d ≡ place + suc (suc d) = omega arith in
      let l : left - 1 - suc d ≡ left - suc (suc d) = omega arith in
      let ih : fault_from k R (suc place) (suc d) (left - 1) ws
      ≡ refuse_if (over_pad 32 R (left - 1) (suc d) (get_or ws (suc d - 1) 0)) 7 k (suc place + (suc d - 1)) (fault_from k R (suc place + suc d) 0 (left - 1 - suc d) (drop (suc d) ws)) =
      skip-dirty (suc place) (suc d) (left - 1) ws (omega arith) (omega arith) in
      rw (← over-inside 32 R left 1 w (omega arith), n) (rw (m, p, q, l, over-next 32 R left d (get_or ws d 0) (omega arith)) at ih)

-- ---- where a walk stands

-- at word i of the body b, of whose last marker `due` dirty words are still to come, with o segments behind
pub record At (b : List ℕ) (i due o : ℕ) : Type 0 where
  pub inside : i ≤ length b
  pub passed : o ≤ length (segments b)
  pub ended : due_after due (drop i b) ≡ 0
  pub rest : decode due (drop i b) ≡ drop o (segments b)

-- the marker at word i: its dirty words are there and its segments too, in this order, and the walk goes on behind them
pub record Marked (b : List ℕ) (i o : ℕ) : Type 0 where
  pub fits : i + 1 + dirty_of (get_or b i 0) ≤ length b
  pub counts : o + clean_of (get_or b i 0) + dirty_of (get_or b i 0) ≤ length (segments b)
  pub run : take (clean_of (get_or b i 0)) (drop o (segments b)) ≡ replicate (clean_of (get_or b i 0)) (fill 32 (value_of (get_or b i 0)))
  pub dirty : take (dirty_of (get_or b i 0)) (drop (o + clean_of (get_or b i 0)) (segments b)) ≡ take (dirty_of (get_or b i 0)) (drop (i + 1) b)
  pub words : At b (i + 1) (dirty_of (get_or b i 0)) (o + clean_of (get_or b i 0))
  pub next : At b (i + 1 + dirty_of (get_or b i 0)) 0 (o + clean_of (get_or b i 0) + dirty_of (get_or b i 0))

pub at-start : (b : List ℕ) → due_after 0 b ≡ 0 → At b 0 0 0
at-start b e = record { inside = omega arith; passed = omega arith; ended = e; rest = refl }

pub at-end : (b : List ℕ) (i o : ℕ) → At b i 0 o → length b ≤ i → o ≡ length (segments b)
unfolding decode
at-end b i o a h =
    let e : decode 0 (drop i b) ≡ [] = rw (drop_of_length-le b h) in
    let n : length (drop o (segments b)) ≡ 0 = ap length (sym a.rest ∙ e) in
    omega (arith, length-drop o (segments b), a.passed)

-- behind the first n of the segments that are left
past : (b xs ys : List ℕ) (n o : ℕ) → o ≤ length (segments b) → length xs ≡ n → xs ++ ys ≡ drop o (segments b)
    → (o + n ≤ length (segments b)) × (take n (drop o (segments b)) ≡ xs) × (ys ≡ drop (o + n) (segments b))
past b xs ys n o h e r = (
  omega (arith, ap length r, length-append xs ys, length-drop o (segments b)),
  rw (← r) (take_at xs ys n e),
  sym (drop_at xs ys n e) ∙ ap (drop n) r ∙ drop-drop n o (segments b),
)

pub at-marker : (b : List ℕ) (i o : ℕ) → At b i 0 o → i < length b → Marked b i o
unfolding decode due_after
at-marker b i o a h =
    let m = get_or b i 0 in
    let c = clean_of m in
    let d = dirty_of m in
    let ws = drop (i + 1) b in
    let n : length ws ≡ length b - (i + 1) = length-drop (i + 1) b in
    let cons : drop i b ≡ m ∷ ws = drop-cons b i 0 h ∙ ap (λ (k : ℕ). m ∷ drop k b) (sym (add-one i)) in
    let due : due_after d ws ≡ 0 = rw cons at a.ended in
    let few : d ≤ length ws = due-le d ws due in
    let all : replicate c (fill 32 (value_of m)) ++ decode d ws ≡ drop o (segments b) = rw cons at a.rest in
    let p = past b (replicate c (fill 32 (value_of m))) (decode d ws) c o a.passed (length-replicate c (fill 32 (value_of m))) all in
    let q = past b (take d ws) (decode 0 (drop d ws)) d (o + c) p.0 (length-take-le d ws few) (sym (decode-dirty d ws few) ∙ p.2) in
    let e : drop d ws ≡ drop (i + 1 + d) b = drop-drop d (i + 1) b in
    record {
      fits = omega arith;
      counts = q.0;
      run = p.1;
      dirty = q.1;
      words = record { inside = omega arith; passed = p.0; ended = due; rest = p.2 };
      next = record { inside = omega arith; passed = q.0; ended = rw (← e) (sym (due-dirty-words d ws few) ∙ due); rest = rw (← e) q.2 };
    }

-- ---- a step of the walk, over a marker whose fields were read

-- the marker at word i, with o segments behind, has the value v, c clean segments and d dirty words
pub record Step (b : List ℕ) (i o v c d : ℕ) : Type 0 where
  pub fits : i + 1 + d ≤ length b
  pub counts : o + c + d ≤ length (segments b)
  -- each segment of its run and of its dirty words
  pub run_at : (k : ℕ) → k < c → get_or (segments b) (o + k) 0 ≡ fill 32 v
  pub dirty-at : (k : ℕ) → k < d → get_or (segments b) (o + c + k) 0 ≡ get_or b (i + 1 + k) 0
  -- the segments up to the next marker
  pub more : take (o + c + d) (segments b) ≡ take o (segments b) ++ (replicate c (fill 32 v) ++ take d (drop (i + 1) b))
  pub next : At b (i + 1 + d) 0 (o + c + d)

step-fields : (b : List ℕ) (i o : ℕ) → Marked b i o → Step b i o (value_of (get_or b i 0)) (clean_of (get_or b i 0)) (dirty_of (get_or b i 0))
step-fields b i o m =
    let s = segments b in
    let c = clean_of (get_or b i 0) in
    let d = dirty_of (get_or b i 0) in
    let x = fill 32 (value_of (get_or b i 0)) in
    record {
      fits = m.fits;
      counts = m.counts;
      run_at = λ k h. sym (get_or-drop o s k 0) ∙ sym (get_or-take c (drop o s) k 0 h) ∙ ap (λ (l : List ℕ). get_or l k 0) m.run ∙ get_or-replicate c k x 0 h;
      dirty-at = λ k h.
          sym (get_or-drop (o + c) s k 0)
          ∙ sym (get_or-take d (drop (o + c) s) k 0 h)
          ∙ ap (λ (l : List ℕ). get_or l k 0) m.dirty
          ∙ get_or-take d (drop (i + 1) b) k 0 h
          ∙ get_or-drop (i + 1) b k 0;
      more =
          take-add (o + c) d s
          ∙ ap₂ (λ (k l : List ℕ). k ++ l) (take-add o c s ∙ ap (λ (l : List ℕ). take o s ++ l) m.run) m.dirty
          ∙ append_assoc (take o s) (replicate c x) (take d (drop (i + 1) b));
      next = m.next;
    }

pub step : (b : List ℕ) (i o v c d : ℕ) → At b i 0 o → i < length b
    → v ≡ value_of (get_or b i 0) → c ≡ clean_of (get_or b i 0) → d ≡ dirty_of (get_or b i 0) → Step b i o v c d
step b i o v c d a h ev ec ed = rw (ev, ec, ed) (step-fields b i o (at-marker b i o a h))
