-- `rewrite::body::rewrite` meets its contract. The invariant: the cursor stands behind the rows that were put.
-- Assumes nothing.
use Prim.Native.Nat.{ℕ, ◌+◌, ◌-◌, ◌*◌, ◌≤◌, min}
use mathlib.Core.Path.{◌≡◌, refl, ap, subst, ◌∙◌}
use native.Mathlib.Omega.{arith}
use Rattle.meaning.specs.Format.{width, rows_of}
use Rattle.laws.specs.Ahead.{advanced}
use Rattle.laws.proofs.Formats.{width-pos, facts-some}
use Rattle.ewah.specs.Cursors.{Stands, left_of, pieces_from}
use Rattle.row_write.specs.Walking.{row_in}
use Rattle.row_write.specs.Packing.{Packed, Coming}
use Rattle.row_write.proofs.Walking.{at-start, at_next, behind, piece-some, piece-low, rows-some, piece-gives, piece-rows}
use Rattle.rewrite.proofs.body.rewrite.Goals as goal

pub open-c-requires : goal.open-c-requires
open-c-requires g c = facts-some c.args.from c.args.rows c.args.body.now c.requires.rows_le_most_rows.1

pub loop-left-init : goal.loop-left-init
loop-left-init g c =
    let a = c.args in
    let b = a.body.now in
    let out = g.S.Sink.words a.out.now in
    let facts = c.requires.rows_le_most_rows in
    let start = c.start-o.ensures in
    let none : 0 ≡ a.rows - a.rows = omega arith in (
      at-start a.from a.rows b facts.0 facts.1 c.open-c.result c.open-c.ensures,
      omega arith,
      omega (arith, start.0, width-pos a.to),
      refl,
      refl,
      subst (λ (d : ℕ). Packed a.to a.rows (rows_of a.from b) out g.S.Sink.stores out d c.start-o.result)
          none (start.1 a.rows (rows_of a.from b) out g.S.Sink.stores facts.0 c.requires.body_in_bounds),
    )

pub rows_in-k-requires : goal.rows_in-k-requires
rows_in-k-requires g c =
    let a = c.args in
    let b = a.body.now in
    let facts = c.requires.rows_le_most_rows in
    let h = c.loop-left in
    let at = h.invariant.0 in
    let more = c.loop-left-test.true in
    omega (arith, piece-low a.from a.rows b facts.0 facts.1 at more, ap (λ (w : ℕ). left_of h.c.piece * w) c.width-width.ensures)

pub put-o-requires : goal.put-o-requires
put-o-requires g c =
    let a = c.args in
    let b = a.body.now in
    let facts = c.requires.rows_le_most_rows in
    let h = c.loop-left in
    let at = h.invariant.0 in
    let more = c.loop-left-test.true in
    let k-is : c.rows_in-k.result ≡ min (left_of h.c.piece * width a.from) h.left =
    c.rows_in-k.ensures ∙ ap (λ (w : ℕ). min (left_of h.c.piece * w) h.left) c.width-width.ensures in
    let behind-is = behind a.from a.rows b facts.0 facts.1 at more in
    let rows = piece-rows a.from a.rows b facts.0 facts.1 at more in
    let coming : Coming a.to a.rows (rows_of a.from b) (g.S.Sink.words a.out.now) g.S.Sink.stores (g.S.Sink.words h.out)
    (a.rows - h.left) h.o (row_in h.c.piece) c.rows_in-k.result = record {
      packed = h.invariant.5;
      within = omega (arith, k-is, h.invariant.1);
      next = λ j l. ap (rows_of a.from b) (omega (arith, behind-is)) ∙ rows j (omega (arith, k-is));
    } in
    record {
      have_bound = (h.invariant.2, rw (← k-is) at (piece-gives a.from a.rows b facts.0 facts.1 at more));
      takes = (a.rows, rows_of a.from b, g.S.Sink.words a.out.now, a.rows - h.left, coming);
    }

pub advance-c-requires-clause-le_n : goal.advance-c-requires-clause-le_n
advance-c-requires-clause-le_n g c =
    let a = c.args in
    let b = a.body.now in
    let facts = c.requires.rows_le_most_rows in
    let h = c.loop-left in
    let at = h.invariant.0 in
    let more = c.loop-left-test.true in
    omega (arith, piece-some a.from a.rows b facts.0 facts.1 at more, c.left.ensures)

pub loop-left-smaller : goal.loop-left-smaller
loop-left-smaller g c =
    let a = c.args in
    let b = a.body.now in
    let facts = c.requires.rows_le_most_rows in
    let h = c.loop-left in
    let at = h.invariant.0 in
    let more = c.loop-left-test.true in
    let k-is : c.rows_in-k.result ≡ min (left_of h.c.piece * width a.from) h.left =
    c.rows_in-k.ensures ∙ ap (λ (w : ℕ). min (left_of h.c.piece * w) h.left) c.width-width.ensures in
    omega (arith, k-is, rows-some a.from a.rows b facts.0 facts.1 at more)

pub loop-left-preserved : goal.loop-left-preserved
loop-left-preserved g c =
    let a = c.args in
    let b = a.body.now in
    let facts = c.requires.rows_le_most_rows in
    let h = c.loop-left in
    let at = h.invariant.0 in
    let more = c.loop-left-test.true in
    let k-is : c.rows_in-k.result ≡ min (left_of h.c.piece * width a.from) h.left =
    c.rows_in-k.ensures ∙ ap (λ (w : ℕ). min (left_of h.c.piece * w) h.left) c.width-width.ensures in
    let behind-is = behind a.from a.rows b facts.0 facts.1 at more in
    let rows = piece-rows a.from a.rows b facts.0 facts.1 at more in
    let coming : Coming a.to a.rows (rows_of a.from b) (g.S.Sink.words a.out.now) g.S.Sink.stores (g.S.Sink.words h.out)
    (a.rows - h.left) h.o (row_in h.c.piece) c.rows_in-k.result = record {
      packed = h.invariant.5;
      within = omega (arith, k-is, h.invariant.1);
      next = λ j l. ap (rows_of a.from b) (omega (arith, behind-is)) ∙ rows j (omega (arith, k-is));
    } in
    let put = c.put-o in
    let k = c.rows_in-k.result in
    let stands = subst (λ (n : ℕ). Stands a.from b c.advance-c.result (advanced n (pieces_from a.from b h.c)))
    c.left.ensures c.advance-c.ensures in
    let next = at_next a.from a.rows b facts.0 facts.1 at more c.advance-c.result stands in
    let d : a.rows - h.left + k ≡ a.rows - (h.left - k) = omega (arith, k-is, h.invariant.1) in (
      rw (← k-is) at next,
      omega (arith, h.invariant.1),
      put.ensures.have_bound_2,
      put.ensures.same.0 ∙ h.invariant.3,
      put.ensures.same.1 ∙ h.invariant.4,
      subst (λ (n : ℕ). Packed a.to a.rows (rows_of a.from b) (g.S.Sink.words a.out.now) g.S.Sink.stores (g.S.Sink.words put.new.out) n put.result) d
          (put.ensures.put_on.on a.rows (rows_of a.from b) (g.S.Sink.words a.out.now) (a.rows - h.left) coming),
    )

pub finish-requires : goal.finish-requires
finish-requires g c =
    let a = c.args in
    let h = c.loop-left in
    let q = rows_of a.from a.body.now in
    let all : a.rows - h.left ≡ a.rows = omega (arith, c.loop-left-test.false) in
    record {
      have_bound = h.invariant.2;
      by_index = (
        a.rows,
        q,
        g.S.Sink.words a.out.now,
        subst (λ (n : ℕ). Packed a.to a.rows q (g.S.Sink.words a.out.now) g.S.Sink.stores (g.S.Sink.words h.out) n h.o) all h.invariant.5,
      );
    }

pub returns-clause-rewritten : goal.returns-clause-rewritten
returns-clause-rewritten g c =
    let a = c.args in
    let h = c.loop-left in
    let q = rows_of a.from a.body.now in
    let all : a.rows - h.left ≡ a.rows = omega (arith, c.loop-left-test.false) in
    c.finish.ensures.rewritten a.rows q (g.S.Sink.words a.out.now)
    (subst (λ (n : ℕ). Packed a.to a.rows q (g.S.Sink.words a.out.now) g.S.Sink.stores (g.S.Sink.words h.out) n h.o) all h.invariant.5)
