-- `rewrite::expand::expand` meets its contract. The invariant: the cursor stands behind the rows that were put.
-- Assumes nothing.
use Prim.Native.Nat.{ℕ, ◌+◌, ◌*◌, ◌≤◌}
use mathlib.Core.Path.{ap, subst, ◌∙◌}
use mathlib.Core.List.{List}
use lib.ListN.{length}
use native.Mathlib.Omega.{arith}
use Rattle.meaning.specs.declared.Format.TheVariants.{Wah}
use Rattle.meaning.specs.Format.{rows_of}
use Rattle.laws.proofs.RowWords.{rows_fit}
use Rattle.laws.specs.Ahead.{advanced}
use Rattle.ewah.specs.Cursors.{Stands, left_of, pieces_from}
use Rattle.repack.specs.Filling.{rows_done}
use Rattle.row_write.proofs.Walking.{At, at-start, at_next, behind, piece-some, piece-low, piece-gives, piece-rows}
use Rattle.rewrite.proofs.expand.expand.Lts
use Rattle.rewrite.proofs.expand.expand.Reads
use Rattle.rewrite.proofs.expand.expand.Tie
use Rattle.rewrite.proofs.expand.expand.Goals as goal

-- places in the code that lemmas below speak of
abbrev At-loop-left : Type 0
At-loop-left = Lts.At-loop Tie.the-claims Reads.Pre Reads.Post goal.the-invariant-loop-left goal.the-decreases-loop-left Tie.handed_clauses

abbrev In-loop-left : Type 0
In-loop-left = Lts.In-loop Tie.the-claims Reads.Pre Reads.Post goal.the-invariant-loop-left goal.the-decreases-loop-left Tie.handed_clauses

-- where the loop stands
module _ (t : At-loop-left) where
  abbrev R : ℕ
  R = t.args.rows

  abbrev b : List ℕ
  b = t.args.body.now

  -- the buffer has room for all rows
  room : rows_done t.loop-left.s + t.loop-left.left ≤ 32 * length t.loop-left.out
  room = omega (arith, t.loop-left.invariant.1, t.loop-left.invariant.3.long, rows_fit 32 (omega arith) R, t.requires.2)

-- where it goes on
module _ (c : In-loop-left) where
  abbrev at : At Wah (R c.before) (b c.before) c.loop-left.c c.loop-left.left
  at = c.loop-left.invariant.0

  some : 1 ≤ left_of c.loop-left.c.piece
  some = piece-some Wah (R c.before) (b c.before) c.requires.0 c.requires.1 at c.loop-left-test.true

pub loop-left-init : goal.loop-left-init
loop-left-init c =
    let b = c.args.body.now in (
      at-start Wah c.args.rows b c.requires.0 c.requires.1 c.open-c.result c.open-c.ensures,
      omega (arith, c.start-s.ensures.result_value.0),
      c.start-s.ensures.result_value.1,
      c.start-s.ensures.by_index (rows_of Wah b) c.args.out.now,
    )

pub rows_in-k-requires : goal.rows_in-k-requires
rows_in-k-requires c =
    piece-low Wah (R c.before.before) (b c.before.before) c.requires.0 c.requires.1 (at c.before) c.loop-left-test.true

pub put-s-requires : goal.put-s-requires
put-s-requires c =
    let k = c.rows_in-k.ensures in (
      c.loop-left.invariant.2,
      rw (← k) at (piece-gives Wah (R c.before.before.before.before) (b c.before.before.before.before) c.requires.0 c.requires.1 (at c.before.before.before) c.loop-left-test.true),
      omega (arith, k, room c.before.before.before.before),
    )

pub advance-c-requires-clause-le_n : goal.advance-c-requires-clause-le_n
advance-c-requires-clause-le_n c =
    omega (arith, some c.before.before.before.before.before.before.before, c.left.ensures)

pub loop-left-smaller : goal.loop-left-smaller
loop-left-smaller c =
    omega (arith, c.rows_in-k.ensures, c.loop-left-test.true, some c.before.before.before.before.before.before.before.before)

pub loop-left-preserved : goal.loop-left-preserved
loop-left-preserved c =
    let p = c.put-s.ensures in
    let k = c.rows_in-k.ensures in
    let c₀ = c.loop-left.c in
    let stands = subst (λ (n : ℕ). Stands Wah (b c.before.before.before.before.before.before.before.before.before) c.advance-c.result (advanced n (pieces_from Wah (b c.before.before.before.before.before.before.before.before.before) c₀)))
    c.left.ensures c.advance-c.ensures in
    let o = behind Wah (R c.before.before.before.before.before.before.before.before.before) (b c.before.before.before.before.before.before.before.before.before) c.requires.0 c.requires.1 (at c.before.before.before.before.before.before.before.before) c.loop-left-test.true in
    let rows = piece-rows Wah (R c.before.before.before.before.before.before.before.before.before) (b c.before.before.before.before.before.before.before.before.before) c.requires.0 c.requires.1 (at c.before.before.before.before.before.before.before.before) c.loop-left-test.true in (
      rw (← k) at (at_next Wah (R c.before.before.before.before.before.before.before.before.before) (b c.before.before.before.before.before.before.before.before.before) c.requires.0 c.requires.1 (at c.before.before.before.before.before.before.before.before) c.loop-left-test.true c.advance-c.result stands),
      omega (arith, p.rows, k, c.loop-left.invariant.1),
      p.ready,
      p.laid (rows_of Wah (b c.before.before.before.before.before.before.before.before.before)) c.args.out.now c.loop-left.invariant.3
          (λ j h. ap (rows_of Wah (b c.before.before.before.before.before.before.before.before.before)) (omega (arith, o, c.loop-left.invariant.1)) ∙ rows j (omega (arith, k))),
    )

pub finish-requires : goal.finish-requires
finish-requires c = (c.loop-left.invariant.2, omega (arith, room c.before.before.before))
