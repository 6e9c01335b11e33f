-- `bodies::cursor::pass` meets its contract: within a run as `advance`, and over dirty words many at once.
-- Assumes nothing.
use Prim.Native.Nat.{◌+◌, ◌-◌, ◌≤◌}
use mathlib.Core.Path.{ap}
use native.Mathlib.Omega.{arith}
use lib.ListN.{length}
use Rattle.ewah.specs.declared.cursor.Piece as code
use Rattle.ewah.specs.Cursors.{left_of}
use Rattle.bodies.specs.Walks.{span_by, behind}
use Rattle.bodies.proofs.Loading.{later-some}
use Rattle.bodies.proofs.Advancing.{passes-one, passes-dirty}
use Rattle.bodies.proofs.cursor.pass.Goals as goal

-- so many dirty words are due
pub load-requires-clause-none_empty : goal.load-requires-clause-none_empty
load-requires-clause-none_empty c =
    let a = c.args in
    let o = c.requires.in_order in
    let few = ap (λ (q : code.Piece). span_by q a.c.dirty) c.in-Dirty.is in
    later-some a.format a.body.now a.c.next a.c.dirty (a.n - 1) o.dirty-low (omega (arith, c.requires.le_n, few)) o.rest_some

-- a run has as many segments up to the next marker as it has left
pub returns-in-Clean : goal.returns-in-Clean
returns-in-Clean c =
    let a = c.args in
    let e = c.in-Clean.is in
    let some : a.n ≤ left_of a.c.piece = omega (arith, c.requires.le_n.1, ap left_of e, ap (λ (q : code.Piece). span_by q a.c.dirty) e) in
    passes-one a.format a.body.now a.c a.n c.requires.le_n.0 some c.advance.result c.advance.ensures

pub returns-in-Dirty : goal.returns-in-Dirty
returns-in-Dirty c =
    let a = c.args in
    let q = c.requires.le_n in
    let few : a.n ≤ a.c.dirty + 1 = omega (arith, q.1, ap (λ (q : code.Piece). span_by q a.c.dirty) c.in-Dirty.is) in
    let inside : a.c.next + (a.n - 1) ≤ length a.body.now = omega (arith, q.2, ap (λ (q : code.Piece). behind q a.n) c.in-Dirty.is) in
    passes-dirty a.format a.body.now a.c a.n q.0 c.requires.in_order _ c.in-Dirty.is few inside c.load.result c.load.ensures
