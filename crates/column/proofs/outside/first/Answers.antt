-- `column::outside::first` meets its contract. The invariant `Going`: both cursors stand at segment o, and no row
-- before it is in the slice alone.
-- Assumes nothing.
use Prim.Native.Nat.{ℕ, ◌+◌, ◌*◌, ◌≤◌}
use mathlib.Core.Path.{◌≡◌, sym, ap, ◌∙◌, subst}
use mathlib.Core.List.{List}
use native.Mathlib.Nat.{mul-le-mul_left, mul-le-mul_right}
use native.Mathlib.Omega.{arith}
use lib.ListN.{length}
use Rattle.meaning.specs.Limits.{most_segments, word_bits}
use Rattle.meaning.specs.Piece.{NoneEmpty}
use Rattle.meaning.specs.Format.{width, pieces_of, segments_of}
use Rattle.meaning.specs.declared.Format.{Format}
use Rattle.laws.proofs.Formats.{width-pos, width-le, facts-some, facts-count}
use Rattle.laws.proofs.RowWords.{rows_fit}
use Rattle.bodies.specs.Walks.{behind}
use Rattle.bodies.proofs.Loading.{due-low}
use Rattle.column.specs.Outside.{outside, Lowest, SeenIn}
use Rattle.laws.proofs.Formats.{segments-most}
use Rattle.column.proofs.Going.{stands-first, going-first, some_left, pass-within}
use Rattle.column.proofs.Going.{going-row, clear-some, clear-few, going_on}
use Rattle.column.proofs.outside.first.Lts
use Rattle.column.proofs.outside.first.Reads
use Rattle.column.proofs.outside.first.Tie
use Rattle.column.proofs.outside.first.Goals as goal

-- places in the code that lemmas below speak of
abbrev After-segments-count : Type 0
After-segments-count = Lts.After-segments Tie.the-claims Reads.Pre Reads.Post goal.the-invariant-loop-o goal.the-decreases-loop-o Tie.handed_clauses

abbrev After-common-n : Type 0
After-common-n = Lts.After-common Tie.the-claims Reads.Pre Reads.Post goal.the-invariant-loop-o goal.the-decreases-loop-o Tie.handed_clauses

abbrev After-look-seen : Type 0
After-look-seen = Lts.After-look Tie.the-claims Reads.Pre Reads.Post goal.the-invariant-loop-o goal.the-decreases-loop-o Tie.handed_clauses

abbrev In-Row : Type 0
In-Row = Lts.Past-After-known_told Tie.the-claims Reads.Pre Reads.Post goal.the-invariant-loop-o goal.the-decreases-loop-o Tie.handed_clauses

abbrev In-Clear : Type 0
In-Clear = Lts.Past-After-known_told2 Tie.the-claims Reads.Pre Reads.Post goal.the-invariant-loop-o goal.the-decreases-loop-o Tie.handed_clauses

-- the segments are counted
module _ (s : After-segments-count) where
  abbrev format : Format
  format = s.args.format

  abbrev slice : List ℕ
  slice = s.args.slice.now

  abbrev exists : List ℕ
  exists = s.args.exists.now

  abbrev total : ℕ
  total = s.segments-count.result

  -- the rows of a segment, as the code has read them
  abbrev wide : ℕ
  wide = s.width-width.result

  wide_is : wide ≡ width format
  wide_is = s.width-width.ensures

  few : total ≤ most_segments
  few = omega (arith, s.segments-count.ensures, segments-most format s.args.rows s.requires.0)

  slice-some : NoneEmpty (pieces_of format slice)
  slice-some = facts-some format s.args.rows slice s.requires.1

  exists-some : NoneEmpty (pieces_of format exists)
  exists-some = facts-some format s.args.rows exists s.requires.2

  slice-total : length (segments_of format slice) ≡ total
  slice-total = facts-count format s.args.rows slice s.requires.1 ∙ sym s.segments-count.ensures

  exists-total : length (segments_of format exists) ≡ total
  exists-total = facts-count format s.args.rows exists s.requires.2 ∙ sym s.segments-count.ensures

  rows-within : s.args.rows ≤ total * width format
  rows-within =
      let counted = ap (λ (k : ℕ). k * width format) s.segments-count.ensures in
      omega (arith, counted, rows_fit (width format) (width-pos format) s.args.rows)

  rows-low : total * width format ≤ most_segments * word_bits
  rows-low = omega (arith, few, mul-le-mul_left total (width-le format))

-- n segments are to be looked at
module _ (w : After-common-n) where
  abbrev n : ℕ
  n = w.common-n.result

  within : w.loop-o.o + n ≤ total w.before.before.before.before.before
  within = omega (arith, w.common-n.ensures.3, w.loop-o-test.true)

  slice-room : (m : ℕ) → 1 ≤ m → m ≤ n → let c = w.loop-o.c in
      c.next + behind c.piece m ≤ length (slice w.before.before.before.before.before)
  slice-room m g h =
      pass-within w.loop-o.invariant.slice_at m g (omega (arith, w.common-n.ensures.1))
      (omega (arith, within, slice-total w.before.before.before.before.before))

  exists-room : (m : ℕ) → 1 ≤ m → m ≤ n → let e = w.loop-o.e in
      e.next + behind e.piece m ≤ length (exists w.before.before.before.before.before)
  exists-room m g h =
      pass-within w.loop-o.invariant.exists-at m g (omega (arith, w.common-n.ensures.2))
      (omega (arith, within, exists-total w.before.before.before.before.before))

-- they were
seen : (l : After-look-seen)
    → let b = l.loop-o in
    SeenIn (width (format l.before.before.before.before.before.before)) (n l.before)
    (λ k. outside (format l.before.before.before.before.before.before) (slice l.before.before.before.before.before.before) (exists l.before.before.before.before.before.before) (b.o * width (format l.before.before.before.before.before.before) + k)) l.look-seen.result
seen l =
    let b = l.loop-o in
    l.look-seen.ensures b.o b.invariant.slice_at.ahead b.invariant.exists-at.ahead

module _ (c : In-Row) where
  row-found : Lowest (total c.before.before.before.before.before.before.before * width (format c.before.before.before.before.before.before.before)) (outside (format c.before.before.before.before.before.before.before) (slice c.before.before.before.before.before.before.before) (exists c.before.before.before.before.before.before.before))
      (c.loop-o.o * wide c.before.before.before.before.before.before.before + c.in-Row.r)
  row-found =
      let g = c.loop-o.invariant in
      subst
      (λ (k : ℕ). Lowest (total c.before.before.before.before.before.before.before * width (format c.before.before.before.before.before.before.before)) (outside (format c.before.before.before.before.before.before.before) (slice c.before.before.before.before.before.before.before) (exists c.before.before.before.before.before.before.before))
      (c.loop-o.o * k + c.in-Row.r))
      (sym (wide_is c.before.before.before.before.before.before.before))
      (going-row g _ (within c.before.before) c.look-seen.result (seen c.before) _ c.in-Row.is)

clear-size : (c : In-Clear)
    → let m = c.in-Clear.m in (1 ≤ m) × (m ≤ n c.before.before)
clear-size c =
    let g = c.loop-o.invariant in
    let t = c.in-Clear.is in (
      clear-some g _ (within c.before.before) c.look-seen.result (seen c.before) _ t,
      clear-few g _ (within c.before.before) c.look-seen.result (seen c.before) _ t,
    )

pub open-c-requires : goal.open-c-requires
open-c-requires c = slice-some c.before

pub open-e-requires : goal.open-e-requires
open-e-requires c = exists-some c.before.before

pub loop-o-init : goal.loop-o-init
loop-o-init c =
    let f = c.open-c in
    going-first (format c.before.before.before) (slice c.before.before.before) (exists c.before.before.before) (total c.before.before.before) f.result c.open-e.result
    (stands-first (format c.before.before.before) (slice c.before.before.before) f.result (slice-some c.before.before.before) f.ensures)
    (stands-first (format c.before.before.before) (exists c.before.before.before) c.open-e.result (exists-some c.before.before.before) c.open-e.ensures)

pub common-n-requires : goal.common-n-requires
common-n-requires c =
    let g = c.loop-o.invariant in
    let t = c.loop-o-test.true in (
      omega (arith, g.slice_at.in_order.dirty-low, due-low (format c.before.before.before.before.before)),
      omega (arith, g.exists-at.in_order.dirty-low, due-low (format c.before.before.before.before.before)),
      some_left g.slice_at (omega (arith, slice-total c.before.before.before.before.before, t)),
      some_left g.exists-at (omega (arith, exists-total c.before.before.before.before.before, t)),
      omega (arith, t),
    )

pub look-seen-requires : goal.look-seen-requires
look-seen-requires c =
    let g = c.loop-o.invariant in
    let m = c.common-n.ensures in record {
      in_order = g.slice_at.in_order;
      in_order_2 = g.exists-at.in_order;
      le_n = (
        m.0,
        omega (arith, within c.before, few c.before.before.before.before.before.before),
        m.1,
        m.2,
        slice-room c.before _ m.0 (omega arith),
        exists-room c.before _ m.0 (omega arith),
      );
    }

pub overflow_mul-o : goal.overflow_mul-o
overflow_mul-o c =
    omega (arith, (row-found c.before).below, rows-low c.before.before.before.before.before.before.before.before)

pub overflow_add-o : goal.overflow_add-o
overflow_add-o c =
    omega (arith, (row-found c.before).below, rows-low c.before.before.before.before.before.before.before.before)

pub returns-in-Row : goal.returns-in-Row
returns-in-Row c = c.row_below.ensures _ _ (row-found c.before.before)

pub pass-c-requires : goal.pass-c-requires
pass-c-requires c =
    let m = clear-size c.before in record {
      in_order = c.loop-o.invariant.slice_at.in_order;
      le_n = (m.0, omega (arith, m.1, c.common-n.ensures.1), slice-room c.before.before.before _ m.0 m.1);
    }

pub pass-e-requires : goal.pass-e-requires
pass-e-requires c =
    let m = clear-size c.before.before in record {
      in_order = c.loop-o.invariant.exists-at.in_order;
      le_n = (m.0, omega (arith, m.1, c.common-n.ensures.2), exists-room c.before.before.before.before _ m.0 m.1);
    }

pub overflow_add-o-in-Clear : goal.overflow_add-o-in-Clear
overflow_add-o-in-Clear c =
    omega (arith, (clear-size c.before.before.before).1, within c.before.before.before.before.before, few c.before.before.before.before.before.before.before.before.before.before)

pub loop-o-smaller : goal.loop-o-smaller
loop-o-smaller c =
    omega (arith, (clear-size c.before.before.before).0, c.loop-o-test.true)

pub loop-o-preserved : goal.loop-o-preserved
loop-o-preserved c =
    let g = c.loop-o.invariant in
    going_on g _ (within c.before.before.before.before.before) c.look-seen.result (seen c.before.before.before.before) _ c.in-Clear.is _ _
    c.pass-c.ensures c.pass-e.ensures

pub returns : goal.returns
returns c =
    let l = c.loop-o in
    let all = mul-le-mul_right (width (format c.before.before.before.before.before)) c.loop-o-test.false in
    λ r h. l.invariant.none r (omega (arith, rows-within c.before.before.before.before.before, all))
