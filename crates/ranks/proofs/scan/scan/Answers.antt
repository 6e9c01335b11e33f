-- `ranks::scan::scan` meets its contract. The invariant: the rows of the first o segments are counted, and are not as many as were to be
-- found, unless there are no segments.
-- Assumes nothing.
use Prim.Native.Nat.{ℕ, ◌+◌, ◌-◌, ◌*◌, ◌^◌, ◌≤◌, ◌<◌}
use mathlib.Core.Bool.{Bool, true}
use mathlib.Core.Path.{◌≡◌, sym, ap, ◌∙◌}
use mathlib.Core.List.{List}
use lib.Dec.{eqb}
use lib.ListN.{length, get_or}
use mir.Syntax.{w32}
use mir.Val.{Fits}
use Rattle.meaning.specs.Rows.{count_below}
use Rattle.meaning.specs.Format.{width}
use Rattle.meaning.specs.Index.{format_of, row_count}
use Rattle.meaning.specs.declared.Format.{Format}
use Rattle.pivots.specs.Splits.{HasRows, Reached}
use Rattle.blocks.specs.Blocks.{NextPlaced}
use Rattle.laws.proofs.Formats.{width-le}
use Rattle.blocks.proofs.Walks.{S}
use Rattle.ranks.proofs.Comparing.{Tested, has-rows, run-rows, tested-same}
use Rattle.ranks.specs.Frames.{Column}
use Rattle.ranks.specs.Found.{rows_level, Scanned}
use Rattle.ranks.proofs.Along.{Framed, framed, rows_before, few, pivot-low, along-none, along-more, all-rows, none_before, count_fits}
use borrow.Author.Rules.{rules}
use lib.Seq.{length-take-le}
use native.Mathlib.Omega.{arith}
use Rattle.ranks.proofs.Scanning.{rows-most, reached, scanned-all}
use Rattle.ranks.proofs.scan.scan.Lts
use Rattle.ranks.proofs.scan.scan.Reads
use Rattle.ranks.proofs.scan.scan.Tie
use Rattle.ranks.proofs.scan.scan.Goals as goal

-- a place in the code that lemmas below speak of
abbrev After-count-c : Type 0
After-count-c = Lts.After-count Tie.the-claims Reads.Pre Reads.Post goal.the-invariant-loop-o goal.the-decreases-loop-o Tie.handed_clauses

-- ---- where the rows of a block are counted
module _ (k : After-count-c) where
  abbrev index : List ℕ
  index = k.args.index.now

  abbrev list : List ℕ
  list = k.args.list.now

  abbrev p : ℕ → Bool
  p = rows_level index list k.args.value

  abbrev o : ℕ
  o = k.loop-o.o

  abbrev m : ℕ
  m = k.next-s.result.n

  cs : Column index list
  cs = k.requires.column

  fr : Framed index k.of-f.result
  fr = framed k.of-f.result k.of-f.ensures k.format.ensures k.rows.ensures

  nb : NextPlaced index list o k.of-f.result.segments m k.next-s.result.even k.next-s.new.cursors k.next-s.new.x
  nb = k.next-s.ensures.block

  low : (w : ℕ) → get_or k.split-told.result.same w 0 < 2 ^ 32
  low w = let f : Fits w32 (get_or k.split-told.result.same w 0) = search rules in f.fits

  tested : Tested k.next-s.new.x (length list - 1) (λ (v : ℕ). eqb v k.args.value) k.split-told.result.same
  tested = tested-same k.split-told.ensures low

  counted : count_below (rows_before index (o + m)) p ≡ count_below (rows_before index o) p + k.count-c.result
  counted =
      k.count-c.ensures (format_of index) (row_count index) o _
      (fr.mask_is _ _ (k.mask-mask.ensures (omega (arith, nb.some)) nb.within))
      (omega (arith, nb.within, fr.total)) (has-rows cs nb tested)

  sum_is : k.loop-o.total + k.count-c.result ≡ count_below (rows_before index (o + m)) p
  sum_is = omega (arith, counted, k.loop-o.invariant.1)

  sum_fits : count_below (rows_before index (o + m)) p < 4294967296
  sum_fits = count_fits cs (o + m) _

  -- where so many are reached
  got : (behind : ℕ) → k.args.most ≤ k.loop-o.total + k.count-c.result → o < k.of-f.result.segments
      → ((F : Format) (o : ℕ) (q : ℕ → Bool) → k.of-f.result.width ≡ width F → HasRows F o m k.next-s.result.even k.split-told.result.same q
      → (k.next-s.result.even ≡ true → (j : ℕ) → j < m * width F → q (o * width F + j) ≡ q (o * width F))
      → Reached F o m q (k.args.most - k.loop-o.total) behind)
      → let row = o * width (format_of index) + behind in
      (row ≤ S index * width (format_of index)) × Scanned index list k.args.value k.args.most (k.loop-o.total + k.count-c.result) row
  got behind h t r =
      reached index list k.args.value k.args.most o m k.loop-o.total k.count-c.result (omega (arith, t, fr.total))
      (omega (arith, nb.within, fr.total)) k.loop-o.invariant.1 counted k.loop-o.invariant.2 h behind
      (r (format_of index) o _ fr.width_is (has-rows cs nb tested) (λ e. run-rows cs nb tested e))

  row_fits : (behind : ℕ) → o * width (format_of index) + behind ≤ S index * width (format_of index)
      → o * width (format_of index) + behind < 4294967296
  row_fits behind h = omega (arith, h, rows-most (format_of index) (row_count index), width-le (format_of index), cs.facts.head.few-rows)

pub loop-o-init : goal.loop-o-init
loop-o-init c =
    let e = c.«open».ensures in
    let long = e.0 ∙ length-take-le (length c.args.list.now) _ (omega (arith, c.requires.column.few)) in
    (along-none c.requires.column long e.1, none_before c.args.index.now _, omega arith, (λ h. absurd (omega arith)), long)

pub split-told-requires : goal.split-told-requires
split-told-requires c =
    let cs = c.requires.column in
    (omega (arith, cs.few), c.next-s.ensures.block.cleared.long, pivot-low cs c.requires.value_bound)

pub count-c-requires : goal.count-c-requires
count-c-requires c =
    let nb = c.next-s.ensures.block in
    let total = (framed c.of-f.result c.of-f.ensures c.format.ensures c.rows.ensures).total in
    (nb.some, omega (arith, nb.within, total, few c.requires.column), nb.in_block)

pub overflow_add-sum : goal.overflow_add-sum
overflow_add-sum c = omega (arith, sum_is c.before, sum_fits c.before)

pub place-behind-requires : goal.place-behind-requires
place-behind-requires c =
    let nb = c.next-s.ensures.block in
    let fr = framed c.of-f.result c.of-f.ensures c.format.ensures c.rows.ensures in
    (omega (arith, nb.within, fr.total, few c.requires.column), nb.in_block, omega (arith, fr.width_is, width-le (format_of c.args.index.now)))

pub overflow_mul-from : goal.overflow_mul-from
overflow_mul-from c =
    let k = c.before.before.before.before.before in
    rw (fr k).width_is (omega (arith, row_fits k _ (got k _ c.if-most-sum.true c.loop-o-test.true c.place-behind.ensures).0))

pub overflow_add-row : goal.overflow_add-row
overflow_add-row c =
    let k = c.before.before.before.before.before in
    rw (fr k).width_is (omega (arith, row_fits k _ (got k _ c.if-most-sum.true c.loop-o-test.true c.place-behind.ensures).0))

pub returns-then-most-sum : goal.returns-then-most-sum
returns-then-most-sum c =
    let k = c.before.before.before.before.before in
    rw (fr k).width_is (got k _ c.if-most-sum.true c.loop-o-test.true c.place-behind.ensures).1

pub loop-o-preserved : goal.loop-o-preserved
loop-o-preserved c =
    let k = c.before.before.before in
    let fewer = c.if-most-sum.false in (
      along-more (nb k) (omega (arith, (fr k).total)),
      sum_is k,
      omega (arith, fewer),
      (λ h. omega (arith, fewer)),
      (k.next-s.ensures.as_many k.loop-o.invariant.4).walking.long,
    )

pub returns : goal.returns
returns c =
    let h = c.loop-o in
    let index = c.args.index.now in
    let list = c.args.list.now in
    let value = c.args.value in
    let total = (framed c.of-f.result c.of-f.ensures c.format.ensures c.rows.ensures).total in
    let l : S index ≤ h.o = omega (arith, c.loop-o-test.false, total) in
    scanned-all index list value c.args.most h.o h.total l h.invariant.3
    (h.invariant.1 ∙ ap (λ (r : ℕ). count_below r (rows_level index list value)) (all-rows h.invariant.0 l))
    (λ e. h.invariant.1 ∙ ap (λ (r : ℕ). count_below (rows_before index r) (rows_level index list value)) e ∙ sym (none_before index _))
