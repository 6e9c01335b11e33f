-- `ranks::pass::pass` meets its contract. The invariant: the cursors stand at segment o, and the body's first o segments are put.
-- Assumes nothing.
use Prim.Native.Nat.{ℕ, ◌+◌, ◌-◌, ◌*◌, ◌/◌, ◌%◌, ◌^◌, ◌<◌}
use mathlib.Core.Path.{◌≡◌, refl, sym, ap, ◌∙◌, subst}
use mathlib.Core.List.{List, [], ◌++◌}
use lib.ListN.{length, get_or, drop, take}
use mir.Syntax.{w32}
use mir.Val.{Fits}
use native.Mathlib.Nat.{mod-lt, div-add-mod'}
use Rattle.meaning.specs.Limits.{block_segments}
use Rattle.meaning.specs.Segment.{all_set, rows_in}
use Rattle.meaning.specs.Format.{width}
use Rattle.meaning.specs.Index.{format_of, row_count}
use Rattle.meaning.specs.declared.Format.{Format}
use Rattle.laws.proofs.Formats.{width-pos}
use Rattle.body_write.specs.Bodies.{Stands}
use Rattle.body_write.proofs.UpTo.{up_none, up-used, up-all}
use Rattle.blocks.specs.Blocks.{NextPlaced}
use Rattle.blocks.proofs.Segmented.{segs-length}
use Rattle.blocks.proofs.Walks.{S}
use Rattle.ranks.specs.Passes.{EndOf, cut_rows, cut_body}
use Rattle.ranks.proofs.Along.{Framed, framed, pivot-low, along-none, along-more}
use Rattle.ranks.proofs.Passing.{MayEmit, own_segments, body_is, may-emit, up_next}
use borrow.Author.Rules.{rules}
use lib.Seq.{length-take-le}
use native.Mathlib.Omega.{arith}
use Rattle.ranks.proofs.pass.pass.Lts
use Rattle.ranks.proofs.pass.pass.Reads
use Rattle.ranks.proofs.pass.pass.Tie
use Rattle.ranks.proofs.pass.pass.Goals as goal

-- a place in the code that lemmas below speak of
abbrev At-row : Type 0
At-row = Lts.After-emit_apart-arg Tie.the-claims Reads.Pre Reads.Post goal.the-invariant-loop-o goal.the-decreases-loop-o Tie.handed_clauses

-- ---- where the words of a row are as they are written
module _ (e : At-row) where
  abbrev index : List ℕ
  index = e.args.index.now

  abbrev F : Format
  F = format_of index

  abbrev o : ℕ
  o = e.loop-o.o

  abbrev m : ℕ
  m = e.next-s.result.n

  abbrev at : ℕ
  at = e.args.cut / e.of-f.result.width

  abbrev low : ℕ
  low = e.args.cut % e.of-f.result.width

  fr : Framed index e.of-f.result
  fr = framed e.of-f.result e.of-f.ensures e.format.ensures e.rows.ensures

  some-rows : 0 < e.of-f.result.width
  some-rows = omega (arith, fr.width_is, width-pos F)

  low-less : low < width F
  low-less = omega (arith, mod-lt e.args.cut some-rows, fr.width_is)

  cut-is : e.args.cut ≡ at * width F + low
  cut-is = sym (div-add-mod' e.args.cut e.of-f.result.width) ∙ ap (λ (w : ℕ). at * w + low) fr.width_is

  nb : NextPlaced index e.args.list.now o e.end_of-end.result m e.next-s.result.even e.next-s.new.cursors e.next-s.new.x
  nb = e.next-s.ensures.block

  en : EndOf o at (S index) e.end_of-end.result
  en = subst (λ (k : ℕ). EndOf o at k e.end_of-end.result) fr.total e.end_of-end.ensures

  mask_is : e.mask-mask.result ≡ all_set (rows_in (width F) (row_count index) (o + m - 1))
  mask_is = fr.mask_is _ _ (e.mask-mask.ensures (omega (arith, nb.some)) (omega (arith, nb.within, en.within, fr.total)))

  low-ahead : (w : ℕ) → get_or e.split-told.result.ahead w 0 < 2 ^ 32
  low-ahead w = let f : Fits w32 (get_or e.split-told.result.ahead w 0) = search rules in f.fits

  low_same : (w : ℕ) → get_or e.split-told.result.same w 0 < 2 ^ 32
  low_same w = let f : Fits w32 (get_or e.split-told.result.same w 0) = search rules in f.fits

  low-taken : (w : ℕ) → get_or e.taken-rows.result w 0 < 2 ^ 32
  low-taken w = let f : Fits w32 (get_or e.taken-rows.result w 0) = search rules in f.fits

  row-long : length e.taken-rows.result ≡ block_segments
  row-long = search rules

  may : MayEmit e.of-f.result.format e.loop-o.w (take e.row_length-len.result e.spelled-row.result) m e.next-s.result.even e.args.store
      (length e.loop-o.out)
  may =
      let l = e.loop-o in
      may-emit e.requires.column nb e.split-told.ensures low-ahead low_same e.taken-rows.ensures low-taken e.kept.ensures en low-less
      cut-is e.spelled-row.ensures e.row_length-len.ensures row-long fr.full_is mask_is fr.format-is l.invariant.1
      (λ t. omega (arith, l.invariant.2, e.requires.value_bound.2 t))

pub loop-o-init : goal.loop-o-init
loop-o-init c =
    let e = c.«open».ensures in
    let long = e.0 ∙ length-take-le (length c.args.list.now) _ (omega (arith, c.requires.column.few)) in
    let fr = framed c.of-f.result c.of-f.ensures c.format.ensures c.rows.ensures in (
      along-none c.requires.column long e.1,
      up_none (row_count c.args.index.now) (own_segments c.args.op c.args.index.now c.args.list.now c.args.value c.args.cut) c.args.store
          c.args.out.now (subst (λ (G : Format). Stands G c.start-w.result []) fr.format-is c.start-w.ensures),
      refl,
      long,
    )

pub split-told-requires : goal.split-told-requires
split-told-requires c =
    let cs = c.requires.column in
    (omega (arith, cs.few), c.next-s.ensures.block.cleared.long, pivot-low cs c.requires.value_bound.0)

pub emit_apart-v-requires-clause-growing : goal.emit_apart-v-requires-clause-growing
emit_apart-v-requires-clause-growing c = (may c.before.before).0

pub emit_apart-v-requires-clause-le_n : goal.emit_apart-v-requires-clause-le_n
emit_apart-v-requires-clause-le_n c = (may c.before.before).1.0

pub emit_apart-v-requires-clause-room_for : goal.emit_apart-v-requires-clause-room_for
emit_apart-v-requires-clause-room_for c = (may c.before.before).1.1

pub loop-o-preserved : goal.loop-o-preserved
loop-o-preserved c =
    let e = c.before.before.before.before.before.before in
    let l = c.loop-o in
    let put = c.emit_apart-v in (
      along-more (nb e) (en e).within,
      up_next c.requires.column (nb e) c.split-told.ensures (low-ahead e) (low_same e) c.taken-rows.ensures (low-taken e) c.kept.ensures (en e)
          (low-less e) (cut-is e) c.spelled-row.ensures c.row_length-len.ensures (row-long e) (fr e).full_is (mask_is e) (fr e).format-is
          l.invariant.1 put.ensures,
      put.auto.out ∙ l.invariant.2,
      (e.next-s.ensures.as_many l.invariant.3).walking.long,
    )

pub returns : goal.returns
returns c =
    let l = c.loop-o in
    let s = c.args in
    let index = s.index.now in
    let list = s.list.now in
    let total = (framed c.of-f.result c.of-f.ensures c.format.ensures c.rows.ensures).total in
    let end : l.o ≡ S index = omega (arith, l.invariant.0.here, c.loop-o-test.false, total) in
    let long = segs-length (format_of index) (row_count index) (cut_rows s.op index list s.value s.cut) in
    let used = up-used l.invariant.1 long end ∙ ap length (body_is s.op index list s.value s.cut) in
    record {
      words = used;
      stored = λ t.
          subst (λ (b : List ℕ). l.out ≡ b ++ drop (length b) s.out.now) (body_is s.op index list s.value s.cut)
          (up-all l.invariant.1 long end t)
          ∙ ap (λ (k : ℕ). cut_body s.op index list s.value s.cut ++ drop k s.out.now) (sym used);
      kept = l.invariant.1.kept;
    }
