-- `pairs::pass::pass` meets its contract: block by block, by `Passing`.
-- Assumes nothing.
use Prim.Native.Nat.{ℕ, ◌+◌, ◌-◌, ◌≤◌, ◌<◌}
use mathlib.Core.Bool.{Bool, true}
use mathlib.Core.Path.{◌≡◌, refl, ap, ap₂, ◌∙◌}
use mathlib.Core.List.{List}
use lib.ListN.{length, take}
use lib.Seq.{get_or-take, length-take-le}
use native.Mathlib.Omega.{arith}
use Rattle.meaning.specs.Limits.{block_words}
use Rattle.meaning.specs.Segment.{segment_count, all_set, rows_in}
use Rattle.meaning.specs.Format.{width}
use Rattle.meaning.specs.declared.Format.{Format}
use Rattle.meaning.specs.Index.{format_of, row_count}
use Rattle.ewah.specs.Cursors.{left_of}
use Rattle.ewah_write.specs.declared.writer.Writer.{Writer}
use Rattle.walk.specs.Queries.{cursor_of}
use Rattle.blocks.specs.Blocks.{Chosen, BlockOf}
use Rattle.blocks.proofs.Values.{zeros}
use Rattle.blocks.proofs.Walks.{before, placed_on, still-cleared, block_of}
use Rattle.new_index.specs.Writers.{no_writer}
use Rattle.pairs.specs.Spellings.{Spelled}
use Rattle.pairs.proofs.Passing.{MayEmit, passing-none, may-emit, passing-more, passing-all}
use Rattle.pairs.proofs.pass.pass.Lts
use Rattle.pairs.proofs.pass.pass.Reads
use Rattle.pairs.proofs.pass.pass.Tie
use Rattle.pairs.proofs.pass.pass.Goals as goal

-- a place in the code that lemmas below speak of
abbrev Spelt : Type 0
Spelt = Lts.After-emit_all-arg Tie.the-claims Reads.Pre Reads.Post goal.the-invariant-loop-o goal.the-decreases-loop-o Tie.handed_clauses

-- ---- at a block of the answer that is spelled
module _ (s : Spelt) where
  abbrev index : List ℕ
  index = s.args.index.now

  abbrev F : Format
  F = format_of index

  abbrev R : ℕ
  R = row_count index

  abbrev o : ℕ
  o = s.loop-o.o

  abbrev m : ℕ
  m = s.choose-s.result.n

  abbrev even : Bool
  even = s.choose-s.result.even

  abbrev near : ℕ
  near = s.nearest-near.result

  abbrev ws : List Writer
  ws = s.loop-o.ws

  format-is : s.of-f.result.format ≡ F
  format-is = s.of-f.ensures.0 ∙ s.format.ensures

  rows_are : s.of-f.result.rows ≡ R
  rows_are = s.of-f.ensures.1 ∙ s.rows.ensures

  total : s.of-f.result.segments ≡ segment_count (width F) R
  total = s.of-f.result.total ∙ ap₂ (λ (G : Format) (r : ℕ). segment_count (width G) r) format-is rows_are

  ch : Chosen near (segment_count (width F) R) o m even
  ch = rw total at s.choose-s.ensures

  near1 : (k : ℕ) → k < length s.args.first.now → near ≤ left_of (cursor_of s.loop-o.p k).piece
  near1 k h = s.nearest-near.ensures.first k (omega (arith, h, s.loop-o.invariant.0.first-walking.long))

  near2 : even ≡ true → (k : ℕ) → k < length s.args.second.now → near ≤ left_of (cursor_of s.loop-o.q k).piece
  near2 e k h = s.nearest-near.ensures.second (ch.in-runs e) k (omega (arith, h, s.loop-o.invariant.0.second-walking.long))

  mask_is : s.mask-mask.result ≡ all_set (rows_in (width F) R (o + m - 1))
  mask_is =
      s.mask-mask.ensures (omega (arith, ch.some)) (omega (arith, ch.within, total))
      ∙ ap₂ (λ (G : Format) (r : ℕ). all_set (rows_in (width G) r (o + m - 1))) format-is rows_are

  blocks1 : BlockOf index s.args.first.now o m even s.gather.new.x
  blocks1 = block_of s.loop-o.invariant.0.first-walking s.gather.ensures s.loop-o.invariant.2

  blocks2 : BlockOf index s.args.second.now o m even s.gather-in-loop-o.new.x
  blocks2 = block_of s.loop-o.invariant.0.second-walking s.gather-in-loop-o.ensures s.loop-o.invariant.3

  spelled : Spelled F R o m even s.pair.new.z (s.args.n + 1) s.spell.new.z
  spelled = s.spell.ensures F R o (s.of-f.result.full_is ∙ ap (λ (G : Format). all_set (width G)) format-is) ch.within mask_is

  may : MayEmit s.args.starts.now s.loop-o.out ws s.spell.new.z s.args.n m even s.args.store s.of-f.result.format
  may =
      may-emit s.requires.columns s.loop-o.invariant.0 ch near1 near2 blocks1 blocks2 s.pair.ensures spelled format-is
      s.requires.laid s.requires.i_in_bounds

  -- the writers that are lent
  many : length (take (s.args.n + 1) ws) ≡ s.args.n + 1
  many = length-take-le (s.args.n + 1) ws (omega (arith, s.loop-o.invariant.0.writers-long, s.requires.columns.few))

pub loop-o-init : goal.loop-o-init
loop-o-init c =
    let s = c.args in
    let e = c.«open».ensures in
    let r = c.requires.columns in
    let f = c.open-2.ensures in
    let long₁ : length c.«open».new.cursors ≡ length s.first.now = e.0 ∙ length-take-le (length s.first.now) _ (omega (arith, r.few, r.first_fits)) in
    let long₂ : length c.open-2.new.cursors ≡ length s.second.now = f.0 ∙ length-take-le (length s.second.now) _ (omega (arith, r.few, r.second_fits)) in (
      passing-none s.op s.index.now s.first.now s.second.now s.n s.starts.now s.out.now s.store
          _ _ _ c.requires.columns (record { standing = e.1; long = omega (arith, long₁) })
          (record { standing = f.1; long = omega (arith, long₂) })
          c.start-ws.ensures.0 (c.of-f.ensures.0 ∙ c.format.ensures) c.start-ws.ensures.1,
      refl,
      record { long = refl; past = λ i h. zeros block_words i },
      record { long = refl; past = λ i h. zeros block_words i },
      long₁,
      long₂,
    )

pub gather-requires-in-loop-o-clause-standing_before : goal.gather-requires-in-loop-o-clause-standing_before
gather-requires-in-loop-o-clause-standing_before c =
    let cs = c.requires.columns in
    let total = c.of-f.result.total ∙ ap₂ (λ (G : Format) (r : ℕ). segment_count (width G) r) (c.of-f.ensures.0 ∙ c.format.ensures) (c.of-f.ensures.1 ∙ c.rows.ensures) in
    before c.loop-o.invariant.0.second-walking cs.facts cs.second-listed c.choose-s.result.n (omega (arith, c.choose-s.ensures.within, total))

pub emit_all-requires-clause-by_index : goal.emit_all-requires-clause-by_index
emit_all-requires-clause-by_index c =
    let s = c.before.before in
    λ i h. let l : i < s.args.n + 1 = omega (arith, many s) in rw (get_or-take (s.args.n + 1) (ws s) i no_writer l) ((may s).1 i l)

pub emit_all-requires-clause-clean_word : goal.emit_all-requires-clause-clean_word
emit_all-requires-clause-clean_word c =
    let s = c.before.before in
    λ e i h. (may s).2 e i (omega (arith, many s))

pub emit_all-requires-clause-room_for : goal.emit_all-requires-clause-room_for
emit_all-requires-clause-room_for c =
    let s = c.before.before in
    λ e i h. let l : i < s.args.n + 1 = omega (arith, many s) in rw (get_or-take (s.args.n + 1) (ws s) i no_writer l) ((may s).3 e i l)

pub loop-o-preserved : goal.loop-o-preserved
loop-o-preserved c =
    let s = c.before.before.before.before.before.before.before in
    let l = c.loop-o in
    let g = l.invariant.0 in (
      passing-more c.requires.columns g (ch s) (near1 s) (near2 s) (blocks1 s) (blocks2 s) c.pair.ensures (spelled s)
          (format-is s) (mask_is s) c.emit_all.ensures
          (placed_on g.first-walking c.gather.ensures) (placed_on g.second-walking c.gather-in-loop-o.ensures),
      (spelled s).long ∙ c.pair.ensures.long,
      still-cleared g.first-walking c.gather.ensures l.invariant.2,
      still-cleared g.second-walking c.gather-in-loop-o.ensures l.invariant.3,
      c.gather.ensures.long ∙ l.invariant.4,
      c.gather-in-loop-o.ensures.long ∙ l.invariant.5,
    )

pub returns : goal.returns
returns c =
    let total = c.of-f.result.total ∙ ap₂ (λ (G : Format) (r : ℕ). segment_count (width G) r) (c.of-f.ensures.0 ∙ c.format.ensures) (c.of-f.ensures.1 ∙ c.rows.ensures) in
    passing-all c.requires.columns c.loop-o.invariant.0 (omega (arith, c.loop-o-test.false, total))
