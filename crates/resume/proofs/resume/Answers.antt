-- `resume::resume` meets its contract: the walk stands before each marker, and ends with the last segment. Assumes nothing.
use Prim.Native.Nat.{ℕ, ◌+◌, ◌^◌, ◌≤◌, ◌<◌}
use mathlib.Core.Bool.{Bool, true}
use mathlib.Core.Path.{◌≡◌, sym, ap, ◌∙◌}
use mathlib.Core.List.{List}
use native.Mathlib.Omega.{arith}
use lib.ListN.{length, get_or, take, drop}
use Rattle.laws.proofs.Parts.{part-is}
use Rattle.resume.specs.Scan.{follows_of}
use Rattle.ewah_write.specs.Mixed.{all_mixed}
use Rattle.resume.proofs.Walking.{stood-start, stood-end, dirty-fit, not-follows, not-mixed, stood-next}
use Rattle.resume.proofs.resume.Lts
use Rattle.resume.proofs.resume.Reads
use Rattle.resume.proofs.resume.Tie
use Rattle.resume.proofs.resume.Goals as goal

-- places in the code that lemmas below speak of
abbrev After-read-m : Type 0
After-read-m = Lts.After-read Tie.the-claims Reads.Pre Reads.Post goal.the-invariant-loop-at goal.the-decreases-loop-at

abbrev After-follows : Type 0
After-follows = Lts.After-follows Tie.the-claims Reads.Pre Reads.Post goal.the-invariant-loop-at goal.the-decreases-loop-at

abbrev After-all_mixed : Type 0
After-all_mixed = Lts.After-all_mixed Tie.the-claims Reads.Pre Reads.Post goal.the-invariant-loop-at goal.the-decreases-loop-at

pub loop-at-init : goal.loop-at-init
loop-at-init c =
    stood-start c.args.body.now c.start-w.result c.start-w.result c.requires.1.ended c.start-w.ensures

-- a marker was read
module _ (d : After-read-m) where
  abbrev body : List ℕ
  body = d.args.body.now

  there : d.loop-at.at < length body
  there = d.loop-at-test.true

  low : get_or body d.loop-at.at 0 < 2 ^ 32
  low = omega (arith, d.shared_slice_known-1.given d.loop-at.at)

  -- its dirty words are in the body
  words-fit : d.loop-at.at + 1 + d.read-m.result.dirty ≤ length body
  words-fit = dirty-fit d.loop-at.invariant there d.read-m.ensures

  -- it may stand behind the last
  abbrev may-follow : Bool
  may-follow =
      let l = d.loop-at.w.last in
      let m = d.read-m.result in
      follows_of l.value l.clean l.dirty m.value m.clean m.dirty

-- that was tested
module _ (t : After-follows) where
  follows_is : t.follows.result ≡ may-follow t.before.before.before
  follows_is = t.follows.ensures

pub returns-then-not-follows : goal.returns-then-not-follows
returns-then-not-follows c =
    not-follows c.loop-at.invariant (there c.before.before.before.before.before) c.read-m.ensures (sym (follows_is c.before.before) ∙ c.if-not-follows.true)
    c.args.rows

pub slice_bounds-all_mixed-end : goal.slice_bounds-all_mixed-end
slice_bounds-all_mixed-end c = omega (arith, words-fit c.before.before.before.before.before)

-- its dirty words were tested
module _ (t : After-all_mixed) where
  follow : may-follow t.before.before.before.before.before.before ≡ true
  follow = sym (follows_is t.before.before.before) ∙ t.if-not-follows.false

  words_are : t.all_mixed.result ≡ all_mixed (take t.read-m.result.dirty (drop (t.loop-at.at + 1) (body t.before.before.before.before.before.before)))
  words_are = t.all_mixed.ensures ∙ ap all_mixed (part-is (body t.before.before.before.before.before.before) (t.loop-at.at + 1) t.read-m.result.dirty)

pub returns-then-not-all_mixed : goal.returns-then-not-all_mixed
returns-then-not-all_mixed c =
    not-mixed c.loop-at.invariant (there c.before.before.before.before.before.before.before.before) c.read-m.ensures (follow c.before.before) (sym (words_are c.before.before) ∙ c.if-not-all_mixed.true)
    c.args.rows

pub loop-at-preserved : goal.loop-at-preserved
loop-at-preserved c =
    stood-next c.loop-at.invariant (there c.before.before.before.before.before.before.before.before) c.read-m.ensures (follow c.before.before) (low c.before.before.before.before.before.before.before.before)
    (sym (words_are c.before.before) ∙ c.if-not-all_mixed.false)

pub end-requires : goal.end-requires
end-requires c = (c.requires.1, stood-end c.loop-at.invariant c.loop-at-test.false)
