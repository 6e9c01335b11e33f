-- `resume::end` meets its contract: the last segment is whole, of a clean run, or a dirty word. Assumes nothing.
use Prim.Native.Nat.{ℕ, ◌-◌}
use mathlib.Core.Path.{refl, sym, ◌∙◌}
use mathlib.Core.List.{List}
use native.Mathlib.Omega.{arith}
use lib.Bits.{and_mask}
use lib.ListN.{length}
use Rattle.meaning.specs.Ewah.{segments}
use Rattle.resume.specs.Resume.{draft_of, Resumes, LastMarker}
use Rattle.resume.proofs.Ending.{Over, found-even, last-marker, found-run, found_word, not-word}
use Rattle.resume.proofs.end.Lts
use Rattle.resume.proofs.end.Reads
use Rattle.resume.proofs.end.Tie
use Rattle.resume.proofs.end.Goals as goal

-- places in the code that lemmas below speak of
abbrev After-shared_slice_known-1 : Type 0
After-shared_slice_known-1 = Lts.After-shared_slice_known Tie.the-claims Reads.Pre Reads.Post

abbrev Else-have-eq0 : Type 0
Else-have-eq0 = Lts.Else1 Tie.the-claims Reads.Pre Reads.Post

abbrev After-back-whole : Type 0
After-back-whole = Lts.After-back Tie.the-claims Reads.Pre Reads.Post

module _ (t : After-shared_slice_known-1) where
  over : Over t.args.rows t.args.body.now t.args.before t.args.w
  over = record {
    facts = t.requires.0;
    words = λ i. omega (arith, t.shared_slice_known-1.given i);
    walked = t.requires.1;
  }

pub returns-then-have-eq0 : goal.returns-then-have-eq0
returns-then-have-eq0 c = found-even (over c.before.before) (sym (and_mask c.args.rows 5) ∙ c.if-have-eq0.true)

-- the last segment has fewer rows than 32
module _ (t : Else-have-eq0) where
  abbrev body : List ℕ
  body = t.args.body.now

  its-marker : LastMarker body (length (segments body)) t.args.before t.args.w
  its-marker = last-marker (over t.before) (and_mask t.args.rows 5) t.if-have-eq0.false

pub back-whole-requires : goal.back-whole-requires
back-whole-requires c = (body c.before.before, length (segments (body c.before.before)), its-marker c.before.before)

-- it was taken back
module _ (k : After-back-whole) where
  abbrev words : List ℕ
  words = body k.before.before

  taken_back : Resumes words k.back-whole.result (draft_of words (length (segments words) - 1))
  taken_back = k.back-whole.ensures words (length (segments words)) (its-marker k.before.before)

pub returns-then-last-eq0 : goal.returns-then-last-eq0
returns-then-last-eq0 c =
    found-run (over c.before.before.before.before.before.before.before.before) (and_mask c.args.rows 5) c.if-have-eq0.false
    c.if-last-eq0.true c.low_ones-all.result c.low_ones-all.ensures c.back-whole.result (taken_back c.before.before.before.before.before)

pub overflow_sub-at : goal.overflow_sub-at
overflow_sub-at c = let l = its-marker c.before.before.before.before.before.before in omega (arith, l.inside, l.used-is)

pub bounds-body-at : goal.bounds-body-at
bounds-body-at c =
    let l = its-marker c.before.before.before.before.before.before.before in omega (arith, l.inside, l.used-is)

pub returns-then-x-all : goal.returns-then-x-all
returns-then-x-all c =
    not-word (over c.before.before.before.before.before.before.before.before.before) (and_mask c.args.rows 5) c.if-have-eq0.false
    c.if-last-eq0.false _ refl (omega (arith, c.if-x-all.true, c.low_ones-all.ensures))

pub returns : goal.returns
returns c =
    found_word (over c.before.before.before.before.before.before.before.before.before) (and_mask c.args.rows 5) c.if-have-eq0.false
    c.if-last-eq0.false _ refl (λ e. c.if-x-all.false (omega (arith, c.low_ones-all.ensures))) c.back-whole.result (taken_back c.before.before.before.before.before.before)
