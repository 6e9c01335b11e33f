-- `archive::write` meets its contract: behind the head each round adds a body and its entry, and after the last one the
-- buffer has the whole index.
-- Assumes nothing.
use Prim.Native.Nat.{ℕ, ◌≤◌}
use mathlib.Core.Path.{◌≡◌, ◌∙◌, subst}
use mathlib.Core.List.{List}
use lib.ListN.{length, length-set}
use Rattle.meaning.specs.Limits.{most_index_words}
use Rattle.meaning.specs.Index.{bitmap_count}
use Rattle.laws.specs.Laws.{IndexFacts}
use Rattle.laws.proofs.NewIndexes.{room_within}
use Rattle.archive.specs.Anew.{anew, Begun}
use Rattle.archive.proofs.Growing.{begun-none, begun_all}
use Rattle.archive.proofs.Renewed.{new-facts, new-kind, new-rows, new-count, new-place}
use native.Mathlib.Omega.{arith}
use Rattle.archive.proofs.write.Lts
use Rattle.archive.proofs.write.Reads
use Rattle.archive.proofs.write.Tie
use Rattle.archive.proofs.write.Goals as goal

-- places in the code that lemmas below speak of
abbrev Start : Type 0
Start = Lts.Start Tie.the-claims Reads.Pre Reads.Post goal.the-invariant-loop-k goal.the-decreases-loop-k Tie.handed_clauses

abbrev At-loop-k : Type 0
At-loop-k = Lts.At-loop Tie.the-claims Reads.Pre Reads.Post goal.the-invariant-loop-k goal.the-decreases-loop-k Tie.handed_clauses

-- at the start: the new index, and that the buffer has room for its head
module _ (s : Start) where
  abbrev t : List ℕ
  t = anew s.args.index.now s.args.to

  -- it fits the buffer, and is no longer than an index may be
  fits : (length t ≤ length s.args.out.now) × (length t ≤ most_index_words)
  fits = room_within (length t) (length s.args.out.now) s.requires.to_len_bound

  facts : IndexFacts t
  facts = new-facts s.args.index.now s.args.to s.requires.index_facts fits.1

  count : bitmap_count s.args.index.now ≡ bitmap_count t
  count = new-count s.args.index.now s.args.to s.requires.index_facts

  three : 3 ≤ length s.args.out.now
  three = omega (arith, facts.head.head, fits.0)

pub bounds-out-0 : goal.bounds-out-0
bounds-out-0 c = omega (arith, three c.before.before.before.before.before)

pub bounds-out-1 : goal.bounds-out-1
bounds-out-1 c = simp length-set (omega (arith, three c.before.before.before.before.before.before))

pub bounds-out-2 : goal.bounds-out-2
bounds-out-2 c = simp length-set (omega (arith, three c.before.before.before.before.before.before))

pub loop-k-init : goal.loop-k-init
loop-k-init c =
    let n = c.bitmaps-n in (
      c.entry_place-at.ensures.0 ∙ new-place c.args.index.now c.args.to c.requires.index_facts n.result n.ensures,
      λ old g. g,
    )

-- the start, from the loop's test on
module _ (l : At-loop-k) where
  -- as many rounds as there are bitmaps
  abbrev rounds : ℕ
  rounds = l.bitmaps-n.result

  all : rounds ≡ bitmap_count l.args.index.now
  all = l.bitmaps-n.ensures

  -- what the buffer has, since the head was written to it
  begun : Begun (t l.before.before.before.before.before.before.before) l.args.out.now l.loop-k.out l.loop-k.k
  begun =
      let index = l.args.index.now in
      let to = l.args.to in
      let rows = l.rows in
      let kind = l.kind in
      l.loop-k.invariant.1 l.args.out.now
      (begun-none (t l.before.before.before.before.before.before.before) (facts l.before.before.before.before.before.before.before) l.args.out.now (fits l.before.before.before.before.before.before.before).0 kind.result rows.result rounds
      (kind.ensures ∙ new-kind index to l.requires.index_facts (fits l.before.before.before.before.before.before.before).1) (rows.ensures ∙ new-rows index to l.requires.index_facts (fits l.before.before.before.before.before.before.before).1)
      (all ∙ count l.before.before.before.before.before.before.before))

pub returns : goal.returns
returns c =
    let e : c.loop-k.k ≡ bitmap_count (t c.before.before.before.before.before.before.before.before.before) = omega (arith, c.loop-k.auto.k-end, c.loop-k-test.false, all c.before.before, count c.before.before.before.before.before.before.before.before.before) in
    begun_all (t c.before.before.before.before.before.before.before.before.before) (facts c.before.before.before.before.before.before.before.before.before) c.args.out.now c.loop-k.out (fits c.before.before.before.before.before.before.before.before.before).0
    (subst (λ (k : ℕ). Begun (t c.before.before.before.before.before.before.before.before.before) c.args.out.now c.loop-k.out k) e (begun c.before.before))
