-- `counters::equals` meets its contract. The invariant: the bits of r say how the digits below k compare.
-- Assumes nothing.
use mathlib.Core.Bool.{not, ◌&&◌, and-true}
use mathlib.Core.Path.{◌≡◌, sym, ap, ◌∙◌}
use Prim.Native.Nat.{ℕ, ◌/◌, ◌^◌, ◌<◌}
use borrow.Author.Tests.{ne_eqb}
use lib.Bits.{and_mask}
use lib.Dec.{eqb}
use lib.ListN.{get_or}
use mir.Syntax.{w32}
use mir.Val.{Fits}
use Rattle.meaning.specs.Limits.{counter_planes}
use Rattle.meaning.specs.Segment.{is_set}
use Rattle.laws.proofs.Counting.{zero_clear}
use Rattle.counters.specs.Counters.{count_at}
use Rattle.words.proofs.BitLaws.{and_set, and-not-set}
use Rattle.counters.proofs.CounterLaws.{compared-none, compared-more, compared-all, agrees, agrees-one, agrees-zero}
use borrow.Author.Rules.{rules}
use native.Mathlib.Omega.{arith}
use Rattle.counters.proofs.equals.Lts
use Rattle.counters.proofs.equals.Reads
use Rattle.counters.proofs.equals.Goals as goal
use Rattle.counters.proofs.equals.Goals.{then-t-k-eq1, else-t-k-eq1}

-- places in the code that lemmas below speak of
abbrev At-loop-k : Type 0
At-loop-k = Lts.At-loop Reads.Pre Reads.Post goal.the-invariant-loop-k goal.the-decreases-loop-k

pub returns-then-most-t : goal.returns-then-most-t
returns-then-most-t c j l =
    zero_clear j ∙ sym (ne_eqb (count_at c.args.planes j) c.args.t (omega (arith, c.if-most-t.true, c.requires.1 j l)))

-- where k digits hold the greatest counter, the bits of r say how the whole compares
done : (l : At-loop-k) → l.args.most < 2 ^ l.loop-k.k
    → (j : ℕ) → j < 32 → is_set l.loop-k.r j ≡ eqb (count_at l.args.planes j) l.args.t
done l h j g =
    let a = l.args in
    sym (and-true (is_set l.loop-k.r j))
    ∙ compared-all agrees 32 a.planes a.t l.loop-k.r l.loop-k.k (λ i m. omega (arith, l.requires.1 i m))
    (omega (arith, l.if-most-t.false)) l.loop-k.invariant.1 j g

pub loop-k-init : goal.loop-k-init
loop-k-init c = (search rules, compared-none agrees 32 _ _)

pub returns-then-most-le-FEW_COUNTED : goal.returns-then-most-le-FEW_COUNTED
returns-then-most-le-FEW_COUNTED c =
    done c.before.before.before (omega (arith, c.if-most-le-FEW_COUNTED.true, ap (λ (k : ℕ). 2 ^ k) c.if-k-eq-FEW_PLANES.true))

pub loop-k-preserved : goal.loop-k-preserved
loop-k-preserved c =
    let h = c.loop-k in
    let a = c.args in
    let p = get_or a.planes h.k 0 in
    let low = and_mask (a.t / 2 ^ h.k) 1 in
    let f : Fits w32 p = search rules in (
      search rules,
      elim c.if-t-k-eq1.branch [
        | then-t-k-eq1 w ↦ compared-more agrees 32 a.planes a.t 1 ◌&&◌ agrees-one h.r c.if-t-k-eq1.r h.k (omega arith) (sym low ∙ w.if-t-k-eq1.true)
            (λ j ll. ap (λ (x : ℕ). is_set x j) w.r-is ∙ and_set h.r p j) h.invariant.1
        | else-t-k-eq1 w ↦ compared-more agrees 32 a.planes a.t 0 (λ g b. g && not b) agrees-zero h.r c.if-t-k-eq1.r h.k (omega arith) (omega (arith, w.if-t-k-eq1.false))
            (λ j ll. ap (λ (x : ℕ). is_set x j) w.r-is ∙ and-not-set 32 h.r p j f.fits ll) h.invariant.1
      ],
    )

pub returns : goal.returns
returns c =
    let k-is : c.loop-k.k ≡ counter_planes = omega arith in
    done c.before (omega (arith, c.requires.0, ap (λ (k : ℕ). 2 ^ k) k-is))
