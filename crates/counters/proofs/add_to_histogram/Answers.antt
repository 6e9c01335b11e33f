-- `counters::add_to_histogram` meets its contract. The invariant: the counts below c have grown, the others are as they were.
-- Assumes nothing.
use native.Mathlib.Decide.{dec_le}
use mathlib.Core.Bool.{Bool, ◌&&◌, and-false}
use mathlib.Core.List.{List}
use mathlib.Core.Path.{◌≡◌, ap, ap₂, ◌∙◌}
use Prim.Native.Nat.{ℕ, suc, ◌+◌, ◌-◌, ◌≤◌, ◌<◌}
use native.Mathlib.Nat.{le_refl}
use borrow.Author.Tests.{ne_eqb}
use lib.Bits.{bit_and}
use lib.Dec.{eqb}
use lib.ListN.{get_or}
use Rattle.meaning.specs.Rows.{count_below}
use Rattle.meaning.specs.Segment.{is_set}
use Rattle.laws.proofs.Counting.{count-ext, count-le}
use Rattle.laws.proofs.Counted.{count_none}
use Rattle.counters.specs.Counters.{count_at}
use Rattle.words.proofs.BitLaws.{and_set}
use Rattle.words.proofs.Tests.{eqb-more}
use Rattle.words.proofs.Entries.{Filled, filled-from, filled_more}
use borrow.Author.Rules.{rules}
use native.Mathlib.Omega.{arith}
use Rattle.counters.proofs.add_to_histogram.Invariants.{rows_at, grown}
use Rattle.counters.proofs.add_to_histogram.Goals as goal

-- no row has a count below base
rows_none : (planes : List ℕ) (base mask c : ℕ) → c < base → rows_at planes base mask c ≡ 0
rows_none planes base mask c h =
    count_none 32 (λ j. is_set mask j && eqb (base + count_at planes j) c)
    (λ j l. ap (λ (b : Bool). is_set mask j && b) (ne_eqb (base + count_at planes j) c (omega arith)) ∙ and-false (is_set mask j))

-- nor above base and the most
rows-past : (planes : List ℕ) (base most mask c : ℕ) → ((j : ℕ) → j < 32 → count_at planes j ≤ most) → base + most < c → rows_at planes base mask c ≡ 0
rows-past planes base most mask c low h =
    count_none 32 (λ j. is_set mask j && eqb (base + count_at planes j) c)
    (λ j l. ap (λ (b : Bool). is_set mask j && b) (ne_eqb (base + count_at planes j) c (omega (arith, low j l))) ∙ and-false (is_set mask j))

-- the rows of the mask whose counter is c less base
rows_are : (planes : List ℕ) (base mask x c : ℕ) → base ≤ c → ((j : ℕ) → j < 32 → is_set x j ≡ eqb (count_at planes j) (c - base))
    → count_below 32 (is_set (bit_and mask x)) ≡ rows_at planes base mask c
rows_are planes base mask x c h x-is =
    count-ext 32 (is_set (bit_and mask x)) (λ j. is_set mask j && eqb (base + count_at planes j) c)
    (λ j l. and_set mask x j ∙ ap (λ (b : Bool). is_set mask j && b) (x-is j l ∙ eqb-more base (count_at planes j) c h))

pub loop-c-init : goal.loop-c-init
loop-c-init c =
    let a = c.args in
    let was = a.counts.now in (
      search rules,
      search rules,
      c.requires.1,
      filled-from (grown was a.planes a.base a.mask) was a.base
          (λ i l. rw (rows_none a.planes a.base a.mask i l) (omega arith)),
    )

pub overflow_add-counts : goal.overflow_add-counts
overflow_add-counts c =
    let rows = bit_and c.args.mask c.equals.result in
    record {
      fits =
          omega (
            arith,
            c.count.ensures,
            count-le 32 (is_set rows),
            c.loop-c.invariant.3.rest c.loop-c.c (le_refl c.loop-c.c),
            c.requires.2 c.loop-c.c (omega (arith, c.requires.0)),
          );
    }

pub loop-c-preserved : goal.loop-c-preserved
loop-c-preserved c =
    let h = c.loop-c in
    let a = c.args in
    let was = a.counts.now in
    let rows : c.count.result ≡ rows_at a.planes a.base a.mask h.c =
    c.count.ensures ∙ rows_are a.planes a.base a.mask c.equals.result h.c h.invariant.0 c.equals.ensures in (
      search rules,
      search rules,
      search rules,
      filled_more (grown was a.planes a.base a.mask) was h.counts h.c (get_or h.counts h.c 0 + c.count.result) (omega (arith, h.invariant.2, c.requires.0))
          (ap₂ ◌+◌ (h.invariant.3.rest h.c (le_refl h.c)) rows) h.invariant.3,
    )

-- past the last count that can grow
past : (planes counts r : List ℕ) (base most mask c i : ℕ) → ((j : ℕ) → j < 32 → count_at planes j ≤ most) → Filled (grown counts planes base mask) counts r c
    → base + most < c → c ≤ i → get_or r i 0 ≡ grown counts planes base mask i
past planes counts r base most mask c i low f h g = f.rest i g ∙ rw (rows-past planes base most mask i low (omega arith)) (omega arith)

pub returns : goal.returns
returns c =
    let h = c.loop-c in
    let a = c.args in
    let was = a.counts.now in (
      h.invariant.2,
      λ i l. elim (dec_le (suc i) h.c) [
        | yes g ↦ h.invariant.3.done i g
        | no g ↦ past a.planes was h.counts a.base a.most a.mask h.c i c.requires.3 h.invariant.3 (omega arith) (omega arith)
      ],
    )
