-- `popcount::count` meets its contract, by `block-next` and `blocks-behind`. Assumes nothing.
use mathlib.Core.Path.{◌≡◌, ap, ◌∙◌}
use Prim.Native.Nat.{ℕ, ◌+◌, ◌*◌, ◌/◌, ◌^◌, ◌≤◌, ◌<◌}
use mathlib.Core.List.{List, []}
use lib.ListN.{length, get_or}
use Rattle.meaning.specs.Segment.{ones}
use Rattle.popcount.specs.Counts.{block_size, set_in}
use Rattle.popcount.specs.Weights.{weight}
use Rattle.popcount.proofs.Counted.{chunk-is, set-none, fits_word, ones-fit, block-next, blocks-behind}
use native.Mathlib.Omega.{arith}
use Rattle.popcount.proofs.count.Lts
use Rattle.popcount.proofs.count.Reads
use Rattle.popcount.proofs.count.Tie
use Rattle.popcount.proofs.count.Goals as goal

-- places in the code that lemmas below speak of
abbrev After-set_bits-n : Type 0
After-set_bits-n = Lts.After-set_bits Tie.the-claims Reads.Pre Reads.Post goal.the-invariant-loop-block goal.the-decreases-loop-block Tie.handed_clauses

abbrev At-loop-block : Type 0
At-loop-block = Lts.At-loop Tie.the-claims Reads.Pre Reads.Post goal.the-invariant-loop-block goal.the-decreases-loop-block Tie.handed_clauses

abbrev After-count_each : Type 0
After-count_each = Lts.After-count_each Tie.the-claims Reads.Pre Reads.Post goal.the-invariant-loop-block goal.the-decreases-loop-block Tie.handed_clauses

-- with the block that was added
counted : (c : After-set_bits-n)
    → let h = c.loop-block in
    weight c.add_block-p.result + 16 * (h.n + c.set_bits-n.result) ≡ set_in c.args.ws.now 0 ((h.block-index + 1) * block_size)
counted c =
    let h = c.loop-block in
    let x = c.args.ws.now in
    let g = c.as_chunks.ensures in
    let l : h.block-index < length x / block_size = omega (arith, g.front_len, c.loop-block-test.true) in
    let is = ap (λ (b : List (List ℕ)). get_or b h.block-index []) g.front ∙ chunk-is block_size (length x / block_size) h.block-index x l in
    let left = ap (λ (m : ℕ). weight c.add_block-p.result + 16 * m) c.set_bits-n.ensures.0 in
    block-next x h.block-index h.n c.set_bits-n.result (weight h.p) (weight c.add_block-p.result) h.invariant
    (left ∙ c.add_block-p.ensures ∙ ap (λ (b : List ℕ). set_in b 0 block_size + weight h.p) is)

-- the blocks are no more than the words
within : (c : At-loop-block) → c.loop-block.block-index * block_size ≤ length c.args.ws.now
within c = omega (arith, c.as_chunks.ensures.front_len, c.loop-block.auto.block-index-end)

-- what has been counted fits a word
fits : (c : At-loop-block) → weight c.loop-block.p + 16 * c.loop-block.n < 2 ^ 32
fits c =
    let h = c.loop-block in
    fits_word c.args.ws.now (h.block-index * block_size) _ h.invariant (omega (arith, within c, c.requires))

pub loop-block-init : goal.loop-block-init
loop-block-init c = omega (arith, c.empty-p.ensures, set-none c.args.ws.now 0)

pub overflow_add-n : goal.overflow_add-n
overflow_add-n c =
    let h = c.loop-block in
    let l : (h.block-index + 1) * block_size ≤ length c.args.ws.now = omega (arith, c.as_chunks.ensures.front_len, c.loop-block-test.true) in
    omega (arith, fits_word c.args.ws.now ((h.block-index + 1) * block_size) _ (counted c.before) (omega (arith, l, c.requires)))

pub loop-block-preserved : goal.loop-block-preserved
loop-block-preserved c = counted c.before

pub overflow_mul-result : goal.overflow_mul-result
overflow_mul-result c = omega (arith, fits c.before.before.before)

pub overflow_add-result : goal.overflow_add-result
overflow_add-result c = omega (arith, fits c.before.before.before, c.weigh.ensures)

-- the blocks, and what is behind them
total : (c : After-count_each) → c.weigh.result + 16 * c.loop-block.n + c.count_each.result ≡ ones 32 c.args.ws.now
total c =
    let h = c.loop-block in
    let x = c.args.ws.now in
    let g = c.as_chunks.ensures in
    let i-is : h.block-index ≡ length x / block_size = omega (arith, g.front_len, c.loop-block-test.false, h.auto.block-index-end) in
    blocks-behind x (length x / block_size * block_size) (c.weigh.result + 16 * h.n) c.count_each.result (omega arith)
    (ap (λ (m : ℕ). m + 16 * h.n) c.weigh.ensures ∙ rw i-is at h.invariant) (c.count_each.ensures ∙ ap (ones 32) g.back)

pub overflow_add-result-2 : goal.overflow_add-result-2
overflow_add-result-2 c = omega (arith, total c.before, ones-fit c.args.ws.now c.requires)

pub returns : goal.returns
returns c = total c.before
