-- `zvonurel_c::place` meets its contract: a refusal is handed on, and else it is the place that the contents say. Assumes nothing.
use Rattle.answers.proofs.Checks.{sound-is}
use Rattle.zvonurel_c.proofs.Lent.{there, stopped-place, place-told}
use Rattle.zvonurel_c.proofs.place.Goals as goal

pub start-requires : goal.start-requires
start-requires c =
    let both = there c.bitmap_refusal.result c.args.index.now c.args.k c.bitmap_refusal.ensures c.in_ok-bitmap_refusal.was in record { head_facts = both.0; k_bound = both.1 }

pub words-requires : goal.words-requires
words-requires c =
    let both = there c.bitmap_refusal.result c.args.index.now c.args.k c.bitmap_refusal.ensures c.in_ok-bitmap_refusal.was in record { head_facts = both.0; k_bound = both.1 }

pub returns-in_err-bitmap_refusal : goal.returns-in_err-bitmap_refusal
returns-in_err-bitmap_refusal c =
    stopped-place _ _ c.bitmap_refusal.result c.from_residual.result _ c.bitmap_refusal.ensures c.in_err-bitmap_refusal.was c.from_residual.ensures.1

pub returns : goal.returns
returns c =
    place-told _ _ _ _ (sound-is c.bitmap_refusal.result _ c.bitmap_refusal.ensures c.in_ok-bitmap_refusal.was) c.start.ensures.0 c.words.ensures.0
