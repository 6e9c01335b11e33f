-- `on_bitmaps::bitmap_refusal` meets its contract: the check's refusal; or, by `index-means`, the head is there and the number is tested. Assumes nothing.
use Rattle.answers.specs.Told.{outcome_of}
use Rattle.answers.proofs.Checks.{sound-is, stopped, answers}
use Rattle.meaning.specs.Refusal.{sound, refuse_if}
use Rattle.meaning.specs.Answer.{check, bad_bitmap, bitmap_refusal}
use Rattle.laws.proofs.IndexSound.{index-means}
use Rattle.on_bitmaps.proofs.bitmap_refusal.Goals as goal

pub check_number-requires : goal.check_number-requires
unfolding check
check_number-requires c =
    ((index-means c.args.index.now).0 (sound-is c.check.result _ c.check.ensures c.in_ok-check.was)).head.head

pub returns-in_err-check : goal.returns-in_err-check
unfolding outcome_of bitmap_refusal
returns-in_err-check c =
    let a = c.args in
    stopped c.check.result (check a.index.now) c.check.ensures (refuse_if (bad_bitmap a.index.now a.k) 8 0 0 sound) c.from_residual.result _ c.in_err-check.was c.from_residual.ensures.1

pub returns : goal.returns
unfolding bitmap_refusal
returns c =
    let a = c.args in
    answers c.check.result (check a.index.now) c.check.ensures (refuse_if (bad_bitmap a.index.now a.k) 8 0 0 sound) (outcome_of c.check_number.result) c.in_ok-check.was c.check_number.ensures
