-- `on_bitmaps::bitmap` meets its contract: by `part-laws` the part is empty on a refusal, and else it is body k, which `contents::body` lends. Assumes nothing.
use mathlib.Core.Path.{refl, sym, ◌∙◌}
use Rattle.answers.proofs.Checks.{sound-is, refused-is, refused-not-sound}
use Rattle.laws.proofs.BitmapPart.{part-laws}
use Rattle.on_bitmaps.proofs.bitmap.Goals as goal

pub body-requires : goal.body-requires
body-requires c =
    let h = part-laws.known _ _ (sound-is c.bitmap_refusal.result _ c.bitmap_refusal.ensures c.in-Ok.is) in record {
      head_facts = h.facts.head;
      entry_facts = h.facts.entries;
      k_bound = h.below;
    }

pub returns-in-Err : goal.returns-in-Err
returns-in-Err c =
    let a = c.args in
    let f = refused-is c.bitmap_refusal.result _ c.bitmap_refusal.ensures _ c.in-Err.is in record {
      result_value = sym (part-laws.none a.index.now a.k _ _ _ f);
      ref_ptr_value = refl;
      ref_ptr_value_2 = λ s. absurd (refused-not-sound _ f s);
    }

pub returns-in-Ok : goal.returns-in-Ok
returns-in-Ok c =
    let h = part-laws.known _ _ (sound-is c.bitmap_refusal.result _ c.bitmap_refusal.ensures c.in-Ok.is) in record {
      result_value = c.body.ensures.result_value ∙ sym h.part;
      ref_ptr_value = c.body.ensures.ref_ptr_value;
      ref_ptr_value_2 = λ s. c.body.ensures.ref_ptr_value_2;
    }
