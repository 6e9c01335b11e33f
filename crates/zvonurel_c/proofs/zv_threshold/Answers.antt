-- `zvonurel_c::zv_threshold` meets its contract: `reports` of what `zvonurel::threshold` told; by `demanded`, demand 3 holds of what the caller reads. Assumes nothing.
use Prim.Native.Nat.{ℕ}
use mathlib.Core.List.{List}
use lib.ListN.{length}
use Rattle.meaning.specs.Answer as meaning
use Rattle.meaning.specs.Refusal.{Outcome}
use Rattle.laws.specs.Demands.{ThresholdDemand}
use Rattle.laws.proofs.Numbered as numbered
use Rattle.replies.proofs.Codes.{reports, demanded}
use Rattle.zvonurel_c.proofs.zv_threshold.Goals as goal

pub returns : goal.returns
returns c =
    let a = c.args in
    let e = reports a.index.now a.list.now (meaning.threshold a.index.now a.list.now a.t (length a.out.now)) c.threshold.result c.from.result a.out.now c.threshold.new.out (numbered.threshold a.index.now a.list.now a.t (length a.out.now)) c.from.ensures c.threshold.ensures.reported in record {
      reports = e;
      threshold_demand = λ asked. demanded (λ (p : Outcome (List ℕ)). ThresholdDemand a.index.now a.list.now a.t a.out.now p c.threshold.new.out)
          (meaning.threshold a.index.now a.list.now a.t (length a.out.now))
          c.threshold.ensures.reported.told e.tells (c.threshold.ensures.threshold_demand asked);
    }
