-- `zvonurel_c::zv_smallest` meets its contract: `writes` of what `zvonurel::smallest` told; no refusal of it has number 0; by `demanded`,
-- demand 3 holds of what the caller reads. Assumes nothing.
use Prim.Native.Nat.{ℕ}
use mathlib.Core.List.{List}
use lib.ListN.{length}
use Rattle.column_meaning.specs.Columns as columns
use Rattle.meaning.specs.declared.Ranking.TheVariants.{Smallest}
use Rattle.meaning.specs.Refusal.{Outcome}
use Rattle.laws.specs.RankLaws.{RankDemand}
use Rattle.laws.proofs.Numbered as numbered
use Rattle.replies.proofs.Codes.{writes, demanded}
use Rattle.zvonurel_c.proofs.zv_smallest.Goals as goal

pub returns : goal.returns
returns c =
    let a = c.args in
    let e = writes (columns.smallest a.index.now a.column.now a.k (length a.out.now)) c.smallest.result c.from.result a.out.now c.smallest.new.out (numbered.ranked a.index.now Smallest a.column.now a.k (length a.out.now)) c.from.ensures c.smallest.ensures.wrote in record {
      writes = e;
      rank_demand = λ asked. demanded (λ (p : Outcome (List ℕ)). RankDemand Smallest a.index.now a.column.now a.k a.out.now p c.smallest.new.out)
          (columns.smallest a.index.now a.column.now a.k (length a.out.now))
          c.smallest.ensures.wrote.told e.tells (c.smallest.ensures.rank_demand asked);
    }
