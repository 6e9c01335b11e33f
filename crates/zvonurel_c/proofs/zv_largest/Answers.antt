-- `zvonurel_c::zv_largest` meets its contract: `writes` of what `zvonurel::largest` told; no refusal of it has number 0; by `demanded`,
-- demand 3 holds of what the caller reads. Assumes nothing.
use Prim.Native.Nat.{ℕ}
use mathlib.Core.List.{List}
use lib.ListN.{length}
use Rattle.column_meaning.specs.Columns as columns
use Rattle.meaning.specs.declared.Ranking.TheVariants.{Largest}
use Rattle.meaning.specs.Refusal.{Outcome}
use Rattle.laws.specs.RankLaws.{RankDemand}
use Rattle.laws.proofs.Numbered as numbered
use Rattle.replies.proofs.Codes.{writes, demanded}
use Rattle.zvonurel_c.proofs.zv_largest.Goals as goal

pub returns : goal.returns
returns c =
    let a = c.args in
    let e = writes (columns.largest a.index.now a.column.now a.k (length a.out.now)) c.largest.result c.from.result a.out.now c.largest.new.out (numbered.ranked a.index.now Largest a.column.now a.k (length a.out.now)) c.from.ensures c.largest.ensures.wrote in record {
      writes = e;
      rank_demand = λ asked. demanded (λ (p : Outcome (List ℕ)). RankDemand Largest a.index.now a.column.now a.k a.out.now p c.largest.new.out)
          (columns.largest a.index.now a.column.now a.k (length a.out.now))
          c.largest.ensures.wrote.told e.tells (c.largest.ensures.rank_demand asked);
    }
