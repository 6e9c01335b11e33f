-- The body that a pass makes with the pivot and the cut that were found is that of the k rows.
-- Assumes nothing.
use Prim.Native.Nat.{ℕ, ◌≤◌, ◌<◌}
use mathlib.Core.Bool.{true, false}
use mathlib.Core.Path.{◌≡◌, refl, sym, ap, ◌∙◌}
use mathlib.Core.List.{List, ◌++◌}
use lib.ListN.{length, drop}
use native.Mathlib.Omega.{arith}
use Rattle.meaning.specs.Index.{format_of, row_count}
use Rattle.column_meaning.specs.Columns.{existing, value_at, ranked_rows}
use Rattle.meaning.specs.declared.Ranking.{Ranking}
use Rattle.laws.specs.RankLaws.{ranked_body}
use Rattle.laws.proofs.Formats.{canonical-ext}
use Rattle.laws.proofs.Ranking.{pivot-rows}
use Rattle.ranks.specs.Found.{PivotOf, CutAt}
use Rattle.ranks.specs.Passes.{cut_rows, cut_body, Passed, RankWritten}

module _ {op : Ranking} {index list : List ℕ} {k m take cut : ℕ} (pv : PivotOf op index list k m take)
    (ct : CutAt index list m take cut) where
  pub same_body : cut_body op index list m cut ≡ ranked_body op index list k
  unfolding ranked_rows
  same_body =
      canonical-ext (format_of index) (row_count index) (cut_rows op index list m cut) (ranked_rows index op list k)
      (λ r l.
      sym (pivot-rows op (row_count index) (existing index list) (value_at index list) m k take cut pv.counts pv.some ct.before r l))

  module _ {old out : List ℕ} {used : ℕ} where
    -- written, where there is room
    pub rank-fits : Passed op index list m cut old out true used → length (cut_body op index list m cut) ≤ length old
        → RankWritten op index list k old out used
    rank-fits p h = record {
      need-is = p.words ∙ ap length same_body;
      fits = λ g. p.stored refl ∙ ap (λ (b : List ℕ). b ++ drop used old) same_body;
      lacks = λ g. absurd (omega (arith, p.words));
    }

    -- measured, where there is none
    pub rank-lacks : Passed op index list m cut old out false used → length old < used → RankWritten op index list k old out used
    rank-lacks p h = record {
      need-is = p.words ∙ ap length same_body;
      fits = λ g. absurd (omega arith);
      lacks = λ g. p.kept refl;
    }
