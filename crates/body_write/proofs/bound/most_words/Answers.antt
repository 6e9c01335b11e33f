-- `body_write::bound::most_words` meets its contract: in EWAH at most a word for each segment, and a marker for each group
-- of dirty words; in WAH a word for each segment.
-- Assumes nothing.
use Prim.Native.Nat.{ℕ, ◌+◌, ◌/◌, ◌≤◌}
use mathlib.Core.Bool.{Bool}
use mathlib.Core.Path.{◌≡◌, sym, subst}
use lib.ListN.{length}
use Rattle.meaning.specs.Limits.{most_dirty}
use Rattle.meaning.specs.Segment.{segment_count}
use Rattle.meaning.specs.Format.{width, canonical}
use Rattle.meaning.specs.declared.Format.{Format}
use Rattle.meaning.specs.declared.Format.TheVariants.{Ewah, Wah}
use Rattle.laws.proofs.Enough.{most-words}
use Rattle.body_write.proofs.bound.most_words.Goals as goal

module _ (F : Format) (R n : ℕ) (is : n ≡ segment_count (width F) R) where
  in-ewah : F ≡ Ewah → (p : ℕ → Bool) → length (canonical F R p) ≤ n + n / most_dirty + 1
  in-ewah e p =
      subst (λ (G : Format). n ≡ segment_count (width G) R → length (canonical G R p) ≤ n + n / most_dirty + 1) (sym e)
      (λ g. rw g (most-words Ewah R p)) is

  in-wah : F ≡ Wah → (p : ℕ → Bool) → length (canonical F R p) ≤ n
  in-wah e p =
      subst (λ (G : Format). n ≡ segment_count (width G) R → length (canonical G R p) ≤ n) (sym e) (λ g. rw g (most-words Wah R p)) is

pub returns-in-Ewah : goal.returns-in-Ewah
returns-in-Ewah c =
    let a = c.args in
    in-ewah a.format a.rows c.segments-segments.result c.segments-segments.ensures c.in-Ewah.is

pub returns-in-Wah : goal.returns-in-Wah
returns-in-Wah c =
    let a = c.args in
    in-wah a.format a.rows c.segments-segments.result c.segments-segments.ensures c.in-Wah.is
