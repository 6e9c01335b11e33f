-- What the histogram's numbers are where it has passed some segments, and what one stretch more does to them.
-- Assumes nothing.
use Rattle.std.specs.Prelude.{ℕ, ◌+◌, ◌-◌, ◌*◌, ◌<◌, min, ◌≡◌, List, eqb, length, get_or}
use Rattle.meaning.specs.Limits.{histogram_counts}
use Rattle.meaning.specs.Rows.{count_below}
use Rattle.meaning.specs.Segment.{all_set, rows_in}
use Rattle.meaning.specs.Format.{width}
use Rattle.meaning.specs.declared.Format.{Format}
use Rattle.laws.specs.Ahead.{StretchAt, answer_rows}
use Rattle.counters.specs.Counters.{count_at}
use Rattle.walk.specs.declared.survey.Survey.{Survey}

-- of the rows of the first o segments, how many exactly c of the bodies have
abbrev pub held_before : Format → (R : ℕ) (bodies : List (List ℕ)) (o c : ℕ) → ℕ
held_before F R bodies o c = count_below (min R (o * width F)) (answer_rows F (λ k. eqb k c) bodies)

-- the counts are the histogram of the first o segments
abbrev pub HistogramBefore : Format → (R : ℕ) (bodies : List (List ℕ)) (o : ℕ) (counts : List ℕ) → Type 0
HistogramBefore F R bodies o counts = (c : ℕ) → c < histogram_counts → get_or counts c 0 ≡ held_before F R bodies o c

-- the stretch that the survey s is of is counted in, wherever it stands and whatever bodies it is over
pub record StretchCounted (F : Format) (counts : List ℕ) (s : Survey) (mask : ℕ) (r : List ℕ) : Type 0 where
  pub long : length r ≡ histogram_counts
  pub on : (R o : ℕ) (bodies : List (List ℕ))
      → StretchAt F R bodies o s.least s.ones s.dirty (count_at s.planes)
      → mask ≡ all_set (rows_in (width F) R (o + s.least - 1))
      → HistogramBefore F R bodies o counts → HistogramBefore F R bodies (o + s.least) r
