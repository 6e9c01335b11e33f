-- The segments of an answer in one stretch.
-- Assumes nothing.
use Rattle.std.specs.Prelude.{ℕ, ◌+◌, ◌-◌, ◌≤◌, ◌<◌, ◌≡◌, List, [], ◌∷◌, take, drop, replicate}
use Rattle.meaning.specs.Segment.{Segment, clean, kind, all_set, rows_in}
use Rattle.meaning.specs.Format.{width, most_run}
use Rattle.meaning.specs.declared.Format.{Format}
use Rattle.laws.specs.Ahead.{StretchAt, answer_segments}
use Rattle.counters.specs.Counters.{count_at}
use Rattle.walk.specs.declared.survey.Survey.{Survey}
use Rattle.merge.specs.declared.evaluate.Operation.{Operation}
use Rattle.merge.specs.declared.evaluate.Part.{Part}
use Rattle.merge.specs.declared.evaluate.Part.TheVariants.{Run, Word}
use Rattle.merge.specs.Operations.{chosen}

-- the segments of a part
abbrev pub part_segments : Format → Part → List Segment
part_segments F (Run v n) = replicate n (clean v)
part_segments F (Word x) = kind (width F) x ∷ []

-- its numbers are in range: a marker, or a fill, can hold the run
abbrev pub PartLow : Format → Part → Type 0
PartLow F (Run v n) = (v < 2) × (1 ≤ n) × (n ≤ most_run F)
PartLow F (Word x) = Unit {0}

-- the part of a stretch that the survey s is of, wherever it stands and whatever bodies it is over; the mask has the
-- rows of its last segment
pub record Evaluated (F : Format) (op : Operation) (table : List ℕ) (s : Survey) (mask : ℕ) (p : Part) : Type 0 where
  pub low : 1 ≤ s.least → s.least ≤ most_run F → PartLow F p
  pub segments : (R o : ℕ) (bodies : List (List ℕ))
      → StretchAt F R bodies o s.least s.ones s.dirty (count_at s.planes)
      → mask ≡ all_set (rows_in (width F) R (o + s.least - 1))
      → part_segments F p ≡ take s.least (drop o (answer_segments F R (chosen op table) bodies))
