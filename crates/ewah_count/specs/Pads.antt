-- The pad bits that a walk from marker to marker counts among the rows.
-- Assumes nothing.
use Rattle.std.specs.Prelude.{ℕ, ◌-◌, ◌*◌, cond, eqb}
use Rattle.meaning.specs.Segment.{segment_count}
use Rattle.meaning.specs.Ewah.{value_of, dirty_of}

-- how many pad bits of the last segment of R rows are set, where m is its marker: of a clean run all or none, by its
-- value; of a dirty word none
unfoldable pub pads_set : (R m : ℕ) → ℕ
unfolding segment_count value_of dirty_of
pads_set R m = cond (eqb (dirty_of m) 0) (value_of m * (segment_count 32 R * 32 - R)) 0
