-- Words that are mixed segments, as those under a marker are in canonical form.
-- Assumes nothing.
use Rattle.std.specs.Prelude.{ℕ, Bool, not, ◌&&◌, List, eqb}
use Rattle.std.specs.List.{list_all}

-- neither all zeros nor all ones
unfoldable pub is_mixed : ℕ → Bool
is_mixed x = not (eqb x 0) && not (eqb x 4294967295)

abbrev pub all_mixed : List ℕ → Bool
all_mixed xs = list_all is_mixed xs
