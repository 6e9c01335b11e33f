-- What a walk over an EWAH body tests at each marker, to know whether the body is in canonical form.
-- Assumes nothing.
use Rattle.std.specs.Prelude.{ℕ, Bool, cond, not, ◌&&◌, eqb, ltb}
use Rattle.meaning.specs.Limits.{most_clean, most_dirty}

-- behind a marker (v, c, d) the marker (v', c', d') may stand: it has a clean run that the first could not take, or dirty words that
-- it could not
unfoldable pub follows_of : (v c d v' c' d' : ℕ) → Bool
follows_of v c d v' c' d' =
    cond (eqb c' 0)
    (eqb v' 0 && not (eqb d' 0) && eqb d most_dirty)
    (not (eqb d 0 && eqb v v' && ltb c most_clean))
