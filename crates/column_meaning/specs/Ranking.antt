-- The k rows that come first by their values: the largest, or the smallest. Algorithm 4.1 of source document 002 has the largest, for k from
-- 1 on; request 8 adds the smallest, a k of 0 and the order of ties. No index, refusal or buffer is known here.
-- Assumes nothing.
use Rattle.std.specs.Prelude.{ℕ, Bool, ◌&&◌, ◌||◌, eqb, ltb}
use Rattle.meaning.specs.Rows.{count_below}
use Rattle.meaning.specs.declared.Ranking.{Ranking}
use Rattle.meaning.specs.declared.Ranking.TheVariants.{Largest, Smallest}

-- the value x comes before the value y: as the larger, or as the smaller
unfoldable pub ahead : Ranking → (x y : ℕ) → Bool
ahead Largest x y = ltb y x
ahead Smallest x y = ltb x y

-- row s comes before row r: it exists, and its value comes before r's, or is the same and s is the lower row
unfoldable pub precedes : Ranking → (exists : ℕ → Bool) (value : ℕ → ℕ) (r s : ℕ) → Bool
unfolding ahead
precedes op exists value r s = exists s && (ahead op (value s) (value r) || (eqb (value s) (value r) && ltb s r))

-- row r is among the first k of R rows: it exists, and fewer than k rows come before it. `RankLaws` says what this makes of them
unfoldable pub first_rows : Ranking → (R : ℕ) (exists : ℕ → Bool) (value : ℕ → ℕ) (k : ℕ) → ℕ → Bool
unfolding count_below precedes
first_rows op R exists value k r = exists r && ltb (count_below R (precedes op exists value r)) k
