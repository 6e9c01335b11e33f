-- How the k-th value is found, digit by digit from the top one down, for contracts of the code that does it. No rule of a
-- paper is here.
-- Assumes nothing.
use Rattle.std.specs.Prelude.{ℕ, ◌+◌, ◌/◌, ◌^◌, ◌≤◌, Bool, ◌&&◌, ◌≡◌, eqb}
use Rattle.meaning.specs.Rows.{count_below}
use Rattle.column_meaning.specs.Ranking.{ahead}
use Rattle.meaning.specs.declared.Ranking.{Ranking}
use Rattle.meaning.specs.declared.Ranking.TheVariants.{Largest, Smallest}

-- the rows that come before the value m
abbrev pub above : (op : Ranking) (exists : ℕ → Bool) (v : ℕ → ℕ) (m : ℕ) → ℕ → Bool
above op exists v m r = exists r && ahead op (v r) m

-- and those that have it
abbrev pub level : (exists : ℕ → Bool) (v : ℕ → ℕ) (m : ℕ) → ℕ → Bool
level exists v m r = exists r && eqb (v r) m

-- the digit that comes first
abbrev pub lead : Ranking → ℕ
lead Largest = 1
lead Smallest = 0

-- how many rows come before P by their digits from place i on
abbrev pub ahead_from : (op : Ranking) (R : ℕ) (exists : ℕ → Bool) (v : ℕ → ℕ) (i P : ℕ) → ℕ
ahead_from op R exists v i P = count_below R (above op exists (λ r. v r / 2 ^ i) P)

-- how many have the digits P there
abbrev pub level_from : (R : ℕ) (exists : ℕ → Bool) (v : ℕ → ℕ) (i P : ℕ) → ℕ
level_from R exists v i P = count_below R (level exists (λ r. v r / 2 ^ i) P)

-- the k-th value has the digits P from place i on: the rows that come before P, and `take` of those that have P, are k
pub record Narrowed (op : Ranking) (R : ℕ) (exists : ℕ → Bool) (v : ℕ → ℕ) (k i P take : ℕ) : Type 0 where
  pub counts : ahead_from op R exists v i P + take ≡ k
  pub some : take ≤ level_from R exists v i P
