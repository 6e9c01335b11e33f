-- What one pass makes: the body of the rows before the pivot, and of those that have its value and come before the cut.
-- Assumes nothing.
use Rattle.std.specs.Prelude.{ℕ, suc, ◌-◌, ◌%◌, ◌^◌, ◌≤◌, ◌<◌, Bool, true, false, ◌&&◌, ◌||◌, ◌≡◌, List, ◌++◌, ltb, length, get_or, drop}
use Rattle.meaning.specs.Limits.{word_bits}
use Rattle.meaning.specs.Segment.{is_set, kind, all_set}
use Rattle.meaning.specs.Format.{canonical}
use Rattle.meaning.specs.Index.{format_of, row_count}
use Rattle.meaning.specs.declared.Ranking.{Ranking}
use Rattle.laws.specs.RankLaws.{ranked_body}
use Rattle.ranks.specs.Found.{rows_above, rows_level}

-- from segment o on: up to the one with the cut, that one alone, or all that are left
pub record EndOf (o at segments end : ℕ) : Type 0 where
  pub some : o < end
  pub within : end ≤ segments
  pub before : o < at → end ≤ at
  pub alone : o ≡ at → end ≡ suc o

-- of segment o the bits that lie before bit `low` of segment `at`
pub record Kept (o at low r : ℕ) : Type 0 where
  pub before : o < at → (j : ℕ) → j < word_bits → is_set r j ≡ true
  pub here : o ≡ at → (j : ℕ) → j < word_bits → is_set r j ≡ ltb j low
  pub behind : at < o → (j : ℕ) → j < word_bits → is_set r j ≡ false

-- a run's words stay; of a block's the last is written as the segment that its rows make, and the others stay
pub record Spelled (ws : List ℕ) (n : ℕ) (even : Bool) (mask full : ℕ) (r : List ℕ) : Type 0 where
  pub long : length r ≡ length ws
  pub run : even ≡ true → r ≡ ws
  pub others : even ≡ false → (i : ℕ) → suc i < n → get_or r i 0 ≡ get_or ws i 0
  pub last : even ≡ false → (w real : ℕ) → 1 ≤ real → real ≤ w → full ≡ all_set w → mask ≡ all_set real
      → kind w (get_or r (n - 1) 0) ≡ kind real (get_or ws (n - 1) 0 % 2 ^ real)

-- the rows that come before the value m, and of those that have it the ones before row `cut`
abbrev pub cut_rows : (op : Ranking) (index list : List ℕ) (m cut : ℕ) → ℕ → Bool
cut_rows op index list m cut r = rows_above index list op m r || (rows_level index list m r && ltb r cut)

-- their body
abbrev pub cut_body : (op : Ranking) (index list : List ℕ) (m cut : ℕ) → List ℕ
cut_body op index list m cut = canonical (format_of index) (row_count index) (cut_rows op index list m cut)

-- its words are counted, and stand at the front of the buffer where they are stored; else the buffer is as it was
pub record Passed (op : Ranking) (index list : List ℕ) (m cut : ℕ) (old out : List ℕ) (store : Bool) (used : ℕ) : Type 0 where
  pub words : used ≡ length (cut_body op index list m cut)
  pub stored : store ≡ true → out ≡ cut_body op index list m cut ++ drop used old
  pub kept : store ≡ false → out ≡ old

-- the words that the answer takes are told; it stands at the front of the buffer where there is room for it, and else the buffer is as
-- it was
pub record RankWritten (op : Ranking) (index list : List ℕ) (k : ℕ) (old out : List ℕ) (need : ℕ) : Type 0 where
  pub need-is : need ≡ length (ranked_body op index list k)
  pub fits : need ≤ length old → out ≡ ranked_body op index list k ++ drop need old
  pub lacks : length old < need → out ≡ old
