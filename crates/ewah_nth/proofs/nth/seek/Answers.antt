-- `ewah_nth::nth::seek` meets its contract: the clean run is passed first, and then the dirty words.
-- Assumes nothing.
use Prim.Native.Nat.{ℕ, ◌+◌, ◌-◌, ◌*◌, ◌≤◌, ◌<◌}
use mathlib.Core.Path.{◌≡◌}
use mathlib.Core.List.{List, ◌++◌}
use lib.Dec.{lit<}
use lib.ListN.{length, replicate, length-replicate}
use Rattle.meaning.specs.Segment.{ones, fill, has_row}
use Rattle.laws.specs.Demands.{IsNth}
use Rattle.laws.proofs.Counting.{ones-append, nth_left, nth_right, nth-run}
use native.Mathlib.Omega.{arith}
use Rattle.ewah_nth.proofs.nth.seek.Goals as goal

-- the set row with k set rows before it, of a run with words behind it
module _ (clean value : ℕ) (ws : List ℕ) where
  abbrev both : List ℕ
  both = replicate clean (fill 32 value) ++ ws

  -- in the run it is row k
  in-run : (k : ℕ) → value < 2 → k < ones 32 (replicate clean (fill 32 value))
      → IsNth (length both * 32) (has_row 32 both) k k
  in-run k h few =
      nth_left 32 (lit< tt) (replicate clean (fill 32 value)) ws k k (nth-run 32 (lit< tt) clean value k h few)

  -- in the words it is theirs, behind the run's rows
  in_words : (j k r : ℕ) → ones 32 (replicate clean (fill 32 value)) + j ≡ k
      → IsNth (length ws * 32) (has_row 32 ws) j r → IsNth (length both * 32) (has_row 32 both) k (clean * 32 + r)
  in_words j k r e found =
      let n : length (replicate clean (fill 32 value)) ≡ clean = length-replicate clean (fill 32 value) in
      rw (n, e) at (nth_right 32 (lit< tt) (replicate clean (fill 32 value)) ws j r found)

-- what the run has and what is left
module _ (clean value run k : ℕ) (is : run ≡ ones 32 (replicate clean (fill 32 value))) where
  passed : run ≤ k → ones 32 (replicate clean (fill 32 value)) + (k - run) ≡ k
  passed h = omega (arith, is)

  neither : (ws : List ℕ) (j : ℕ) → run ≤ k → ones 32 ws + j ≡ k - run → ones 32 (replicate clean (fill 32 value) ++ ws) + j ≡ k
  neither ws j h e = omega (arith, is, e, ones-append 32 (replicate clean (fill 32 value)) ws)

pub returns-then-k-run : goal.returns-then-k-run
returns-then-k-run c =
    let few = rw c.count_run-run.ensures at c.if-k-run.true in
    in-run c.args.clean c.args.value _ c.args.k c.requires.0 few

pub returns-in-Here : goal.returns-in-Here
returns-in-Here c =
    let a = c.args in
    in_words a.clean a.value a.dirty.now _ a.k _ (passed a.clean a.value _ a.k c.count_run-run.ensures (omega (arith, c.if-k-run.false))) c.in-Here.ensures

pub returns-in-Ahead : goal.returns-in-Ahead
returns-in-Ahead c =
    let a = c.args in
    neither a.clean a.value _ a.k c.count_run-run.ensures a.dirty.now _ (omega (arith, c.if-k-run.false)) c.in-Ahead.ensures

pub returns-then-ahead-here : goal.returns-then-ahead-here
returns-then-ahead-here c =
    let a = c.args in
    in_words a.clean a.value a.dirty.now _ a.k _ (passed a.clean a.value _ a.k c.count_run-run.ensures (omega (arith, c.if-k-run.false))) c.find.ensures

pub returns : goal.returns
returns c =
    let a = c.args in
    neither a.clean a.value _ a.k c.count_run-run.ensures a.dirty.now _ (omega (arith, c.if-k-run.false))
    (omega (arith, c.count_words-here.ensures, c.if-ahead-here.false))
