-- Where an entry and a body lie in an index.
-- Assumes nothing.
use Prim.Native.Nat.{ℕ, suc, ◌+◌, ◌-◌, ◌≤◌, ◌<◌}
use mathlib.Core.Path.{◌≡◌}
use mathlib.Core.List.{List}
use native.Mathlib.Omega.{arith}
use lib.ListN.{length, take, drop, length-drop}
use lib.Seq.{length-take-le}
use Rattle.meaning.specs.Index.{bitmap_count, entry_place, start_of, length_of, body_place, body_at}
use Rattle.laws.specs.Laws.{HeadFacts, EntryFacts}

-- an entry lies within the index
pub entry-within : (index : List ℕ) (k : ℕ) → HeadFacts index → k < bitmap_count index → entry_place index k + 1 < length index
unfolding entry_place
entry-within index k h l = omega (arith, h.contents)

-- a body lies within the index
pub body-within : (index : List ℕ) (k : ℕ) → EntryFacts index → k < bitmap_count index → start_of index k + length_of index k ≤ length index
unfolding body_place
body-within index k f h = omega (arith, f.starts k h, f.ends (suc k) h)

-- the part that is body k
pub body-part : (index : List ℕ) (k s l : ℕ) → s ≡ start_of index k → l ≡ length_of index k → take (s + l - s) (drop s index) ≡ body_at index k
unfolding body_at
body-part index k s l e f = let z : s + l - s ≡ l = omega arith in rw (z, e, f)

-- the length of a body
pub body-length : (index : List ℕ) (k : ℕ) → EntryFacts index → k < bitmap_count index → length (body_at index k) ≡ length_of index k
unfolding body_at
body-length index k f h = length-take-le (length_of index k) (drop (start_of index k) index) (omega (arith, length-drop (start_of index k) index, body-within index k f h))
