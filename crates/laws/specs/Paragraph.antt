-- The canonical form as the papers tell it: longest runs, and the mixed segments that follow each. Section "Settled form" of paper 01
-- for EWAH, request 4 for WAH. The laws `by_runs` of `EwahLaws` and `WahLaws` say that this is the canonical form.
-- Assumes nothing.
use Rattle.std.specs.Prelude.{ℕ, zero, suc, ◌-◌, ◌/◌, ◌*◌, cond, List, [], ◌∷◌, ◌++◌, eqb, length, take, drop, replicate}
use Rattle.meaning.specs.Limits.{most_clean, most_dirty}
use Rattle.meaning.specs.Segment.{Segment, clean, mixed}
use Rattle.meaning.specs.Ewah.{marker}
use Rattle.meaning.specs.Wah.{run_words}

-- a longest run of n equal clean segments of value v, and the mixed segments up to the next clean one.
-- n is 0 only in a first group that begins with mixed segments, and v is 0 there
pub data Group : Type 0 where
  group : (v n : ℕ) (xs : List ℕ) → Group

-- one segment in front of groups
unfoldable pub before : Segment → List Group → List Group
before (clean v) [] = group v 1 [] ∷ []
before (clean v) (group u zero xs ∷ gs) = group v 1 xs ∷ gs
before (clean v) (group u (suc n) xs ∷ gs) =
    cond (eqb v u) (group v (suc (suc n)) xs ∷ gs) (group v 1 [] ∷ group u (suc n) xs ∷ gs)
before (mixed x) [] = group 0 0 (x ∷ []) ∷ []
before (mixed x) (group u zero xs ∷ gs) = group 0 0 (x ∷ xs) ∷ gs
before (mixed x) (group u (suc n) xs ∷ gs) = group 0 0 (x ∷ []) ∷ group u (suc n) xs ∷ gs

unfoldable pub groups : List Segment → List Group
unfolding before
groups [] = []
groups (s ∷ ss) = before s (groups ss)

-- ---- EWAH

-- a marker of value v and clean count c with the dirty words xs, of which `more` further markers, of value 0 and clean
-- count 0, have what passes the most: every marker is full but the last
unfoldable pub with_dirty : (more v c : ℕ) → List ℕ → List ℕ
unfolding marker
with_dirty zero v c xs = marker v c (length xs) ∷ xs
with_dirty (suc more) v c xs = marker v c most_dirty ∷ take most_dirty xs ++ with_dirty more 0 0 (drop most_dirty xs)

-- a group's words: its run as full markers and then the remainder, the last of these with the dirty words
unfoldable pub group_words : Group → List ℕ
unfolding marker with_dirty
group_words (group v n xs) =
    let full = (n - 1) / most_clean in
    replicate full (marker v most_clean 0) ++ with_dirty ((length xs - 1) / most_dirty) v (n - full * most_clean) xs

unfoldable pub groups_words : List Group → List ℕ
unfolding group_words
groups_words [] = []
groups_words (g ∷ gs) = group_words g ++ groups_words gs

-- ---- WAH

-- how many rows the last segment of a run has, by the words behind it: `real`, those of the last of all, where there are none
unfoldable pub last_of_run : (real : ℕ) → List ℕ → ℕ
last_of_run real [] = real
last_of_run real (x ∷ xs) = 31

-- each run as one word, a lone segment as a literal and more as a fill, and then the mixed segments
unfoldable pub wah_groups_words : (real : ℕ) → List Group → List ℕ
unfolding run_words last_of_run
wah_groups_words real [] = []
wah_groups_words real (group v n xs ∷ gs) =
    let behind = xs ++ wah_groups_words real gs in
    run_words (last_of_run real behind) v n ++ behind
