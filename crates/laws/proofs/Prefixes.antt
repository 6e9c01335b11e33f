-- The draft of the first segments of a list: it grows by one segment at a time, stays within the canonical form of the whole list, and ends there.
-- Assumes nothing.
use Prim.Native.Nat.{ℕ, ◌+◌, ◌*◌, ◌≤◌, ◌<◌}
use mathlib.Core.Path.{◌≡◌, sym, ap, ◌∙◌}
use mathlib.Core.List.{List, [], ◌∷◌, foldl, foldl-append}
use lib.ListN.{length, take, drop, get_or, take-append-drop, length-take}
use lib.Seq.{take-suc, take_all}
use native.Mathlib.Omega.{arith}
use native.Mathlib.Numerals.{add-one}
use Rattle.meaning.specs.Segment.{Segment, clean, kind, kinds, rows_in, segment_count}
use Rattle.meaning.specs.Canonical.{Draft, blank, body, put, ewah_of}
use Rattle.laws.proofs.Least.{puts-grow, puts-add}
use Rattle.laws.proofs.Segments.{kinds-length}
use Rattle.laws.proofs.Cut.{kinds-at}

-- of the first i segments
abbrev pub up_to : List Segment → ℕ → Draft
up_to ss i = foldl put blank (take i ss)

pub up_to-more : (ss : List Segment) (i : ℕ) (s : Segment) → i < length ss → up_to ss (i + 1) ≡ put (up_to ss i) (get_or ss i s)
up_to-more ss i s h =
    ap (λ (k : ℕ). up_to ss k) (add-one i)
    ∙ ap (λ (l : List Segment). foldl put blank l) (take-suc ss i s h)
    ∙ foldl-append put blank (take i ss) (get_or ss i s ∷ [])

-- where the segments are those of words
pub up_to-word : (R : ℕ) (xs : List ℕ) (i : ℕ) → length xs ≡ segment_count 32 R → i < length xs
    → up_to (kinds 32 R xs) (i + 1) ≡ put (up_to (kinds 32 R xs) i) (kind (rows_in 32 R i) (get_or xs i 0))
up_to-word R xs i n h =
    up_to-more (kinds 32 R xs) i (clean 0) (omega (arith, kinds-length 32 R xs))
    ∙ ap (λ (s : Segment). put (up_to (kinds 32 R xs) i) s) (kinds-at 32 (omega arith) R xs i (clean 0) n (omega arith))

pub up_to-all : (ss : List Segment) (i : ℕ) → length ss ≤ i → body (up_to ss i) ≡ ewah_of ss
unfolding ewah_of
up_to-all ss i h = rw (take_all i ss h)

pub up_to-within : (ss : List Segment) (i : ℕ) → length (body (up_to ss i)) ≤ length (ewah_of ss)
unfolding ewah_of
up_to-within ss i =
    let e : foldl put (up_to ss i) (drop i ss) ≡ foldl put blank ss = sym (foldl-append put blank (take i ss) (drop i ss)) ∙ rw take-append-drop in
    omega (arith, puts-grow (up_to ss i) (drop i ss), ap (λ (d : Draft). length (body d)) e)

pub up_to-low : (ss : List Segment) (i : ℕ) → length (body (up_to ss i)) ≤ 2 * i
unfolding body
up_to-low ss i = omega (arith, puts-add blank (take i ss), length-take i ss)
