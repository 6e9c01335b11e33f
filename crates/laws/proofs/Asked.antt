-- Questions on one sound body, answered from the set bits of its segments.
-- Assumes nothing.
use Prim.Native.Nat.{ℕ, ◌+◌, ◌-◌, ◌*◌, ◌≤◌, ◌<◌}
use mathlib.Core.Bool.{Bool}
use mathlib.Core.Path.{◌≡◌, sym, ap, ◌∙◌, subst}
use mathlib.Core.List.{List, ◌++◌, append_assoc}
use lib.Dec.{lit<}
use lib.ListN.{length, take, drop, replicate, take-append-drop}
use lib.Seq.{length-take-le}
use native.Mathlib.Omega.{arith}
use borrow.Author.Tests.{le-leb, lt-leb}
use Rattle.meaning.specs.Rows.{count_below}
use Rattle.meaning.specs.Segment.{has_row, ones, fill, segment_count}
use Rattle.meaning.specs.Refusal.{refused, answer, refuse_if}
use Rattle.meaning.specs.Ewah.{segments}
use Rattle.meaning.specs.Format.{width, segments_of, rows_of}
use Rattle.meaning.specs.declared.Format.{Format}
use Rattle.meaning.specs.Answer.{ask_nth}
use Rattle.laws.specs.Demands.{IsNth}
use Rattle.laws.proofs.Counted.{nth-eq, nth-below}
use Rattle.laws.proofs.Counting.{ones-append, count-rows, nth-row, nth-over, nth_left, nth_right}
use Rattle.laws.proofs.Formats.{width-pos}
use Rattle.laws.proofs.Walk.{Step}

-- ---- the set bits of the segments behind a walk from marker to marker of an EWAH body

pub ones_step : (b : List ℕ) (i o v c d : ℕ) → Step b i o v c d
    → ones 32 (take (o + c + d) (segments b)) ≡ ones 32 (take o (segments b)) + ones 32 (replicate c (fill 32 v) ++ take d (drop (i + 1) b))
ones_step b i o v c d s = rw s.more (ones-append 32 (take o (segments b)) (replicate c (fill 32 v) ++ take d (drop (i + 1) b)))

-- the marker's segments, between those behind and those ahead
between : (b : List ℕ) (i o v c d : ℕ) → Step b i o v c d
    → segments b ≡ take o (segments b) ++ (replicate c (fill 32 v) ++ take d (drop (i + 1) b) ++ drop (o + c + d) (segments b))
between b i o v c d s =
    let run = replicate c (fill 32 v) ++ take d (drop (i + 1) b) in
    let ahead = drop (o + c + d) (segments b) in
    sym (take-append-drop (o + c + d) (segments b)) ∙ ap (λ (l : List ℕ). l ++ ahead) s.more ∙ append_assoc (take o (segments b)) run ahead

pub nth-step : (b : List ℕ) (i o v c d : ℕ) → Step b i o v c d → (k r : ℕ)
    → let xs = replicate c (fill 32 v) ++ take d (drop (i + 1) b) in
    IsNth (length xs * 32) (has_row 32 xs) k r
    → IsNth (length (segments b) * 32) (has_row 32 (segments b)) (ones 32 (take o (segments b)) + k) (o * 32 + r)
nth-step b i o v c d s k r a =
    let t = take o (segments b) in
    let xs = replicate c (fill 32 v) ++ take d (drop (i + 1) b) in
    let ahead = drop (o + c + d) (segments b) in
    let n : length t ≡ o = length-take-le o (segments b) (omega (arith, s.counts)) in
    let all : IsNth (length (t ++ (xs ++ ahead)) * 32) (has_row 32 (t ++ (xs ++ ahead))) (ones 32 t + k) (length t * 32 + r) =
    nth_right 32 (lit< tt) t (xs ++ ahead) k r (nth_left 32 (lit< tt) xs ahead k r a) in
    subst (λ (l : List ℕ). IsNth (length l * 32) (has_row 32 l) (ones 32 t + k) (o * 32 + r)) (sym (between b i o v c d s)) (rw n at all)

-- ---- a body with as many segments as R rows have

module _ (F : Format) (R : ℕ) (b : List ℕ) (count : length (segments_of F b) ≡ segment_count (width F) R) where
  abbrev w : ℕ
  w = width F

  -- its segments, and their set bits as rows
  abbrev segs : List ℕ
  segs = segments_of F b

  abbrev has : ℕ → Bool
  has = has_row w segs

  -- the set bits are the set rows, and the pad bits that a run of ones sets
  pub rows-count : ones (width F) (segments_of F b)
      ≡ count_below R (rows_of F b) + count_below (length (segments_of F b) * width F - R) (λ r. rows_of F b (R + r))
  unfolding rows_of
  rows-count = count-rows w (width-pos F) R segs count

  -- a set bit that is a row
  pub nth-found : (n r : ℕ) → IsNth (length (segments_of F b) * width F) (has_row (width F) (segments_of F b)) n r → r < R
      → ask_nth R (rows_of F b) n ≡ answer r
  unfolding rows_of ask_nth refuse_if
  nth-found n r a h =
      let i : IsNth R has n r = nth-row w (width-pos F) R segs n r a h in
      rw (lt-leb (count_below R has) n (nth-below R has n r i), nth-eq R has n r i)

  -- a set bit past the last row
  pub nth-pad : (n r : ℕ) → IsNth (length (segments_of F b) * width F) (has_row (width F) (segments_of F b)) n r → R ≤ r
      → ask_nth R (rows_of F b) n ≡ refused 8 0 0
  unfolding rows_of ask_nth refuse_if
  nth-pad n r a h = rw (le-leb (count_below R has) n (nth-over w (width-pos F) R segs n r a h))

  -- no such set bit
  pub nth_past : (n : ℕ) → ones (width F) (segments_of F b) ≤ n → ask_nth R (rows_of F b) n ≡ refused 8 0 0
  unfolding ask_nth refuse_if
  nth_past n h = rw (le-leb (count_below R (rows_of F b)) n (omega (arith, rows-count)))
