-- A walk from word to word of a body: what the words behind it spell, with the word where it stands, and the last word.
-- Assumes nothing.
use Prim.Native.Nat.{ℕ, ◌+◌, ◌-◌, ◌*◌, ◌≤◌, ◌<◌}
use mathlib.Core.Path.{◌≡◌, sym, ap, ◌∙◌}
use mathlib.Core.List.{List, [], ◌∷◌, ◌++◌}
use lib.Dec.{lit<}
use lib.ListN.{length, take, drop, get_or, length-append, take-append-drop, get_or-replicate, get_or-append}
use lib.Seq.{get_or-append-add, take_all}
use native.Mathlib.Omega.{arith}
use Rattle.meaning.specs.Limits.{most_rows, most_segments}
use Rattle.meaning.specs.Rows.{count_below}
use Rattle.meaning.specs.Refusal.{refused, answer}
use Rattle.meaning.specs.Segment.{has_row, ones, segment_count, pads}
use Rattle.meaning.specs.Piece.{piece_size}
use Rattle.meaning.specs.Wah.{piece_of, wah_segments, wah_rows}
use Rattle.meaning.specs.Format.{rows_of}
use Rattle.meaning.specs.declared.Format.TheVariants.{Wah}
use Rattle.meaning.specs.Answer.{ask_nth}
use Rattle.laws.specs.Laws.{WahFacts}
use Rattle.laws.specs.Demands.{IsNth}
use Rattle.laws.proofs.Counting.{ones-append, ones-le, nth_left, nth_right, count-rows}
use Rattle.laws.proofs.Asked.{nth-found, nth-pad, nth_past}
use Rattle.laws.proofs.WahBody.{segments-append}
use Rattle.wah.specs.Words.{Spells}
use Rattle.wah.proofs.Spelled.{spells-none, spells_at, spells-split, spells-next, spells-size}

-- ---- behind word i

-- how many segments, and how many of their bits are set
abbrev pub segments_behind : List ℕ → (i : ℕ) → ℕ
segments_behind b i = length (wah_segments (take i b))

abbrev pub ones_behind : List ℕ → (i : ℕ) → ℕ
ones_behind b i = ones 31 (wah_segments (take i b))

module _ (b : List ℕ) (i : ℕ) where
  -- all segments are those behind and those ahead
  in_two : wah_segments b ≡ wah_segments (take i b) ++ wah_segments (drop i b)
  in_two = ap wah_segments (sym (take-append-drop i b)) ∙ segments-append (take i b) (drop i b)

  pub segments-behind : segments_behind b i ≤ length (wah_segments b)
  segments-behind = omega (arith, ap length in_two, length-append (wah_segments (take i b)) (wah_segments (drop i b)))

  pub ones-behind : ones_behind b i ≤ length (wah_segments b) * 31
  ones-behind = omega (arith, segments-behind, ones-le 31 (wah_segments (take i b)))

  module _ (h : i < length b) where
    abbrev here : List ℕ
    here = wah_segments (get_or b i 0 ∷ [])

    pub segments-next : segments_behind b (i + 1) ≡ segments_behind b i + piece_size (piece_of (get_or b i 0))
    segments-next =
        omega (arith, ap length (spells-next b i h), length-append (wah_segments (take i b)) here, spells-size (get_or b i 0))

    pub ones-next : ones_behind b (i + 1) ≡ ones_behind b i + ones 31 (wah_segments (get_or b i 0 ∷ []))
    ones-next = ap (ones 31) (spells-next b i h) ∙ ones-append 31 (wah_segments (take i b)) here

    -- a set bit of the word's segments is one of the body's, with those of the o segments behind before it
    pub nth_here : (o n k r : ℕ) → o ≡ segments_behind b i → ones_behind b i + k ≡ n
        → IsNth (length (wah_segments (get_or b i 0 ∷ [])) * 31) (has_row 31 (wah_segments (get_or b i 0 ∷ []))) k r
        → IsNth (length (wah_segments b) * 31) (has_row 31 (wah_segments b)) n (o * 31 + r)
    nth_here o n k r e f a =
        let t = wah_segments (take i b) in
        let rest = wah_segments (drop (i + 1) b) in
        let all : IsNth (length (t ++ (here ++ rest)) * 31) (has_row 31 (t ++ (here ++ rest))) (ones 31 t + k) (length t * 31 + r) =
        nth_right 31 (lit< tt) t (here ++ rest) k r (nth_left 31 (lit< tt) here rest k r a) in
        rw (spells-split b i h, e) (rw f at all)

    -- ---- among the segments from word i on, of which y is the word of its n

    module _ (n : ℕ) (size : n ≡ piece_size (piece_of (get_or b i 0))) where
      its-length : length here ≡ n
      its-length = spells-size (get_or b i 0) ∙ sym size

      pub segments-on : length (wah_segments (drop i b)) ≡ n + length (wah_segments (drop (i + 1) b))
      segments-on =
          omega (arith, ap length (spells_at b i h), length-append here (wah_segments (drop (i + 1) b)), its-length)

      pub segment-here : (k y : ℕ) → k < n → Spells (get_or b i 0) y → y ≡ get_or (wah_segments (drop i b)) k 0
      segment-here k y l s =
          sym (ap (λ (xs : List ℕ). get_or xs k 0) (spells_at b i h)
          ∙ get_or-append here (wah_segments (drop (i + 1) b)) 0 k (omega (arith, its-length))
          ∙ ap (λ (xs : List ℕ). get_or xs k 0) s
          ∙ get_or-replicate (piece_size (piece_of (get_or b i 0))) k y 0 (omega arith))

      pub segment-later : (k : ℕ) → n ≤ k
          → get_or (wah_segments (drop i b)) k 0 ≡ get_or (wah_segments (drop (i + 1) b)) (k - n) 0
      segment-later k l =
          let e : length here + (k - n) ≡ k = omega (arith, its-length) in
          ap (λ (xs : List ℕ). get_or xs k 0) (spells_at b i h)
          ∙ ap (λ (j : ℕ). get_or (here ++ wah_segments (drop (i + 1) b)) j 0) (sym e)
          ∙ get_or-append-add here (wah_segments (drop (i + 1) b)) (k - n) 0

-- ---- where it begins and ends

pub none-behind : (b : List ℕ) → (segments_behind b 0 ≡ 0) × (ones_behind b 0 ≡ 0)
unfolding ones
none-behind b = (ap length spells-none, ap (ones 31) spells-none)

pub all-behind : (b : List ℕ) (i : ℕ) → length b ≤ i → ones_behind b i ≡ ones 31 (wah_segments b)
all-behind b i h = ap (λ (ws : List ℕ). ones 31 (wah_segments ws)) (take_all i b h)

-- ---- a sound body of R rows

module _ (R : ℕ) (b : List ℕ) (low : R ≤ most_rows) (facts : WahFacts R b) where
  -- its segments are few
  pub segments-few : length (wah_segments b) ≤ most_segments
  unfolding segment_count
  segments-few = omega (arith, facts.count)

  -- so are those of a word
  pub word-few : (i : ℕ) → i < length b → piece_size (piece_of (get_or b i 0)) ≤ most_segments
  word-few i h = omega (arith, segments-few, segments-behind b (i + 1), segments-next b i h)

  -- the set bits are the set rows, and the pad bits that a fill of ones sets
  pub rows-counted : ones 31 (wah_segments b) ≡ count_below R (wah_rows b) + pads 31 R (wah_segments b)
  unfolding wah_rows
  rows-counted = count-rows 31 (lit< tt) R (wah_segments b) facts.count

  -- the set bit with n set bits before it, as a row of the body: it is below R, or a pad bit; or there is none
  pub row-found : (n r : ℕ) → IsNth (length (wah_segments b) * 31) (has_row 31 (wah_segments b)) n r → r < R
      → answer r ≡ ask_nth R (wah_rows b) n
  unfolding rows_of wah_rows
  row-found n r a h = sym (nth-found Wah R b facts.count n r a h)

  pub pad-found : (n r : ℕ) → IsNth (length (wah_segments b) * 31) (has_row 31 (wah_segments b)) n r → R ≤ r
      → refused 8 0 0 ≡ ask_nth R (wah_rows b) n
  unfolding rows_of wah_rows
  pad-found n r a h = sym (nth-pad Wah R b facts.count n r a h)

  pub none_found : (n : ℕ) → ones 31 (wah_segments b) ≤ n → refused 8 0 0 ≡ ask_nth R (wah_rows b) n
  unfolding rows_of wah_rows
  none_found n h = sym (nth_past Wah R b facts.count n h)
