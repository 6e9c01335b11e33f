-- The segments of the piece that has segment s: among pieces, and among those of a body from one of its words on.
-- Assumes nothing.
use Prim.Native.Nat.{ℕ, zero, suc, ◌+◌, ◌-◌, ◌*◌, ◌/◌, ◌≤◌, ◌<◌}
use mathlib.Core.Path.{◌≡◌, sym, ap, ◌∙◌, subst}
use mathlib.Core.List.{List, [], ◌∷◌}
use lib.ListN.{length, drop, get_or, length-drop}
use lib.Seq.{drop-cons, drop-drop}
use native.Mathlib.Omega.{arith}
use native.Mathlib.Numerals.{add-one}
use native.Mathlib.Decide.{dec_le}
use native.Mathlib.Nat.{div-lt_iff_lt-mul}
use borrow.Author.Tests.{lt-ltb, le-ltb}
use Rattle.meaning.specs.Segment.{fill, segment_count}
use Rattle.meaning.specs.Piece.{Piece, clean_run, dirty_word, run_then, piece_size, flat}
use Rattle.meaning.specs.Ewah.{value_of, clean_of, dirty_of, pieces}
use Rattle.meaning.specs.Wah.{piece_of, wah_pieces}
use Rattle.meaning.specs.Extent.{Span, span_at}
use Rattle.meaning.specs.Format.{width, pieces_of, segments_of}
use Rattle.laws.specs.Laws.{SoundFacts}
use Rattle.meaning.specs.declared.Format.{Format}
use Rattle.laws.proofs.RowWords.{rows_fit}
use Rattle.laws.proofs.Formats.{width-pos, spells, facts-count}
use Rattle.laws.proofs.Pieces.{flat-length}
use Rattle.laws.proofs.Ends.{Fine, AllFine, run_at, run_past}

abbrev pub span_of : (from size : ℕ) → Span
span_of from size = record { from = from; size = size }

-- behind a piece its segments are those of the pieces that follow
flat-past : (w : ℕ) (p : Piece) (ps : List Piece) (i : ℕ) → get_or (flat w (p ∷ ps)) (piece_size p + i) 0 ≡ get_or (flat w ps) i 0
unfolding flat piece_size
flat-past w (clean_run v n) ps i = run_past n (fill w v) (flat w ps) i
flat-past w (dirty_word x) ps i = let e : 1 + i ≡ suc i = omega arith in rw e

-- segments that are all the same clean one, in pieces behind o segments
pub record Alike (w o : ℕ) (ps : List Piece) (x : Span) : Type 0 where
  pub v : ℕ
  pub is-value : v < 2
  pub behind : o ≤ x.from
  pub each : (i : ℕ) → x.from ≤ i → i < x.from + x.size → get_or (flat w ps) (i - o) 0 ≡ fill w v

alike-first : (w most o : ℕ) (p : Piece) (ps : List Piece) → Fine most p → 2 ≤ piece_size p → Alike w o (p ∷ ps) (span_of o (piece_size p))
unfolding flat piece_size
alike-first w most o (clean_run v n) ps f l =
    record { v = v; is-value = f.0; behind = omega arith; each = λ i h g. run_at n (fill w v) (flat w ps) (i - o) (omega arith) }
alike-first w most o (dirty_word x) ps f l = absurd (omega arith)

alike-later : (w o : ℕ) (p : Piece) (ps : List Piece) (x : Span) → Alike w (o + piece_size p) ps x → Alike w o (p ∷ ps) x
alike-later w o p ps x a = record {
  v = a.v;
  is-value = a.is-value;
  behind = omega (arith, a.behind);
  each = λ i h g.
      let e : i - o ≡ piece_size p + (i - (o + piece_size p)) = omega (arith, a.behind) in
      ap (λ (k : ℕ). get_or (flat w (p ∷ ps)) k 0) e ∙ flat-past w p ps (i - (o + piece_size p)) ∙ a.each i h g;
}

module _ (s : ℕ) where
  -- ---- the first piece has it, or one behind it

  pub span-here : (o : ℕ) (p : Piece) (ps : List Piece) → s < o + piece_size p → span_at o (p ∷ ps) s ≡ span_of o (piece_size p)
  unfolding span_at
  span-here o p ps h = rw (lt-ltb s (o + piece_size p) h)

  pub span-later : (o : ℕ) (p : Piece) (ps : List Piece) → o + piece_size p ≤ s → span_at o (p ∷ ps) s ≡ span_at (o + piece_size p) ps s
  unfolding span_at
  span-later o p ps h = rw (le-ltb s (o + piece_size p) h)

  -- ---- a marker's run, which is no piece where it has no segments

  run-here : (o v c : ℕ) (ps : List Piece) → o ≤ s → s < o + c → span_at o (run_then v c ps) s ≡ span_of o c
  unfolding run_then piece_size
  run-here o v zero ps h g = absurd (omega arith)
  run-here o v (suc c) ps h g = span-here o _ ps g

  run-later : (o v c : ℕ) (ps : List Piece) → o + c ≤ s → span_at o (run_then v c ps) s ≡ span_at (o + c) ps s
  unfolding run_then piece_size
  run-later o v zero ps h = let e : o + 0 ≡ o = omega arith in rw e
  run-later o v (suc c) ps h = span-later o _ ps h

  -- ---- its dirty words, each a piece

  dirty-here : (o d : ℕ) (ws : List ℕ) → d ≤ length ws → o ≤ s → s < o + d → span_at o (pieces d ws) s ≡ span_of s 1
  unfolding pieces piece_size
  dirty-here o zero ws n h g = absurd (omega arith)
  dirty-here o (suc d) [] n h g = absurd (omega arith)
  dirty-here o (suc d) (w ∷ ws) n h g = elim (dec_le (o + 1) s) [
    | yes k ↦ span-later o (dirty_word w) (pieces d ws) k ∙ dirty-here (o + 1) d ws (omega arith) k (omega arith)
    | no k ↦
        let e : o ≡ s = omega arith in
        span-here o (dirty_word w) (pieces d ws) (omega arith) ∙ ap (λ (z : ℕ). span_of z 1) e
  ]

  dirty-later : (o d : ℕ) (ws : List ℕ) → d ≤ length ws → o + d ≤ s
      → span_at o (pieces d ws) s ≡ span_at (o + d) (pieces 0 (drop d ws)) s
  unfolding pieces piece_size
  dirty-later o zero ws n h = let e : o + 0 ≡ o = omega arith in rw e
  dirty-later o (suc d) [] n h = absurd (omega arith)
  dirty-later o (suc d) (w ∷ ws) n h =
      let e : o + 1 + d ≡ o + suc d = omega arith in
      span-later o (dirty_word w) (pieces d ws) (omega arith)
      ∙ subst (λ (z : ℕ). span_at (o + 1) (pieces d ws) s ≡ span_at z (pieces 0 (drop d ws)) s) e
      (dirty-later (o + 1) d ws (omega arith) (omega arith))

  -- ---- from the marker at word i of an EWAH body on, with o segments behind, c in its run and d dirty words

  pub record AtMarker (b : List ℕ) (i o c d : ℕ) : Type 0 where
    pub in-run : o ≤ s → s < o + c → span_at o (pieces 0 (drop i b)) s ≡ span_of o c
    pub in_words : o + c ≤ s → s < o + c + d → span_at o (pieces 0 (drop i b)) s ≡ span_of s 1
    pub behind : o + c + d ≤ s → span_at o (pieces 0 (drop i b)) s ≡ span_at (o + c + d) (pieces 0 (drop (i + 1 + d) b)) s

  pub at-marker : (b : List ℕ) (i o c d : ℕ) → i < length b → i + 1 + d ≤ length b
      → c ≡ clean_of (get_or b i 0) → d ≡ dirty_of (get_or b i 0) → AtMarker b i o c d
  unfolding pieces
  at-marker b i o c d h fits ec ed =
      let m = get_or b i 0 in
      let ws = drop (i + 1) b in
      let n : d ≤ length ws = omega (arith, length-drop (i + 1) b) in
      let cons : drop i b ≡ m ∷ ws = drop-cons b i 0 h ∙ ap (λ (k : ℕ). m ∷ drop k b) (sym (add-one i)) in
      let its : pieces 0 (drop i b) ≡ run_then (value_of m) c (pieces d ws) = rw (cons, ec, ed) in
      record {
        in-run = λ l g. rw its (run-here o (value_of m) c (pieces d ws) l g);
        in_words = λ l g.
            rw its
            (run-later o (value_of m) c (pieces d ws) l ∙ dirty-here (o + c) d ws n l g);
        behind = λ l.
            rw its
            (run-later o (value_of m) c (pieces d ws) (omega arith)
            ∙ dirty-later (o + c) d ws n l
            ∙ ap (λ (ys : List ℕ). span_at (o + c + d) (pieces 0 ys) s) (drop-drop d (i + 1) b));
      }

  -- ---- from word i of a WAH body on

  pub record AtWord (b : List ℕ) (i o n : ℕ) : Type 0 where
    pub in-it : s < o + n → span_at o (wah_pieces (drop i b)) s ≡ span_of o n
    pub behind : o + n ≤ s → span_at o (wah_pieces (drop i b)) s ≡ span_at (o + n) (wah_pieces (drop (i + 1) b)) s

  pub at-word : (b : List ℕ) (i o n : ℕ) → i < length b → n ≡ piece_size (piece_of (get_or b i 0)) → AtWord b i o n
  unfolding wah_pieces
  at-word b i o n h e =
      let p = piece_of (get_or b i 0) in
      let ps = wah_pieces (drop (i + 1) b) in
      let cons : wah_pieces (drop i b) ≡ p ∷ ps =
      ap wah_pieces (drop-cons b i 0 h ∙ ap (λ (k : ℕ). get_or b i 0 ∷ drop k b) (sym (add-one i))) in
      record {
        in-it = λ g. rw (cons, e) (span-here o p ps (omega arith));
        behind = λ g. rw (cons, e) (span-later o p ps (omega arith));
      }

  -- ---- it has segment s, and lies among those of the pieces

  pub record Within (w o : ℕ) (ps : List Piece) : Type 0 where
    pub low : (span_at o ps s).from ≤ s
    pub high : s < (span_at o ps s).from + (span_at o ps s).size
    pub ends : (span_at o ps s).from + (span_at o ps s).size ≤ o + length (flat w ps)

  pub within : (w o : ℕ) (ps : List Piece) → o ≤ s → s < o + length (flat w ps) → Within w o ps
  unfolding flat
  within w o [] h g = absurd (omega arith)
  within w o (p ∷ ps) h g = elim (dec_le (o + piece_size p) s) [
    | yes k ↦
        let e : span_at o (p ∷ ps) s ≡ span_at (o + piece_size p) ps s = span-later o p ps k in
        let i = within w (o + piece_size p) ps k (omega (arith, flat-length w p ps)) in
        record { low = rw e i.low; high = rw e i.high; ends = rw e (omega (arith, i.ends, flat-length w p ps)) }
    | no k ↦
        let e : span_at o (p ∷ ps) s ≡ span_of o (piece_size p) = span-here o p ps (omega arith) in
        record { low = rw e h; high = rw e (omega arith); ends = rw e (omega (arith, flat-length w p ps)) }
  ]

  -- where it is more than one segment, all of them are the same clean one
  pub alike : (w most o : ℕ) (ps : List Piece) → AllFine most ps → o ≤ s → s < o + length (flat w ps)
      → 2 ≤ (span_at o ps s).size → Alike w o ps (span_at o ps s)
  unfolding flat
  alike w most o [] f h g l = absurd (omega arith)
  alike w most o (p ∷ ps) f h g l = elim (dec_le (o + piece_size p) s) [
    | yes k ↦
        let e : span_at o (p ∷ ps) s ≡ span_at (o + piece_size p) ps s = span-later o p ps k in
        let many : 2 ≤ (span_at (o + piece_size p) ps s).size = rw e at l in
        let on = alike w most (o + piece_size p) ps f.1 k (omega (arith, flat-length w p ps)) many in
        subst (λ (x : Span). Alike w o (p ∷ ps) x) (sym e) (alike-later w o p ps (span_at (o + piece_size p) ps s) on)
    | no k ↦
        let e : span_at o (p ∷ ps) s ≡ span_of o (piece_size p) = span-here o p ps (omega arith) in
        let many : 2 ≤ piece_size p = rw e at l in
        subst (λ (x : Span). Alike w o (p ∷ ps) x) (sym e) (alike-first w most o p ps f.0 many)
  ]

-- ---- of a sound body: a row's segment is one of its own, and lies in its piece

module _ (F : Format) (R : ℕ) (b : List ℕ) (facts : SoundFacts F R b) (r : ℕ) (h : r < R) where
  pub segment-within : r / width F < length (segments_of F b)
  segment-within =
      let l : r < segment_count (width F) R * width F = omega (arith, rows_fit (width F) (width-pos F) R) in
      let i : r / width F < segment_count (width F) R = (div-lt_iff_lt-mul (width-pos F)).1 l in
      omega (arith, facts-count F R b facts)

  pub own-within : Within (r / width F) (width F) 0 (pieces_of F b)
  own-within = within (r / width F) (width F) 0 (pieces_of F b) (omega arith) (omega (arith, segment-within, ap length (spells F b)))
