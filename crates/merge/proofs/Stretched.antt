-- Cursors that stand at one segment, and their survey, are a stretch of the bodies, of either format.
-- Assumes nothing.
use Prim.Native.Nat.{ℕ, zero, suc, ◌+◌, ◌-◌, ◌*◌, ◌≤◌, ◌<◌}
use mathlib.Core.Bool.{Bool, true, false}
use mathlib.Core.Path.{◌≡◌, refl, sym, ap, ap₂, ◌∙◌, subst}
use mathlib.Core.List.{List, [], ◌∷◌, map}
use native.Mathlib.Omega.{arith}
use native.Mathlib.Decide.{dec_le}
use lib.ListN.{length, get_or, drop, length-map}
use Rattle.meaning.specs.Rows.{bit, sum_below, count_below}
use Rattle.meaning.specs.Segment.{fill, is_set, bit_at, segment_count}
use Rattle.meaning.specs.Piece.{Piece, clean_run, dirty_word, run_then}
use Rattle.meaning.specs.Format.{width, most_run, pieces_of, segments_of, rows_of}
use Rattle.meaning.specs.declared.Format.{Format}
use Rattle.meaning.specs.declared.Format.TheVariants.{Ewah, Wah}
use Rattle.meaning.specs.Question.{held, ends_at, is_in, ends_from}
use Rattle.meaning.specs.Index.{body_at}
use Rattle.laws.specs.Laws.{SoundFacts}
use Rattle.laws.specs.Ahead.{Ahead, rest_of, held_at, StretchAt}
use Rattle.laws.proofs.Formats.{width-pos, width-le, facts-count}
use Rattle.laws.proofs.RowWords.{has-at}
use Rattle.laws.proofs.Sums.{sum-ext, sum-add, held-map}
use Rattle.laws.proofs.Even.{bit-fill}
use Rattle.laws.proofs.Walked.{ahead-run, ahead-dirty, no_end, an-end, ends-none, ends_some, count-stretch}
use Rattle.ewah.specs.declared.cursor.Cursor.{Cursor}
use Rattle.ewah.specs.declared.cursor.Piece as code
use Rattle.ewah.specs.declared.cursor.Piece.TheVariants.{Clean, Dirty}
use Rattle.ewah.specs.Cursors.{ValueLow, left_of, piece_then, pieces_from}
use Rattle.bodies.proofs.Spans.{ahead_of}
use Rattle.counters.specs.Counters.{count_at}
use Rattle.words.proofs.BitLaws.{bit-set}
use Rattle.walk.specs.declared.survey.Survey.{Survey}
use Rattle.walk.specs.Queries.{cursor_of, CursorAt, Standing, place_body}
use Rattle.walk.specs.Surveys.{ones_in, dirty_in, bit_in, least_below, Surveyed}
use Rattle.walk.proofs.Places.{some_left, left-size, left-within}

-- ---- the least of some numbers

least-le : (m : ℕ) (f : ℕ → ℕ) (i : ℕ) → i < m → least_below m f ≤ f i
unfolding least_below
least-le zero f i h = absurd (omega arith)
least-le (suc m) f i h = elim (dec_le (suc i) m) [
  | yes l ↦ omega (arith, least-le m f i l)
  | no l ↦ let is : i ≡ m = omega arith in rw is (omega arith)
]

least-ge : (m : ℕ) (f : ℕ → ℕ) (k : ℕ) → k ≤ 4294967295 → ((i : ℕ) → i < m → k ≤ f i) → k ≤ least_below m f
unfolding least_below
least-ge zero f k l h = l
least-ge (suc m) f k l h = omega (arith, least-ge m f k l (λ i g. h i (omega arith)), h m (omega arith))

-- it is one of them
least-one : (m : ℕ) (f : ℕ → ℕ) → ((i : ℕ) → i < m → f i ≤ 4294967295) → 1 ≤ m → (i : ℕ) × (i < m) × (least_below m f ≡ f i)
unfolding least_below
least-one zero f h g = absurd (omega arith)
least-one (suc zero) f h g = (0, omega arith, omega (arith, h 0 (omega arith)))
least-one (suc (suc m)) f h g =
    let r = least-one (suc m) f (λ i l. h i (omega arith)) (omega arith) in
    elim (dec_le (least_below (suc m) f) (f (suc m))) [
      | yes l ↦ (r.0, omega (arith, r.1), omega (arith, r.2))
      | no l ↦ (suc m, omega arith, omega arith)
    ]

-- some term of a sum that is not zero is not zero
some-term : (m : ℕ) (f : ℕ → ℕ) → (sum_below m f ≡ 0 → ⊥) → (i : ℕ) × (i < m) × (1 ≤ f i)
unfolding sum_below
some-term zero f h = absurd (h refl)
some-term (suc m) f h = elim (dec_le 1 (f m)) [
  | yes l ↦ (m, omega arith, l)
  | no l ↦ let r = some-term m f (λ z. h (omega arith)) in (r.0, omega (arith, r.1), r.2)
]

no-term : (m : ℕ) (f : ℕ → ℕ) → sum_below m f ≡ 0 → (i : ℕ) → i < m → f i ≡ 0
unfolding sum_below
no-term zero f e i h = absurd (omega arith)
no-term (suc m) f e i h = elim (dec_le (suc i) m) [
  | yes l ↦ no-term m f (omega arith) i l
  | no l ↦ let is : i ≡ m = omega arith in rw is (omega arith)
]

-- ---- one cursor

-- 32 bits hold the longest run
run-low : (F : Format) → most_run F ≤ 4294967295
run-low Ewah = omega arith
run-low Wah = omega arith

-- a row of a body is a bit of one of its segments
pub row-bit : (F : Format) (b : List ℕ) (i j : ℕ) → j < width F
    → rows_of F b (i * width F + j) ≡ is_set (get_or (segments_of F b) i 0) j
unfolding rows_of is_set bit_at
row-bit F b i j h = has-at (width F) (width-pos F) (segments_of F b) i j h

module _ (F : Format) (b : List ℕ) (o : ℕ) (c : Cursor) (a : CursorAt F b o c) where
  abbrev w : ℕ
  w = width F

  abbrev segs : List ℕ
  segs = segments_of F b

  -- the ends of the body's pieces
  abbrev ends : List ℕ
  ends = ends_from 0 (pieces_of F b)

  abbrev others : List Piece
  others = rest_of F c.dirty (drop c.next b)

  module _ (l : o < length (segments_of F b)) where
    -- row j of every segment of a run, and of the segment of a dirty word
    pub row-run : dirty_in c.piece ≡ 0 → (i : ℕ) → o ≤ i → i < o + left_of c.piece
        → (j : ℕ) → j < width F → bit (rows_of F b (i * width F + j)) ≡ ones_in c.piece
    row-run z i g h j k = rw (row-bit F b i j k) (go c.piece refl z h)
      where
        go : (q : code.Piece) → c.piece ≡ q → dirty_in q ≡ 0 → i < o + left_of q
            → bit (is_set (get_or segs i 0) j) ≡ ones_in q
        go (Dirty x) e z h = absurd (omega arith)
        go (Clean v zero) e z h = absurd (omega arith)
        go (Clean v (suc n)) e z h =
            let f : Ahead F b o (clean_run v (suc n) ∷ others) =
            unfold piece_then run_then in ahead_of F b o c a.ahead (Clean v (suc n)) e in
            let at : o + (i - o) ≡ i = omega arith in
            let word : get_or segs i 0 ≡ fill w v =
            ap (λ (m : ℕ). get_or segs m 0) (sym at) ∙ ahead-run F b o v (suc n) others f (i - o) (omega arith) in
            let low : v < 2 = subst ValueLow e a.in_order.value_low in
            rw word (bit-fill w v j low k)

    row_first : (j : ℕ) → j < width F → bit (rows_of F b (o * width F + j)) ≡ ones_in c.piece + bit_in c.piece j
    row_first j k = go c.piece refl
      where
        go : (q : code.Piece) → c.piece ≡ q → bit (rows_of F b (o * w + j)) ≡ ones_in q + bit_in q j
        go (Clean v n) e =
            let l' : o < o + left_of c.piece = omega (arith, some_left F b o c a l) in
            omega (arith, row-run (ap dirty_in e) o (omega arith) l' j k, ap ones_in e)
        go (Dirty x) e =
            let f : Ahead F b o (dirty_word x ∷ others) = unfold piece_then in ahead_of F b o c a.ahead (Dirty x) e in
            rw (row-bit F b o j k, ahead-dirty F b o x others f) (omega (arith, bit-set x j))

    -- its piece ends at the end of what is left, and not before
    left-no-end : (e : ℕ) → o < e → e < o + left_of c.piece → is_in (ends_from 0 (pieces_of F b)) e ≡ false
    left-no-end e g h = no_end F b o (pieces_from F b c) a.ahead e g (omega (arith, left-size F b o c a l))

    left_end : is_in (ends_from 0 (pieces_of F b)) (o + left_of c.piece) ≡ true
    left_end =
        ap (λ (m : ℕ). is_in ends (o + m)) (sym (left-size F b o c a l))
        ∙ an-end F b o (pieces_from F b c) a.ahead (omega (arith, left-size F b o c a l, some_left F b o c a l))

-- ---- all of them

map_at : (f : ℕ → List ℕ) (xs : List ℕ) (i : ℕ) → i < length xs → get_or (map f xs) i [] ≡ f (get_or xs i 0)
map_at f [] i h = absurd (omega arith)
map_at f (x ∷ xs) zero h = refl
map_at f (x ∷ xs) (suc i) h = map_at f xs i (omega arith)

-- a dirty word is one segment
dirty-left : (q : code.Piece) → 1 ≤ dirty_in q → left_of q ≡ 1
dirty-left (Clean v n) h = absurd (omega arith)
dirty-left (Dirty x) h = refl

module _ (F : Format) (index list : List ℕ) (cs : List Cursor) (R o : ℕ) (s : Survey) where
  abbrev m : ℕ
  m = length list

  abbrev bodies : List (List ℕ)
  bodies = map (body_at index) list

  abbrev body : ℕ → List ℕ
  body i = place_body index list i

  abbrev cursor : ℕ → Cursor
  cursor i = cursor_of cs i

  abbrev piece : ℕ → code.Piece
  piece i = (cursor_of cs i).piece

  -- body n has row r
  abbrev has : (r n : ℕ) → ℕ
  has r n = bit (rows_of F (body n) r)

  module _ (sound : (i : ℕ) → i < m → SoundFacts F R (body i)) (st : Standing F index list cs m o)
      (su : Surveyed cs m s) (some : 1 ≤ m) (l : o < segment_count (width F) R) where
    inside : (i : ℕ) → i < m → o < length (segments_of F (body i))
    inside i h = omega (arith, facts-count F R (body i) (sound i h))

    pub least-left : (i : ℕ) → i < m → s.least ≤ left_of (piece i)
    least-left i h = omega (arith, su.least-is, least-le m (λ k. left_of (piece k)) i h)

    within : (i : ℕ) → i < m → o + left_of (piece i) ≤ segment_count (width F) R
    within i h =
        omega (
          arith,
          facts-count F R (body i) (sound i h),
          left-within F (body i) o (cursor i) (st i h) (inside i h),
        )

    low : (i : ℕ) → i < m → left_of (piece i) ≤ 4294967295
    low i h = omega (arith, run-low F, (st i h).in_order.left-low)

    pub least-low : s.least ≤ most_run F
    least-low = omega (arith, least-left 0 some, (st 0 some).in_order.left-low)

    least-some : 1 ≤ s.least
    least-some =
        omega (
          arith,
          su.least-is,
          least-ge m (λ k. left_of (piece k)) 1 (omega arith)
              (λ i h. some_left F (body i) o (cursor i) (st i h) (inside i h)),
        )

    held-is : (r : ℕ) → held (map (rows_of F) bodies) r ≡ sum_below m (has r)
    held-is r =
        held-map (rows_of F) [] bodies r
        ∙ ap (λ (n : ℕ). sum_below n (λ i. bit (rows_of F (get_or bodies i []) r))) (length-map list (body_at index))
        ∙ sum-ext m (λ i. bit (rows_of F (get_or bodies i []) r)) (has r)
        (λ i h. ap (λ (b : List ℕ). bit (rows_of F b r)) (map_at (body_at index) list i h))

    clean : s.dirty ≡ 0 → (i : ℕ) → o ≤ i → i < o + s.least → (j : ℕ) → j < width F → held_at F bodies i j ≡ s.ones
    unfolding held_at
    clean z i g h j k =
        held-is (i * width F + j)
        ∙ sum-ext m (has (i * width F + j)) (λ n. ones_in (piece n))
        (λ n f. row-run F (body n) o (cursor n) (st n f) (inside n f) (none n f) i g
        (omega (arith, least-left n f)) j k)
        ∙ sym su.ones_is
      where
        none : (n : ℕ) → n < m → dirty_in (piece n) ≡ 0
        none n f = no-term m (λ k. dirty_in (piece k)) (sym su.dirty-is ∙ z) n f

    single : (s.dirty ≡ 0 → ⊥) → s.least ≡ 1
    single h =
        let r = some-term m (λ k. dirty_in (piece k)) (λ z. h (su.dirty-is ∙ z)) in
        omega (arith, least-left r.0 r.1, dirty-left (piece r.0) r.2, least-some)

    mixed : (j : ℕ) → j < width F → held_at F bodies o j ≡ s.ones + count_at s.planes j
    unfolding held_at
    mixed j k =
        held-is (o * width F + j)
        ∙ sum-ext m (has (o * width F + j)) (λ n. ones_in (piece n) + bit_in (piece n) j)
        (λ n f. row_first F (body n) o (cursor n) (st n f) (inside n f) j k)
        ∙ sum-add m (λ n. ones_in (piece n)) (λ n. bit_in (piece n) j)
        ∙ ap₂ (λ (x y : ℕ). x + y) (sym su.ones_is) (sym (su.counts j (omega (arith, width-le F))))

    ends_of : (i e : ℕ) → i < m → (t : Bool) → is_in (ends_from 0 (pieces_of F (body i))) e ≡ t
        → is_in (ends_from 0 (pieces_of F (get_or bodies i []))) e ≡ t
    ends_of i e h t g = rw (map_at (body_at index) list i h) g

    short : (i : ℕ) → i < length bodies → i < m
    short i h = rw (length-map list (body_at index)) at h

    next : count_below (o + s.least) (ends_at F bodies) ≡ count_below o (ends_at F bodies) + 1
    next = count-stretch (ends_at F bodies) o s.least least-some quiet last
      where
        quiet : (e : ℕ) → o ≤ e → suc e < o + s.least → ends_at F bodies e ≡ false
        quiet e g h =
            ends-none F bodies e
            (λ i f. let q = short i f in
            ends_of i (suc e) q false
            (left-no-end F (body i) o (cursor i) (st i q) (inside i q) (suc e) (omega arith)
            (omega (arith, least-left i q))))

        last : ends_at F bodies (o + s.least - 1) ≡ true
        last =
            let r = least-one m (λ k. left_of (piece k)) low some in
            let i = r.0 in
            let is : suc (o + s.least - 1) ≡ o + left_of (piece i) = omega (arith, r.2, su.least-is, least-some) in
            let f : i < length bodies = rw (length-map list (body_at index)) r.1 in
            ends_some F bodies (o + s.least - 1) i f
            (ends_of i (suc (o + s.least - 1)) r.1 true
            (rw is (left_end F (body i) o (cursor i) (st i r.1) (inside i r.1))))

    -- the stretch that the survey is of
    pub stretch : StretchAt F R bodies o s.least s.ones s.dirty (count_at s.planes)
    stretch = record {
      some = least-some;
      within = omega (arith, least-left 0 some, within 0 some);
      clean = clean;
      single = single;
      mixed = λ h j k. mixed j k;
      next = next;
    }
