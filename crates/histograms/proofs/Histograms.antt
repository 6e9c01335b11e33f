-- The histogram's loop: how the numbers grow over a stretch, what holds where it has passed o segments, and its end.
-- Assumes nothing.
use Prim.Native.Nat.{ℕ, ◌+◌, ◌-◌, ◌*◌, ◌≤◌, ◌<◌, min}
use mathlib.Core.Bool.{Bool, true, ◌&&◌, and-true}
use mathlib.Core.Path.{◌≡◌, refl, sym, ap, ◌∙◌}
use mathlib.Core.List.{List, map}
use lib.Dec.{eqb, ltb}
use lib.ListN.{length, get_or, set, length-set}
use lib.Seq.{ext_get_or, get_or-set_same, get_or-set_other}
use native.Mathlib.Nat.{zero-mul, one-mul, add-mul}
use native.Mathlib.Decide.{ℕ_discrete}
use native.Mathlib.Omega.{arith}
use borrow.Author.Tests.{eq-eqb, ne_eqb}
use Rattle.meaning.specs.Limits.{most_rows, most_named, histogram_counts}
use Rattle.meaning.specs.Rows.{count_below}
use Rattle.meaning.specs.Segment.{is_set, segment_count, rows_in, all_set, tabulate}
use Rattle.meaning.specs.Format.{width, rows_of}
use Rattle.meaning.specs.declared.Format.{Format}
use Rattle.meaning.specs.Index.{format_of, row_count}
use Rattle.meaning.specs.Question.{histogram_of}
use Rattle.laws.specs.Ahead.{StretchAt, answer_rows}
use Rattle.laws.proofs.Formats.{width-pos, width-le}
use Rattle.laws.proofs.Counting.{count-ext, count-le, count-all}
use Rattle.laws.proofs.RowWords.{length-tabulate, get_d_tabulate, begins, rows_fit}
use Rattle.laws.proofs.Cut.{rows-le}
use Rattle.laws.proofs.Evaluated.{mask-bit, count_cut, count-in, count-out, count-mixed}
use Rattle.counters.specs.Counters.{count_at}
use Rattle.ewah.specs.declared.cursor.Cursor.{Cursor}
use Rattle.walk.specs.declared.survey.Survey.{Survey}
use Rattle.walk.specs.Surveys.{MovedAll}
use Rattle.merge.specs.Merges.{bodies_of}
use Rattle.histograms.specs.Histograms.{held_before, HistogramBefore, StretchCounted}
use Rattle.merge.proofs.Along.{Along, NextStretch, along-more}

-- ---- one stretch

-- the word of so many rows has a bit set for each, and no other
mask-bits : (real j : ℕ) → real ≤ 32 → j < 32 → is_set (all_set real) j ≡ ltb (0 + j) real
unfolding all_set rows_in
mask-bits real j h l =
    let e : min 32 (real - 0 * 32) ≡ real = omega arith in
    let e' : 0 * 32 + j ≡ 0 + j = omega arith in
    rw (e, e') at (mask-bit 32 (omega arith) real 0 j l)

-- counted among its bits, so many of its rows are in q as among the first ones of all
mask-count : (real : ℕ) (q : ℕ → Bool) → real ≤ 32
    → count_below 32 (λ j. is_set (all_set real) j && q j) ≡ count_below real q
mask-count real q h =
    let e : min real (0 + 32) - 0 ≡ real = omega arith in
    count-ext 32 (λ j. is_set (all_set real) j && q j) (λ j. ltb (0 + j) real && q j)
    (λ j l. ap (λ (b : Bool). b && q j) (mask-bits real j h l))
    ∙ count_cut 0 32 real q (omega arith)
    ∙ ap (λ (k : ℕ). count_below k q) e

mask-all : (real : ℕ) → real ≤ 32 → count_below 32 (is_set (all_set real)) ≡ real
mask-all real h =
    count-ext 32 (is_set (all_set real)) (λ j. is_set (all_set real) j && true)
    (λ j l. sym (and-true (is_set (all_set real) j)))
    ∙ mask-count real (λ j. true) h
    ∙ count-all real (λ j. true) (λ j l. refl)

module _ (F : Format) (counts : List ℕ) (s : Survey) (mask : ℕ) where
  abbrev w : ℕ
  w = width F

  -- how many rows a clean stretch has
  abbrev clean_rows : ℕ
  clean_rows = (s.least - 1) * width F + count_below 32 (is_set mask)

  -- the numbers with those counted in
  abbrev grown : List ℕ
  grown = set counts s.ones (get_or counts s.ones 0 + clean_rows)

  -- exactly c of the bodies have row j, in a stretch with a dirty word
  abbrev exactly : (c j : ℕ) → Bool
  exactly c j = eqb (s.ones + count_at s.planes j) c

  -- how many rows of the mask those are
  abbrev rows_at : (c : ℕ) → ℕ
  rows_at c = count_below 32 (λ j. is_set mask j && exactly c j)

  module _ (R o : ℕ) (bodies : List (List ℕ))
      (st : StretchAt F R bodies o s.least s.ones s.dirty (count_at s.planes))
      (m : mask ≡ all_set (rows_in (width F) R (o + s.least - 1))) (t : HistogramBefore F R bodies o counts) where
    -- its last segment, and the rows of that
    abbrev i : ℕ
    i = o + s.least - 1

    abbrev real : ℕ
    real = rows_in w R i

    real-le : real ≤ 32
    real-le = omega (arith, rows-le w (width-pos F) R i, width-le F)

    before : i * w ≤ R
    before = omega (arith, begins w (width-pos F) R i (omega (arith, st.some, st.within)))

    -- they are all rows from its start on, up to its end
    real-is : real ≡ min R (i * w + w) - i * w
    unfolding rows_in
    real-is = omega (arith, before)

    rows_in_lem : clean_rows ≡ min R ((o + s.least) * w) - o * w
    rows_in_lem =
        let end : i + 1 ≡ o + s.least = omega (arith, st.some) in
        let sum : o + (s.least - 1) ≡ i = omega (arith, st.some) in
        let e : (i + 1) * w ≡ i * w + 1 * w = add-mul i 1 w in
        let e' : (o + (s.least - 1)) * w ≡ o * w + (s.least - 1) * w = add-mul o (s.least - 1) w in
        omega (
          arith,
          (rw end at e),
          (rw sum at e'),
          one-mul w,
          ap (λ (x : ℕ). count_below 32 (is_set x)) m,
          mask-all real real-le,
          real-is,
          before,
        )

    on-clean : s.dirty ≡ 0 → s.ones < length counts → HistogramBefore F R bodies (o + s.least) grown
    on-clean z h c l = go (ℕ_discrete c s.ones)
      where
        go : Dec (c ≡ s.ones) → get_or grown c 0 ≡ held_before F R bodies (o + s.least) c
        go (yes e) =
            let put = get_or-set_same counts s.ones (get_or counts s.ones 0 + clean_rows) 0 h in
            let same : get_or grown c 0 ≡ get_or counts s.ones 0 + clean_rows = ap (λ (k : ℕ). get_or grown k 0) e ∙ put in
            let was : get_or counts s.ones 0 ≡ held_before F R bodies o c = ap (λ (k : ℕ). get_or counts k 0) (sym e) ∙ t c l in
            omega (
              arith,
              same,
              was,
              rows_in_lem,
              count-in F R (λ k. eqb k c) bodies o s.least s.ones s.dirty (count_at s.planes) st z
                  (eq-eqb s.ones c (sym e)),
            )
        go (no e) =
            get_or-set_other counts s.ones c _ 0 e
            ∙ t c l
            ∙ sym (count-out F R (λ k. eqb k c) bodies o s.least s.ones s.dirty (count_at s.planes) st z
            (ne_eqb s.ones c (λ q. e (sym q))))

    on-mixed : (s.dirty ≡ 0 → ⊥) → (r : List ℕ)
        → ((c : ℕ) → c < histogram_counts → get_or r c 0 ≡ get_or counts c 0 + rows_at c)
        → HistogramBefore F R bodies (o + s.least) r
    on-mixed d r g c l =
        let here : i ≡ o = omega (arith, st.single d) in
        let rows : rows_at c ≡ count_below real (exactly c) =
        ap (λ (x : ℕ). count_below 32 (λ j. is_set x j && exactly c j)) m ∙ mask-count real (exactly c) real-le in
        let its : count_below w (λ j. ltb (o * w + j) R && exactly c j) ≡ count_below real (exactly c) =
        ap (λ (k : ℕ). count_below w (λ j. ltb (k * w + j) R && exactly c j)) (sym here)
        ∙ count_cut (i * w) w R (exactly c) before
        ∙ ap (λ (k : ℕ). count_below k (exactly c)) (sym real-is) in
        omega (
          arith,
          g c l,
          t c l,
          rows,
          count-mixed F R (λ k. eqb k c) bodies o s.least s.ones s.dirty (count_at s.planes) st d,
          its,
        )

  pub clean-counted : length counts ≡ histogram_counts → s.ones ≤ most_named → s.dirty ≡ 0
      → StretchCounted F counts s mask grown
  clean-counted n h z = record {
    long = length-set counts s.ones _ ∙ n;
    on = λ R o bodies st m t. on-clean R o bodies st m t z (omega arith);
  }

  pub mixed-counted : (s.dirty ≡ 0 → ⊥) → (r : List ℕ) → length r ≡ histogram_counts
      → ((c : ℕ) → c < histogram_counts → get_or r c 0 ≡ get_or counts c 0 + rows_at c)
      → StretchCounted F counts s mask r
  mixed-counted d r n g = record { long = n; on = λ R o bodies st m t. on-mixed R o bodies st m t d r g }

-- ---- all

-- a list whose entries are known
tabulated : (n : ℕ) (f : ℕ → ℕ) (xs : List ℕ) → length xs ≡ n → ((c : ℕ) → c < n → get_or xs c 0 ≡ f c)
    → xs ≡ tabulate n f
tabulated n f xs e h =
    ext_get_or 0 xs (tabulate n f) (e ∙ sym (length-tabulate n f))
    (λ c l. let k : c < n = omega arith in h c k ∙ sym (get_d_tabulate n f c k))

-- the cursors are on their way at segment o, and the counts are the histogram of the first o segments
pub record Counting (index list : List ℕ) (cs : List Cursor) (s : Survey) (counts : List ℕ) (o : ℕ) : Type 0 where
  pub along : Along index list cs s o
  pub long : length counts ≡ histogram_counts
  pub counted : HistogramBefore (format_of index) (row_count index) (bodies_of index list) o counts

module _ {index list : List ℕ} {cs : List Cursor} {s : Survey} {counts : List ℕ} where
  pub counting-none : Along index list cs s 0 → length counts ≡ histogram_counts
      → ((c : ℕ) → c < histogram_counts → get_or counts c 0 ≡ 0) → Counting index list cs s counts 0
  counting-none a n z = record {
    along = a;
    long = n;
    counted = λ c l.
        omega (
          arith,
          z c l,
          zero-mul (width (format_of index)),
          count-le (min (row_count index) (0 * width (format_of index)))
              (answer_rows (format_of index) (λ k. eqb k c) (bodies_of index list)),
        );
  }

  module _ {o : ℕ} (g : Counting index list cs s counts o) where
    abbrev I : Format
    I = format_of index

    abbrev R : ℕ
    R = row_count index

    abbrev bodies : List (List ℕ)
    bodies = bodies_of index list

    pub entries-low : row_count index ≤ most_rows → (c : ℕ) → c < histogram_counts → get_or counts c 0 ≤ most_rows
    entries-low h c l =
        omega (arith, g.counted c l, count-le (min R (o * width I)) (answer_rows I (λ k. eqb k c) bodies))

    pub counting_more : NextStretch index list cs s o
        → {mask : ℕ} → mask ≡ all_set (rows_in (width (format_of index)) (row_count index) (o + s.least - 1))
        → {r : List ℕ} → StretchCounted (format_of index) counts s mask r
        → {cs' : List Cursor} {s' : Survey} → MovedAll (format_of index) index list cs s.least cs' s'
        → Counting index list cs' s' r (o + s.least)
    counting_more n m t mv = record {
      along = along-more g.along n mv;
      long = t.long;
      counted = t.on R o bodies n.is m g.counted;
    }

    pub counting-all : segment_count (width (format_of index)) (row_count index) ≤ o
        → counts ≡ histogram_of (row_count index) (map (rows_of (format_of index)) (bodies_of index list))
    unfolding histogram_of answer_rows
    counting-all h =
        let is : segment_count (width I) R ≡ o = omega (arith, g.along.here) in
        let end : min R (o * width I) ≡ R = omega (arith, (rw is at (rows_fit (width I) (width-pos I) R))) in
        tabulated histogram_counts (λ c. count_below R (answer_rows I (λ k. eqb k c) bodies)) counts g.long
        (λ c l. g.counted c l ∙ ap (λ (k : ℕ). count_below k (answer_rows I (λ k'. eqb k' c) bodies)) end)
