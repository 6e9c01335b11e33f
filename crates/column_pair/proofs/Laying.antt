-- What an operation makes of two columns: measured, laid out, and written.
-- Assumes nothing.
use Prim.Native.Nat.{ℕ, zero, suc, ◌+◌, ◌-◌, ◌*◌, ◌≤◌, ◌<◌}
use mathlib.Core.Bool.{Bool, true, false, true≢false}
use mathlib.Core.Path.{◌≡◌, refl, sym, ap, ◌∙◌, subst}
use mathlib.Core.List.{List, [], ◌∷◌, ◌++◌, map, append-nil}
use lib.ListN.{length, get_or, take, drop, length-map, drop_of_length-le}
use lib.Seq.{take_all}
use native.Mathlib.Numerals.{add-one}
use native.Mathlib.Omega.{arith}
use Rattle.meaning.specs.Limits.{most_segments, head_words, entry_words}
use Rattle.meaning.specs.Format.{kind_of, canonical}
use Rattle.meaning.specs.declared.Format.{Format}
use Rattle.meaning.specs.Index.{format_of, row_count}
use Rattle.meaning.specs.Question.{total_words}
use Rattle.meaning.specs.NewIndex.{contents_end, entries_of, index_of}
use Rattle.column_meaning.specs.Column.{column_of}
use Rattle.column_meaning.specs.Columns.{pair_column}
use Rattle.meaning.specs.declared.Pairing.{Pairing}
use Rattle.meaning.specs.Rows.{none}
use Rattle.laws.proofs.NewIndexes.{canonical-words, length-is, total-more, at_map}
use Rattle.laws.proofs.ColumnValues.{slices-length}
use Rattle.ewah_write.specs.declared.writer.Writer.{Writer}
use Rattle.ewah_write.proofs.Pushing.{drop_more}
use Rattle.new_index.specs.Writers.{writer_of, region, Laid}
use Rattle.new_index.specs.Layouts.{StartsOf, Headed}
use Rattle.new_index.proofs.Regions.{region-length}
use Rattle.new_index.proofs.LaidOut.{assembled-out, contents-are}
use Rattle.pairs.specs.Passes.{Columns, body_of, PassedTo}
use Rattle.laws.specs.ColumnLaws.{pair_index}

-- places that are all 0 are in order
pub nowhere-laid : (zs : List ℕ) (count n : ℕ) → count < length zs → ((i : ℕ) → get_or zs i 0 ≡ 0) → Laid zs count n
nowhere-laid zs count n h z = record { many = h; rising = λ i j a b. omega (arith, z i, z j); within = omega (arith, z count) }

-- a pass whose bodies have no places leaves the buffer
pub nothing-kept : (zs old out : List ℕ) (k : ℕ) → ((i : ℕ) → get_or zs i 0 ≡ 0) → drop (get_or zs k 0) out ≡ drop (get_or zs k 0) old → out ≡ old
nothing-kept zs old out k z h = rw (z k) at h

-- and it needs no room
pub none-stored : (op : Pairing) (index first second : List ℕ) (n : ℕ) (starts out : List ℕ) → false ≡ true
    → (i : ℕ) → i ≤ n → length (body_of op index first second n i) ≤ length (region starts out i)
none-stored op index first second n starts out e i h = absurd (true≢false (sym e))

-- a head that is written by other names of the format, the buffer and the rows
pub headed-as : {F G : Format} {old old' : List ℕ} {rows rows' : ℕ} (starts : List ℕ) (count : ℕ) (out : List ℕ) (m : ℕ)
    → F ≡ G → old ≡ old' → rows ≡ rows' → Headed F old rows starts count out m → Headed G old' rows' starts count out m
headed-as starts count out m e f g h = rw (← e, ← f, ← g) h

module _ (op : Pairing) (index first second : List ℕ) (n : ℕ) (cs : Columns index first second n) where
  abbrev F : Format
  F = format_of index

  abbrev R : ℕ
  R = row_count index

  abbrev ps : List (ℕ → Bool)
  ps = pair_column index op n first second

  abbrev bs : List (List ℕ)
  bs = map (canonical F R) ps

  ps-length : length ps ≡ suc n
  unfolding pair_column column_of
  ps-length = ap suc (slices-length _ _ 0 n)

  bs-length : length bs ≡ suc n
  bs-length = length-map ps (canonical F R) ∙ ps-length

  body_is : (i : ℕ) → i ≤ n → body_of op index first second n i ≡ get_or bs i []
  body_is i h = sym (at_map F R ps i (omega (arith, ps-length)))

  pub body-low : (i : ℕ) → length (body_of op index first second n i) ≤ 2 * most_segments
  body-low i = omega (arith, canonical-words F R (get_or ps i none) cs.facts.head.few-rows)

  module _ (ws : List Writer) (starts : List ℕ) (used : (i : ℕ) → i ≤ n → (writer_of ws i).used ≡ length (body_of op index first second n i))
      (st : StartsOf ws (n + 1) (head_words + entry_words * (n + 1)) starts) where
    -- where each body lies
    places : (k : ℕ) → k ≤ length bs → get_or starts k 0 ≡ contents_end (length bs) + total_words (take k bs)
    unfolding total_words contents_end
    places zero h = st.first ∙ omega (arith, bs-length)
    places (suc k) h =
        omega (
          arith,
          places k (omega arith),
          total-more bs k (omega arith),
          ap (λ (j : ℕ). get_or starts j 0) (add-one k),
          st.next k (omega (arith, bs-length)),
          used k (omega (arith, bs-length)),
          ap length (body_is k (omega (arith, bs-length))),
        )

    end : get_or starts (n + 1) 0 ≡ contents_end (length bs) + total_words bs
    end =
        ap (λ (j : ℕ). get_or starts j 0) (add-one n ∙ sym bs-length)
        ∙ places (length bs) (omega arith)
        ∙ ap (λ (l : List (List ℕ)). contents_end (length bs) + total_words l) (take_all (length bs) bs (omega arith))

    pub need-is : get_or starts (n + 1) 0 ≡ length (pair_index op index first second n)
    unfolding index_of
    need-is = end ∙ sym (length-is F R bs)

    steps : (k : ℕ) → k ≤ n → get_or starts (k + 1) 0 ≡ get_or starts k 0 + length (body_of op index first second n k)
    steps k h = st.next k (omega arith) ∙ ap (λ (j : ℕ). get_or starts k 0 + j) (used k h)

    rising : (d i : ℕ) → i + d ≤ n + 1 → get_or starts i 0 ≤ get_or starts (i + d) 0
    rising zero i h = let z : i + 0 ≡ i = omega arith in rw z (omega arith)
    rising (suc d) i h = let z : i + suc d ≡ (i + d) + 1 = omega arith in rw z (omega (arith, rising d i (omega arith), steps (i + d) (omega arith)))

    pub laid : (room : ℕ) → get_or starts (n + 1) 0 ≤ room → Laid starts (n + 1) room
    laid room h = record {
      many = omega (arith, st.long, cs.few);
      rising = λ i j a b. let z : i + (j - i) ≡ j = omega arith in subst (λ (k : ℕ). get_or starts i 0 ≤ get_or starts k 0) z (rising (j - i) i (omega arith));
      within = h;
    }

    -- behind the contents
    pub contents-fit : head_words + entry_words * (n + 1) ≤ get_or starts (n + 1) 0
    contents-fit = let z : 0 + (n + 1) ≡ n + 1 = omega arith in omega (arith, st.first, rw z at (rising (n + 1) 0 (omega arith)))

    -- each body's part is just as long
    pub exact : (out : List ℕ) (i : ℕ) → get_or starts (n + 1) 0 ≤ length out → i ≤ n → length (region starts out i) ≡ length (body_of op index first second n i)
    exact out i h l = region-length starts out (n + 1) i (laid (length out) h) (omega arith) ∙ omega (arith, steps i l)

    -- ---- written

    module _ (old mid out : List ℕ) (ws' : List Writer) (room : get_or starts (n + 1) 0 ≤ length old) (hd : Headed (format_of index) old (row_count index) starts (n + 1) mid (n + 1))
        (ps' : PassedTo op index first second n starts mid out ws' true) where
      parts : (k : ℕ) → k < length bs → region starts out k ≡ get_or bs k []
      parts k h =
          let l : k ≤ n = omega (arith, bs-length) in
          ps'.stored refl k l
          ∙ ap (λ (x : List ℕ). body_of op index first second n k ++ x)
          (drop_of_length-le (region starts mid k) {i = length (body_of op index first second n k)} (omega (arith, exact mid k (omega (arith, hd.long)) l)))
          ∙ append-nil (body_of op index first second n k)
          ∙ body_is k l

      front-is : take (contents_end (length bs)) out ≡ kind_of F ∷ R ∷ length bs ∷ entries_of (contents_end (length bs)) bs
      front-is =
          let place : contents_end (length bs) ≡ get_or starts 0 0 = unfold contents_end in omega (arith, st.first, bs-length) in
          let same : n + 1 ≡ length bs = omega (arith, bs-length) in
          ap (λ (k : ℕ). take k out) place ∙ ps'.front ∙ ap (λ (k : ℕ). take k mid) (sym place)
          ∙ contents-are F old mid starts R bs (subst (λ (k : ℕ). Headed F old R starts k mid k) same hd) (unfold contents_end in omega (arith, bs-length, contents-fit, room)) places

      pub written : out ≡ pair_index op index first second n ++ drop (get_or starts (n + 1) 0) old
      unfolding index_of
      written =
          assembled-out out starts bs (contents_end (length bs)) places parts F R old refl front-is
          (rw (sym end) (ps'.back ∙ drop_more (head_words + entry_words * (n + 1)) (get_or starts (n + 1) 0) mid old contents-fit hd.behind))
          ∙ ap (λ (k : ℕ). pair_index op index first second n ++ drop k old) (sym need-is)
