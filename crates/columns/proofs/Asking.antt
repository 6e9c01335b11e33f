-- Questions on columns: what is refused, in its order, and that what is left is the answer.
-- Assumes nothing.
use Rattle.std.specs.Prelude.{Ok, Err}
use Prim.Native.Nat.{ℕ, suc, ◌-◌, ◌≤◌, ◌<◌}
use mathlib.Core.Bool.{Bool, true, false, not, ◌||◌}
use mathlib.Core.Path.{◌≡◌, refl, sym, ap, ap₂, ◌∙◌, subst}
use mathlib.Core.List.{List, [], ◌∷◌, ◌++◌}
use native.Mathlib.Omega.{arith}
use borrow.Author.Tests.{lt-ltb, le-ltb, ltb-false, le-leb, lt-leb, leb-false}
use lib.Dec.{leb, ltb}
use lib.ListN.{length, get_or, drop}
use Rattle.meaning.specs.Limits.{least_column, most_column, most_value_column}
use Rattle.meaning.specs.Refusal.{Outcome, answer, Verdict, sound, refuse_if, ◌then◌}
use Rattle.meaning.specs.Rows.{count_below}
use Rattle.meaning.specs.Index.{format_of, row_count, bitmap_count, rows_at}
use Rattle.laws.specs.Laws.{IndexFacts}
use Rattle.laws.specs.ColumnLaws.{pair_index}
use Rattle.laws.specs.RankLaws.{ranked_body}
use Rattle.meaning.specs.NewIndex.{index_room, write_index}
use Rattle.column_meaning.specs.Column.{pair_slices}
use Rattle.meaning.specs.declared.Pairing.{Pairing}
use Rattle.meaning.specs.declared.Ranking.{Ranking}
use Rattle.meaning.specs.Answer.{write, any_bad}
use Rattle.column_meaning.specs.Columns.{slice_count, wider, pair_width, existing, bad_column, bad_row, strays, ask_at, write_pair, ask_pair, ranked_rows, bad_rank, ask_ranked}
use Rattle.laws.proofs.Tests.{or-false}
use Rattle.laws.proofs.Demanded.{good-each}
use Rattle.laws.proofs.NamedBitmaps.{column-length, column-named}
use Rattle.laws.proofs.ColumnsHold.{pair-slices}
use Rattle.laws.proofs.Outcomes.{refuse-answer}
use Rattle.answers.specs.declared.refusal.Refusal.{Refusal}
use Rattle.answers.specs.declared.refusal.Fault.TheVariants.{BadArgument, NoRoom}
use Rattle.answers.specs.Told.{refused_by, refusal, Wrote}
use Rattle.answers.proofs.Tells.{wrote-refused, wrote_none, wrote-words}
use Rattle.pairs.specs.Passes.{Columns}
use Rattle.column_pair.specs.Written.{PairWritten}
use Rattle.ranks.specs.Frames.{Column}
use Rattle.ranks.specs.Passes.{RankWritten}

-- a test, and what comes behind it
refuse-then : {A : Type 0} (t : Bool) (n b w : ℕ) (v : Verdict) (o : Outcome A) → (refuse_if t n b w v then o) ≡ refuse_if t n b w (v then o)
unfolding refuse_if ◌then◌
refuse-then true n b w v o = refl
refuse-then false n b w v o = refl

-- ---- a list

module _ (index : List ℕ) (most : ℕ) (list : List ℕ) where
  pub bad-short : length list < least_column → true ≡ bad_column index most list
  unfolding bad_column
  bad-short h = rw (lt-ltb (length list) least_column h)

  module _ (h : least_column ≤ length list) where
    pub bad-long : most < length list → true ≡ bad_column index most list
    unfolding bad_column
    bad-long g = rw (le-ltb (length list) least_column h, lt-ltb most (length list) g)

    pub bad-names : length list ≤ most → (b : Bool) → b ≡ any_bad index list → b ≡ bad_column index most list
    unfolding bad_column
    bad-names g b e = rw (le-ltb (length list) least_column h, le-ltb most (length list) g) e

-- a good list has 2 to `most` numbers, and each names a bitmap
pub good-column : (index : List ℕ) (most : ℕ) (list : List ℕ) → bad_column index most list ≡ false
    → (least_column ≤ length list) × (length list ≤ most) × ((i : ℕ) → i < length list → get_or list i 0 < bitmap_count index)
unfolding bad_column
good-column index most list e =
    let l = column-length index most list e in
    (l.0, l.1, good-each index list (column-named index most list e))

-- ---- a row

module _ (index list : List ℕ) (r : ℕ) where
  pub bad-past : row_count index ≤ r → true ≡ bad_row index list r
  unfolding bad_row
  bad-past h = rw (le-leb (row_count index) r h)

  pub bad-absent : r < row_count index → (b : Bool) → b ≡ existing index list r → not b ≡ bad_row index list r
  unfolding bad_row
  bad-absent h b e = rw (lt-leb (row_count index) r h, e)

  pub good-row : bad_row index list r ≡ false → r < row_count index
  unfolding bad_row
  good-row e = leb-false (row_count index) r (or-false (leb (row_count index) r) (not (existing index list r)) e).0

  -- ---- a value

  -- what is refused of it
  abbrev pub row_verdict : Verdict
  row_verdict = refuse_if (bad_column index most_value_column list || bad_row index list r) 8 0 0 (strays index list)

  pub row-bad-list : bad_column index most_value_column list ≡ true → refused_by (refusal BadArgument 0) ≡ row_verdict
  unfolding refuse_if
  row-bad-list h = rw h

  pub row-bad-row : bad_column index most_value_column list ≡ false → bad_row index list r ≡ true
      → refused_by (refusal BadArgument 0) ≡ row_verdict
  unfolding refuse_if
  row-bad-row h g = rw (h, g)

  pub row-rest : bad_column index most_value_column list ≡ false → bad_row index list r ≡ false → strays index list ≡ row_verdict
  unfolding refuse_if
  row-rest h g = rw (h, g)

  -- and else the value is told
  pub asked-then : {A : Type 0} (v : A) → (row_verdict then answer v) ≡ ask_at index list r v
  unfolding ask_at
  asked-then v = refuse-then (bad_column index most_value_column list || bad_row index list r) 8 0 0 (strays index list) (answer v)

  -- where nothing is refused the list names a column, and the row exists
  pub row-passed : row_verdict ≡ sound → (bad_column index most_value_column list ≡ false) × (bad_row index list r ≡ false)
  row-passed e =
      or-false (bad_column index most_value_column list) (bad_row index list r)
      (refuse-answer (bad_column index most_value_column list || bad_row index list r) 8 0 0 (strays index list) tt e).0

-- ---- two columns

-- how many slices the wider has
module _ (first second : List ℕ) where
  pub wider-low : length first ≤ most_column → length second ≤ most_column → wider first second < most_column
  unfolding wider slice_count
  wider-low h g = omega arith

-- the slices of an answer, by the operation's name
pub width_of : (op o : Pairing) (first second : List ℕ) (w n : ℕ) → w ≡ wider first second → op ≡ o → n ≡ pair_slices o w
    → n ≡ pair_width op first second
unfolding pair_width
width_of op o first second w n e f g = g ∙ ap₂ pair_slices (sym f) e

-- at least as many as the wider has, and at most one more
module _ (op : Pairing) (first second : List ℕ) where
  width-least : wider first second ≤ pair_width op first second
  unfolding pair_width
  width-least = (pair-slices op (wider first second)).0

  width-most : pair_width op first second ≤ suc (wider first second)
  unfolding pair_width
  width-most = (pair-slices op (wider first second)).1

module _ (op : Pairing) (index first second : List ℕ) where
  -- the slices of the answer
  abbrev n : ℕ
  n = pair_width op first second

  pub two-columns : IndexFacts index → bad_column index most_column first ≡ false → bad_column index most_column second ≡ false
      → (m : ℕ) → m ≡ n → Columns index first second m
  unfolding wider slice_count
  two-columns f a b m e =
      let p = good-column index most_column first a in
      let q = good-column index most_column second b in
      let least = width-least op first second in
      let most = width-most op first second in
      record {
        facts = f;
        first-listed = record { most = omega (arith, p.1); its = p.2 };
        second-listed = record { most = omega (arith, q.1); its = q.2 };
        first_some = p.0;
        second-some = q.0;
        first_fits = omega arith;
        second_fits = omega arith;
        few = omega (arith, p.1, q.1);
      }

  module _ (old out : List ℕ) (m need : ℕ) (e : m ≡ n) (w : PairWritten op index first second m old out need) where
    w' : PairWritten op index first second n old out need
    w' = subst (λ (k : ℕ). PairWritten op index first second k old out need) e w

    pub wrote-no-room : index_room (length old) < need → (r : Refusal) → r ≡ refusal NoRoom need → Wrote (write_pair index op first second (length old)) (Err r) old out
    unfolding write_pair write_index
    wrote-no-room h r k = rw (k, w'.lacks h) (wrote_none old (pair_index op index first second n) need w'.need-is h)

    pub wrote-pair : need ≤ index_room (length old) → Wrote (write_pair index op first second (length old)) (Ok need) old out
    unfolding write_pair write_index
    wrote-pair h = wrote-words old (pair_index op index first second n) need w'.need-is out h (w'.fits h ∙ ap (λ (k : ℕ). pair_index op index first second n ++ drop k old) w'.need-is)

  module _ (out : List ℕ) where
    pub pair-bad-first : bad_column index most_column first ≡ true → (r : Refusal) → r ≡ refusal BadArgument 0
        → Wrote (ask_pair index op first second (length out)) (Err r) out out
    unfolding ask_pair refuse_if
    pair-bad-first h r e = wrote-refused out r _ (ap refused_by e ∙ rw h)

    pub pair-bad-second : bad_column index most_column first ≡ false → bad_column index most_column second ≡ true → (r : Refusal) → r ≡ refusal BadArgument 0
        → Wrote (ask_pair index op first second (length out)) (Err r) out out
    unfolding ask_pair refuse_if
    pair-bad-second h g r e = wrote-refused out r _ (ap refused_by e ∙ rw (h, g))

    pub pair-rest : bad_column index most_column first ≡ false → bad_column index most_column second ≡ false
        → (strays index first then strays index second then write_pair index op first second (length out)) ≡ ask_pair index op first second (length out)
    unfolding ask_pair refuse_if
    pair-rest h g = rw (h, g)

-- ---- the k largest or smallest

module _ (index list : List ℕ) (k : ℕ) where
  -- what is refused
  abbrev pub rank_verdict : Verdict
  rank_verdict = refuse_if (bad_rank index list k) 8 0 0 (strays index list)

  pub rank-bad-list : bad_column index most_column list ≡ true → refused_by (refusal BadArgument 0) ≡ rank_verdict
  unfolding bad_rank refuse_if
  rank-bad-list h = rw h

  module _ (good : bad_column index most_column list ≡ false) (n : ℕ)
      (is : n ≡ count_below (row_count index) (existing index list)) where
    pub rank-too-many : n < k → refused_by (refusal BadArgument 0) ≡ rank_verdict
    unfolding bad_rank refuse_if
    rank-too-many h = rw (good, lt-ltb (count_below (row_count index) (existing index list)) k (omega arith))

    pub rank-rest : k ≤ n → strays index list ≡ rank_verdict
    unfolding bad_rank refuse_if
    rank-rest h = rw (good, le-ltb (count_below (row_count index) (existing index list)) k (omega arith))

  -- where nothing is refused the list names a column, and as many rows exist
  pub rank-passed : {v : Verdict} → v ≡ rank_verdict → v ≡ sound → bad_rank index list k ≡ false
  rank-passed e h = (refuse-answer (bad_rank index list k) 8 0 0 (strays index list) tt (sym e ∙ h)).0

  module _ (f : IndexFacts index) (good : bad_rank index list k ≡ false) where
    parts : (bad_column index most_column list ≡ false) × (ltb (count_below (row_count index) (existing index list)) k ≡ false)
    unfolding bad_rank
    parts = or-false (bad_column index most_column list) (ltb (count_below (row_count index) (existing index list)) k) good

    pub ranked-column : Column index list
    ranked-column =
        let p = good-column index most_column list parts.0 in
        record { facts = f; listed = record { most = omega (arith, p.1); its = p.2 }; some = p.0; few = p.1 }

    pub so-many : k ≤ count_below (row_count index) (existing index list)
    so-many = ltb-false (count_below (row_count index) (existing index list)) k parts.1

  module _ (op : Ranking) (old : List ℕ) where
    abbrev pub writes : Outcome (List ℕ)
    writes = write (format_of index) (row_count index) (ranked_rows index op list k) (length old)

    pub ranked-then :
        (rank_verdict then write (format_of index) (row_count index) (ranked_rows index op list k) (length old))
        ≡ ask_ranked index op list k (length old)
    unfolding ask_ranked
    ranked-then = refuse-then (bad_rank index list k) 8 0 0 (strays index list) writes

    module _ (out : List ℕ) (need : ℕ) (w : RankWritten op index list k old out need) where
      pub rank-no-room : length old < need → (r : Refusal) → r ≡ refusal NoRoom need
          → Wrote (write (format_of index) (row_count index) (ranked_rows index op list k) (length old)) (Err r) old out
      unfolding write
      rank-no-room h r e = rw (e, w.lacks h) (wrote_none old (ranked_body op index list k) need w.need-is h)

      pub rank-words : need ≤ length old
          → Wrote (write (format_of index) (row_count index) (ranked_rows index op list k) (length old)) (Ok need) old out
      unfolding write
      rank-words h =
          wrote-words old (ranked_body op index list k) need w.need-is out h
          (w.fits h ∙ ap (λ (m : ℕ). ranked_body op index list k ++ drop m old) w.need-is)

-- the rows that exist are those of the first bitmap that is named
pub existing-first : (index list : List ℕ) → 1 ≤ length list → existing index list ≡ rows_at index (get_or list 0 0)
unfolding existing
existing-first index [] h = absurd (omega arith)
existing-first index (k ∷ ks) h = refl
