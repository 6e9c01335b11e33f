-- Each question over bitmaps agrees with the rows.
-- Assumes nothing.
use Prim.Native.Nat.{ℕ, ◌≤◌}
use mathlib.Core.Bool.{Bool, false, ◌||◌}
use mathlib.Core.Path.{◌≡◌}
use mathlib.Core.List.{List}
use lib.Dec.{eqb}
use lib.ListN.{length, length-map}
use Rattle.meaning.specs.Limits.{most_named, histogram_counts}
use Rattle.meaning.specs.Rows.{count_below}
use Rattle.meaning.specs.Refusal.{answer}
use Rattle.meaning.specs.Index.{format_of, row_count, rows_at}
use Rattle.meaning.specs.Question.{complement, by_table, held, sum_of, histogram_of}
use Rattle.meaning.specs.Answer.{write, check, bad_bitmap, ask_logical, logical, ask_not, not_of, bad_list, named, right_rows, bad_threshold, ask_threshold, threshold, bad_symmetric, ask_symmetric, symmetric, ask_histogram, histogram}
use Rattle.meaning.specs.Format.{canonical}
use Rattle.meaning.specs.declared.Format.{Format}
use Rattle.laws.specs.Laws.{Answers, AnswerLaws}
use Rattle.laws.proofs.Outcomes.{refuse-answer, then-answer, fits-answer}
use Rattle.laws.proofs.Formats.{canonical-body, canonical-form}
use Rattle.laws.proofs.Demanded.{good-list}
use Rattle.laws.proofs.Counted.{histogram-adds}
use Rattle.laws.proofs.RowWords.{length-tabulate}

pub written : (F : Format) (R : ℕ) (p : ℕ → Bool) (room : ℕ) (b : List ℕ) → write F R p room ≡ answer b → Answers F R p b
unfolding write
written F R p room b e =
    let is = fits-answer room (canonical F R p) b e in
    let right = canonical-body F R p in
    rw is (record { right = right; form = canonical-form F R p })

of_pair : (index : List ℕ) (op : (ℕ → Bool) → (ℕ → Bool) → ℕ → Bool) (j k room : ℕ) (b : List ℕ) → logical index op j k room ≡ answer b
    → Answers (format_of index) (row_count index) (op (rows_at index j) (rows_at index k)) b
unfolding logical ask_logical
of_pair index op j k room b e =
    written _ _ _ room b (refuse-answer (bad_bitmap index j || bad_bitmap index k) 8 0 0 _ b (then-answer (check index) _ b e).1).1

of-not : (index : List ℕ) (k room : ℕ) (b : List ℕ) → not_of index k room ≡ answer b → Answers (format_of index) (row_count index) (complement (rows_at index k)) b
unfolding not_of ask_not
of-not index k room b e = written _ _ _ room b (refuse-answer (bad_bitmap index k) 8 0 0 _ b (then-answer (check index) _ b e).1).1

of-threshold : (index list : List ℕ) (T room : ℕ) (b : List ℕ) → threshold index list T room ≡ answer b → Answers (format_of index) (row_count index) (right_rows index list T) b
unfolding threshold ask_threshold
of-threshold index list T room b e =
    written _ _ _ room b (refuse-answer (bad_threshold index list T) 8 0 0 _ b (then-answer (check index) _ b e).1).1

of-symmetric : (index list table : List ℕ) (room : ℕ) (b : List ℕ) → symmetric index list table room ≡ answer b → Answers (format_of index) (row_count index) (by_table table (named index list)) b
unfolding symmetric ask_symmetric
of-symmetric index list table room b e =
    written _ _ _ room b (refuse-answer (bad_symmetric index list table) 8 0 0 _ b (then-answer (check index) _ b e).1).1

few-named : (index list : List ℕ) → bad_list index list ≡ false → length (named index list) ≤ most_named
unfolding named
few-named index list e = rw length-map (good-list index list e).most

of-histogram : (index list entries : List ℕ) → histogram index list ≡ answer entries → (length entries ≡ histogram_counts) × (sum_of entries ≡ row_count index)
unfolding histogram ask_histogram
of-histogram index list entries e =
    let p = refuse-answer (bad_list index list) 8 0 0 (answer (histogram_of (row_count index) (named index list))) entries (then-answer (check index) _ entries e).1 in
    let is : entries ≡ histogram_of (row_count index) (named index list) = let q = p.1 in cc in
    rw is (long, histogram-adds (row_count index) (named index list) (few-named index list p.0))
  where
    long : length (histogram_of (row_count index) (named index list)) ≡ histogram_counts
    long = unfold histogram_of in length-tabulate histogram_counts (λ c. count_below (row_count index) (λ r. eqb (held (named index list) r) c))

pub answer-laws : AnswerLaws
answer-laws = record { of_pair = of_pair; of-not = of-not; of-threshold = of-threshold; of-symmetric = of-symmetric; of-histogram = of-histogram }
