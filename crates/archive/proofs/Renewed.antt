-- The index that an index becomes with bodies of a format: that it is sound, and what it is made of; and what is told where
-- it is written.
-- Assumes nothing.
use Prim.Native.Nat.{ℕ, zero, suc, ◌+◌, ◌*◌, ◌≤◌, ◌<◌}
use mathlib.Core.Bool.{Bool}
use mathlib.Core.Path.{◌≡◌, sym, ap, ◌∙◌}
use mathlib.Core.List.{List, ◌++◌}
use native.Mathlib.Numerals.{add-one}
use native.Mathlib.Omega.{arith}
use lib.ListN.{length, get_or, drop}
use Rattle.meaning.specs.Limits.{most_rows, most_bitmaps, most_contents, most_index_words}
use Rattle.meaning.specs.Refusal.{Outcome}
use Rattle.meaning.specs.Format.{kind_of, rows_of, canonical}
use Rattle.meaning.specs.declared.Format.{Format}
use Rattle.meaning.specs.Index.{format_of, row_count, bitmap_count, entry_place, body_place, body_at, rows_at}
use Rattle.meaning.specs.NewIndex.{contents_end, index_room, write_index}
use Rattle.meaning.specs.Rewriting.{sets_from}
use Rattle.laws.specs.Laws.{SoundFacts, IndexFacts}
use Rattle.meaning.specs.Rows.{none}
use Rattle.laws.specs.ColumnLaws.{NewIndex}
use Rattle.laws.proofs.IndexSound.{index-means}
use Rattle.laws.proofs.NewIndexes.{most_body_words, count-is, next_place, last-place, place-low, length-low, is-new as new-index}
use Rattle.laws.proofs.Rewritten.{sets-length}
use Rattle.answers.specs.declared.refusal.Refusal.{Refusal}
use Rattle.answers.specs.declared.refusal.Fault.TheVariants.{NoRoom}
use Rattle.std.specs.Prelude.{Ok, Err}
use Rattle.answers.specs.Told.{refusal, Wrote}
use Rattle.answers.proofs.Tells.{wrote_none, wrote-words}
use Rattle.row_write.specs.Packing.{Rewritten}
use Rattle.archive.specs.Anew.{anew}

-- ---- the sets of an index

-- set i of them has the rows of bitmap k + i
sets-from : (index : List ℕ) (k n i : ℕ) → i < n → get_or (sets_from index k n) i none ≡ rows_at index (k + i)
unfolding sets_from
sets-from index k zero i h = absurd (omega arith)
sets-from index k (suc n) zero h = let e : k ≡ k + 0 = omega arith in ap (rows_at index) e
sets-from index k (suc n) (suc i) h =
    let e : suc k + i ≡ k + suc i = omega arith in
    sets-from index (suc k) n i (omega arith) ∙ ap (rows_at index) e

-- set k of all of them has those of bitmap k
sets-at : (index : List ℕ) (n k : ℕ) → k < n → get_or (sets_from index 0 n) k none ≡ rows_at index k
sets-at index n k h = let e : 0 + k ≡ k = omega arith in sets-from index 0 n k h ∙ ap (rows_at index) e

-- ---- the index that it becomes

module _ (index : List ℕ) (G : Format) (f : IndexFacts index) where
  abbrev N : ℕ
  N = bitmap_count index

  abbrev sets : List (ℕ → Bool)
  sets = sets_from index 0 N

  few : length sets ≤ most_bitmaps
  few = omega (arith, sets-length index 0 N, f.head.few-bitmaps)

  -- ---- where its bodies lie, however many words it has

  pub new-count : bitmap_count index ≡ bitmap_count (anew index G)
  new-count = sym (count-is G (row_count index) sets ∙ sets-length index 0 N)

  -- the first starts behind as many entries as the index has
  pub new-place : (n : ℕ) → n ≡ N → entry_place index n ≡ body_place (anew index G) 0
  unfolding entry_place body_place
  new-place n e = omega (arith, new-count)

  -- each ends where the next one starts, and the last where the index ends
  pub new-next : (k : ℕ) → k < N
      → body_place (anew index G) (k + 1) ≡ body_place (anew index G) k + length (canonical G (row_count index) (rows_at index k))
  new-next k h =
      ap (body_place (anew index G)) (add-one k)
      ∙ next_place G (row_count index) sets k (omega (arith, sets-length index 0 N))
      ∙ ap (λ (p : ℕ → Bool). body_place (anew index G) k + length (canonical G (row_count index) p)) (sets-at index N k h)

  pub new-end : (n : ℕ) → n ≡ N → body_place (anew index G) n ≡ length (anew index G)
  new-end n e = ap (body_place (anew index G)) (e ∙ sym (sets-length index 0 N)) ∙ last-place G (row_count index) sets

  pub new-low : (k : ℕ) → k ≤ N → body_place (anew index G) k ≤ most_contents + most_body_words * most_bitmaps
  unfolding contents_end
  new-low k h =
      omega (
        arith,
        few,
        place-low G (row_count index) sets k (omega (arith, sets-length index 0 N)),
        length-low G (row_count index) sets f.head.few-rows,
      )

  -- ---- what it is made of, where it has no more words than an index may have

  module _ (short : length (anew index G) ≤ most_index_words) where
    is-new : NewIndex G (row_count index) sets (anew index G)
    is-new = new-index G (row_count index) sets f.head.few-rows few short

    -- it is sound
    pub new-facts : IndexFacts (anew index G)
    new-facts = (index-means (anew index G)).0 is-new.is-sound

    -- the words of its head
    pub new-kind : kind_of G ≡ get_or (anew index G) 0 0
    new-kind = ap kind_of (sym is-new.format) ∙ sym new-facts.head.kind

    pub new-rows : row_count index ≡ row_count (anew index G)
    new-rows = sym is-new.rows

    -- body k is the canonical one of the rows of bitmap k
    pub new-body : (k : ℕ) → k < N → canonical G (row_count index) (rows_at index k) ≡ body_at (anew index G) k
    new-body k h =
        ap (canonical G (row_count index)) (sym (sets-at index N k h))
        ∙ sym (is-new.bodies k (omega (arith, sets-length index 0 N)))

-- ---- what is read of an index

module _ (index : List ℕ) (f : IndexFacts index) (k : ℕ) (h : k < bitmap_count index)
    (F : Format) (R : ℕ) (b : List ℕ)
    (is-format : F ≡ format_of index) (is-rows : R ≡ row_count index) (is-body : b ≡ body_at index k) where
  -- a body is sound
  pub read-sound : (R ≤ most_rows) × SoundFacts F R b
  read-sound = rw (is-format, is-rows, is-body) (f.head.few-rows, f.bodies k h)

  -- and has the rows of its bitmap
  pub read-rows : (G : Format) → canonical G R (rows_of F b) ≡ canonical G (row_count index) (rows_at index k)
  unfolding rows_at
  read-rows G = rw (is-format, is-rows, is-body)

  pub read-rewritten : (G : Format) (old out : List ℕ) (store : Bool) (n : ℕ)
      → Rewritten G R (rows_of F b) old store out n
      → Rewritten G (row_count index) (rows_at index k) old store out n
  unfolding rows_at
  read-rewritten G old out store n w = rw (is-format, is-rows, is-body) at w

-- ---- what is told

-- of a buffer that measuring left as it was
module _ (index : List ℕ) (G : Format) (old measured : List ℕ) (same : measured ≡ old)
    (need : ℕ) (is : need ≡ length (anew index G)) where
  abbrev writing : Outcome (List ℕ)
  writing = write_index G (row_count index) (sets_from index 0 (bitmap_count index)) (length old)

  pub wrote-no-room : index_room (length measured) < need → (r : Refusal) → r ≡ refusal NoRoom need
      → Wrote writing (Err r) old measured
  unfolding write_index
  wrote-no-room h r e = rw (e, same) (wrote_none old (anew index G) need is (omega (arith, h, ap (λ (l : List ℕ). index_room (length l)) same)))

  pub wrote-anew : need ≤ index_room (length measured) → (out : List ℕ) → out ≡ anew index G ++ drop (length (anew index G)) measured
      → Wrote writing (Ok need) old out
  unfolding write_index
  wrote-anew h out e =
      wrote-words old (anew index G) need is out (omega (arith, h, ap (λ (l : List ℕ). index_room (length l)) same))
      (e ∙ ap (λ (l : List ℕ). anew index G ++ drop (length (anew index G)) l) same)
