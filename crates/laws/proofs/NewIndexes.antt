-- An index that is assembled of bodies is sound if they are, and its bitmaps are they; so a new index is sound, and its
-- bitmaps are its sets, in canonical form.
-- Assumes nothing.
use Prim.Native.Nat.{ℕ, zero, suc, ◌+◌, ◌*◌, ◌/◌, ◌≤◌, ◌<◌, min}
use mathlib.Core.Bool.{Bool, cond}
use mathlib.Core.Path.{◌≡◌, refl, sym, ap, ap₂, ◌∙◌, subst}
use mathlib.Core.List.{List, [], ◌∷◌, ◌++◌, map, append_assoc, append-nil}
use lib.Dec.{eqb}
use lib.ListN.{length, get_or, take, drop, length-append, length-map, get_or-append}
use lib.Seq.{drop-append-add, take-append_seam, take_all}
use native.Mathlib.Omega.{arith}
use Rattle.meaning.specs.Limits.{most_rows, most_segments, most_dirty, most_bitmaps, most_index_words, wah_kind, head_words, entry_words}
use Rattle.meaning.specs.Refusal.{answer}
use Rattle.meaning.specs.Segment.{segment_count}
use Rattle.meaning.specs.Format.{kind_of, rows_of, canonical}
use Rattle.meaning.specs.declared.Format.{Format}
use Rattle.meaning.specs.declared.Format.TheVariants.{Ewah, Wah}
use Rattle.meaning.specs.Index.{format_of, row_count, bitmap_count, entry_place, start_of, length_of, body_place, body_at, rows_at}
use Rattle.meaning.specs.Question.{total_words}
use Rattle.meaning.specs.NewIndex.{entries_of, joined, contents_end, assembled, index_of, index_room, write_index}
use Rattle.laws.specs.Laws.{SoundFacts, IndexFacts}
use Rattle.meaning.specs.Rows.{none}
use Rattle.laws.specs.ColumnLaws.{NewIndex, NewIndexHolds, NewIndexRoomHolds}
use Rattle.laws.proofs.Outcomes.{fits-yes, fits-no, fits-answer, fits-within}
use Rattle.laws.proofs.Enough.{most-words}
use Rattle.laws.proofs.Formats.{sound-means, canonical-sound, canonical-rows}
use Rattle.laws.proofs.IndexSound.{index-means}

-- ---- entries and bodies

-- two words for each body
pub entries-length : (s : ℕ) (bs : List (List ℕ)) → length (entries_of s bs) ≡ entry_words * length bs
unfolding entries_of
entries-length s [] = refl
entries-length s (b ∷ bs) = omega (arith, entries-length (s + length b) bs)

-- the first word of entry k: body k starts behind the bodies before it
pub entries-start : (s : ℕ) (bs : List (List ℕ)) (k : ℕ) → k < length bs
    → get_or (entries_of s bs) (entry_words * k) 0 ≡ s + total_words (take k bs)
unfolding entries_of total_words
entries-start s [] k h = absurd (omega arith)
entries-start s (b ∷ bs) zero h = omega arith
entries-start s (b ∷ bs) (suc k) h =
    let e : 2 * suc k ≡ suc (suc (2 * k)) = omega arith in
    rw e (entries-start (s + length b) bs k (omega arith) ∙ omega arith)

-- the second word: its length
pub entries-words : (s : ℕ) (bs : List (List ℕ)) (k : ℕ) → k < length bs
    → get_or (entries_of s bs) (entry_words * k + 1) 0 ≡ length (get_or bs k [])
unfolding entries_of
entries-words s [] k h = absurd (omega arith)
entries-words s (b ∷ bs) zero h = refl
entries-words s (b ∷ bs) (suc k) h =
    let e : 2 * suc k + 1 ≡ suc (suc (2 * k + 1)) = omega arith in
    rw e (entries-words (s + length b) bs k (omega arith))

-- the bodies one behind the other have the words of all of them
pub joined_length : (bs : List (List ℕ)) → length (joined bs) ≡ total_words bs
unfolding joined total_words
joined_length [] = refl
joined_length (b ∷ bs) = length-append b (joined bs) ∙ ap (λ (n : ℕ). length b + n) (joined_length bs)

-- body k among them
pub joined-part : (bs : List (List ℕ)) (k : ℕ) → k < length bs
    → take (length (get_or bs k [])) (drop (total_words (take k bs)) (joined bs)) ≡ get_or bs k []
unfolding joined total_words
joined-part [] k h = absurd (omega arith)
joined-part (b ∷ bs) zero h = take-append_seam b (joined bs)
joined-part (b ∷ bs) (suc k) h =
    ap (λ (l : List ℕ). take (length (get_or bs k [])) l) (drop-append-add b (joined bs) (total_words (take k bs)))
    ∙ joined-part bs k (omega arith)

-- one body more
pub joined-more : (bs : List (List ℕ)) (k : ℕ) → k < length bs
    → joined (take (suc k) bs) ≡ joined (take k bs) ++ get_or bs k []
unfolding joined
joined-more [] k h = absurd (omega arith)
joined-more (b ∷ bs) zero h = append-nil b
joined-more (b ∷ bs) (suc k) h =
    ap (λ (l : List ℕ). b ++ l) (joined-more bs k (omega arith)) ∙ sym (append_assoc b (joined (take k bs)) (get_or bs k []))

-- and its words
pub total-more : (bs : List (List ℕ)) (k : ℕ) → k < length bs
    → total_words (take (suc k) bs) ≡ total_words (take k bs) + length (get_or bs k [])
unfolding total_words
total-more [] k h = absurd (omega arith)
total-more (b ∷ bs) zero h = omega arith
total-more (b ∷ bs) (suc k) h = omega (arith, total-more bs k (omega arith))

-- the first k have no more words than all
pub total-le : (bs : List (List ℕ)) (k : ℕ) → total_words (take k bs) ≤ total_words bs
unfolding total_words
total-le [] zero = omega arith
total-le [] (suc k) = omega arith
total-le (b ∷ bs) zero = omega arith
total-le (b ∷ bs) (suc k) = omega (arith, total-le bs k)

-- ---- the index of these bodies

module _ (F : Format) (R : ℕ) (bs : List (List ℕ)) where
  abbrev index : List ℕ
  index = assembled F R bs

  abbrev N : ℕ
  N = length bs

  abbrev contents : List ℕ
  contents = entries_of (contents_end N) bs

  -- its rows and the number of its bitmaps, as its head says
  pub row_count_lem : row_count index ≡ R
  unfolding row_count assembled
  row_count_lem = refl

  pub bitmap-count : bitmap_count index ≡ N
  unfolding bitmap_count assembled
  bitmap-count = refl

  -- behind its head come the contents and the bodies
  beyond : (i : ℕ) → get_or index (head_words + i) 0 ≡ get_or (contents ++ joined bs) i 0
  unfolding assembled
  beyond i = let e : 3 + i ≡ suc (suc (suc i)) = omega arith in rw e refl

  drop-beyond : (i : ℕ) → drop (head_words + i) index ≡ drop i (contents ++ joined bs)
  unfolding assembled
  drop-beyond i = let e : 3 + i ≡ suc (suc (suc i)) = omega arith in rw e refl

  -- its words: the head, the contents and the bodies
  pub length-is : length index ≡ contents_end N + total_words bs
  unfolding assembled contents_end
  length-is = omega (arith, length-append contents (joined bs), entries-length (contents_end N) bs, joined_length bs)

  -- where body k starts, and its words, as its entry says
  pub start_is : (k : ℕ) → k < N → start_of index k ≡ contents_end N + total_words (take k bs)
  unfolding start_of
  start_is k h =
      beyond (2 * k)
      ∙ get_or-append contents (joined bs) 0 (2 * k) (omega (arith, entries-length (contents_end N) bs))
      ∙ entries-start (contents_end N) bs k h

  pub words_are : (k : ℕ) → k < N → length_of index k ≡ length (get_or bs k [])
  unfolding length_of
  words_are k h =
      let e : 3 + 2 * k + 1 ≡ 3 + (2 * k + 1) = omega arith in
      rw e
      (beyond (2 * k + 1)
      ∙ get_or-append contents (joined bs) 0 (2 * k + 1) (omega (arith, entries-length (contents_end N) bs))
      ∙ entries-words (contents_end N) bs k h)

  -- which is where it has to start
  pub place_is : (k : ℕ) → k ≤ N → body_place index k ≡ contents_end N + total_words (take k bs)
  unfolding body_place total_words contents_end
  place_is zero h = rw bitmap-count (omega arith)
  place_is (suc k) h = omega (arith, place_is k (omega arith), words_are k (omega arith), total-more bs k (omega arith))

  -- bitmap k's body is body k
  pub body_is : (k : ℕ) → k < N → body_at index k ≡ get_or bs k []
  unfolding body_at
  body_is k h =
      ap₂ (λ (n m : ℕ). take n (drop m index)) (words_are k h) (start_is k h ∙ from)
      ∙ ap (λ (l : List ℕ). take (length (get_or bs k [])) l)
      (drop-beyond (length contents + total_words (take k bs)) ∙ drop-append-add contents (joined bs) (total_words (take k bs)))
      ∙ joined-part bs k h
    where
      from : contents_end N + total_words (take k bs) ≡ head_words + (length contents + total_words (take k bs))
      from = unfold contents_end in omega (arith, entries-length (contents_end N) bs)

  -- its format, as its head says
  pub format-is : format_of index ≡ F
  unfolding format_of assembled
  format-is = go F
    where
      go : (F : Format) → cond (eqb (kind_of F) wah_kind) Wah Ewah ≡ F
      go Ewah = refl
      go Wah = refl

  -- it is sound if its bodies are, and it is in the limits
  pub assembled-facts : R ≤ most_rows → N ≤ most_bitmaps → length index ≤ most_index_words
      → ((k : ℕ) → k < N → SoundFacts F R (get_or bs k [])) → IndexFacts index
  unfolding assembled contents_end entry_place row_count bitmap_count
  assembled-facts r n l f = record {
    head = record {
      few_words = l;
      head = omega (arith, length-is);
      kind = ap kind_of (sym format-is);
      few-rows = r;
      few-bitmaps = n;
      contents = omega (arith, length-is);
    };
    entries = record {
      starts = λ k h. start_is k h ∙ sym (place_is k (omega arith));
      ends = λ k h. omega (arith, place_is k h, total-le bs k, length-is);
      last_end =
          place_is N (omega arith)
          ∙ ap (λ (l : List (List ℕ)). contents_end N + total_words l) (take_all N bs (omega arith))
          ∙ sym length-is;
    };
    bodies = λ k h. subst (λ (G : Format). SoundFacts G R (body_at index k)) (sym format-is)
        (subst (λ (b : List ℕ). SoundFacts F R b) (sym (body_is k h)) (f k h));
  }

-- ---- the index of these sets

-- the most words of a canonical body: those of as many mixed segments as the most rows have
abbrev pub most_body_words : ℕ
most_body_words = most_segments + most_segments / most_dirty + 1

-- whatever the rows are
pub canonical-words : (F : Format) (R : ℕ) (p : ℕ → Bool) → R ≤ most_rows → length (canonical F R p) ≤ most_body_words
unfolding segment_count
canonical-words Ewah R p h = omega (arith, most-words Ewah R p)
canonical-words Wah R p h = omega (arith, most-words Wah R p)

-- so many for each of them
pub total-words : (F : Format) (R : ℕ) (ps : List (ℕ → Bool)) → R ≤ most_rows
    → total_words (map (canonical F R) ps) ≤ most_body_words * length ps
unfolding total_words
total-words F R [] h = omega arith
total-words F R (p ∷ ps) h = omega (arith, canonical-words F R p h, total-words F R ps h)

-- body k is the canonical one of set k
pub at_map : (F : Format) (R : ℕ) (ps : List (ℕ → Bool)) (k : ℕ) → k < length ps
    → get_or (map (canonical F R) ps) k [] ≡ canonical F R (get_or ps k none)
at_map F R [] k h = absurd (omega arith)
at_map F R (p ∷ ps) zero h = refl
at_map F R (p ∷ ps) (suc k) h = at_map F R ps k (omega arith)

module _ (F : Format) (R : ℕ) (ps : List (ℕ → Bool)) where
  abbrev bs : List (List ℕ)
  bs = map (canonical F R) ps

  as_many : length bs ≡ length ps
  as_many = length-map ps (canonical F R)

  is_body : (k : ℕ) → k < length ps → body_at (assembled F R bs) k ≡ canonical F R (get_or ps k none)
  is_body k g = body_is F R bs k (omega (arith, as_many)) ∙ at_map F R ps k g

  -- ---- where its bodies lie, also where it has more words than an index may have

  pub count-is : bitmap_count (index_of F R ps) ≡ length ps
  unfolding index_of
  count-is = bitmap-count F R bs ∙ as_many

  pub next_place : (k : ℕ) → k < length ps → body_place (index_of F R ps) (suc k) ≡ body_place (index_of F R ps) k + length (canonical F R (get_or ps k none))
  unfolding index_of
  next_place k g =
      omega (
        arith,
        place_is F R bs k (omega (arith, as_many)),
        place_is F R bs (suc k) (omega (arith, as_many)),
        total-more bs k (omega (arith, as_many)),
        ap length (at_map F R ps k g),
      )

  pub last-place : body_place (index_of F R ps) (length ps) ≡ length (index_of F R ps)
  unfolding index_of
  last-place =
      ap (body_place (assembled F R bs)) (sym as_many)
      ∙ place_is F R bs (length bs) (omega arith)
      ∙ ap (λ (l : List (List ℕ)). contents_end (length bs) + total_words l) (take_all (length bs) bs (omega arith))
      ∙ sym (length-is F R bs)

  -- none behind its end
  pub place-low : (k : ℕ) → k ≤ length ps → body_place (index_of F R ps) k ≤ length (index_of F R ps)
  unfolding index_of
  place-low k g = omega (arith, place_is F R bs k (omega (arith, as_many)), total-le bs k, length-is F R bs)

  -- and the words that it has at most
  pub length-low : R ≤ most_rows → length (index_of F R ps) ≤ contents_end (length ps) + most_body_words * length ps
  unfolding index_of
  length-low h = unfold contents_end in omega (arith, as_many, length-is F R bs, total-words F R ps h)

  -- ---- that it is sound

  sound-body : (k : ℕ) → k < length bs → SoundFacts F R (get_or bs k [])
  sound-body k g =
      subst (λ (b : List ℕ). SoundFacts F R b) (sym (at_map F R ps k (omega (arith, as_many))))
      ((sound-means F R (canonical F R (get_or ps k none))).0 (canonical-sound F R (get_or ps k none)))

  pub is-new : R ≤ most_rows → length ps ≤ most_bitmaps → length (index_of F R ps) ≤ most_index_words → NewIndex F R ps (index_of F R ps)
  unfolding index_of rows_at
  is-new h n l = record {
    is-sound = (index-means (assembled F R bs)).1 (assembled-facts F R bs h (omega (arith, as_many)) l sound-body);
    format = format-is F R bs;
    rows = row_count_lem F R bs;
    count = count-is;
    bodies = is_body;
    sets = λ k r g m. ap (λ (G : Format). rows_of G (body_at (assembled F R bs) k) r) (format-is F R bs) ∙ ap (λ (b : List ℕ). rows_of F b r) (is_body k g) ∙ canonical-rows F R (get_or ps k none) r m;
  }

-- what a buffer has room for is no longer than it, nor than an index may be
pub room_within : (n room : ℕ) → n ≤ index_room room → (n ≤ room) × (n ≤ most_index_words)
unfolding index_room
room_within n room h = (omega arith, omega arith)

-- what is written is the index of these sets, and has no more words than an index may have
pub written-index : (F : Format) (R : ℕ) (ps : List (ℕ → Bool)) (room : ℕ) (out : List ℕ) → write_index F R ps room ≡ answer out
    → (out ≡ index_of F R ps) × (length (index_of F R ps) ≤ most_index_words)
unfolding write_index
written-index F R ps room out e =
    let ws = index_of F R ps in
    (fits-answer (index_room room) ws out e, (room_within (length ws) room (fits-within (index_room room) ws out e)).1)

-- whatever the sets are
pub new-index-holds : NewIndexHolds
new-index-holds F R ps room out h n e =
    let w = written-index F R ps room out e in
    subst (NewIndex F R ps) (sym w.0) (is-new F R ps h n w.1)

-- and where they are written
pub new-index-room-holds : NewIndexRoomHolds
unfolding write_index index_room
new-index-room-holds F R ps room =
    let ws = index_of F R ps in
    let most = min room most_index_words in
    record {
      too_long = λ h. fits-no most ws (omega arith);
      no_room = λ h. fits-no most ws (omega arith);
      written = λ h l. fits-yes most ws (omega arith);
    }
