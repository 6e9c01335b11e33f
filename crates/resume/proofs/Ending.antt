-- The end of the walk: the last segment of a sound body, its rows as a word, and whether the body is in canonical form.
-- Assumes nothing.
use Prim.Native.Nat.{ℕ, zero, suc, ◌+◌, ◌-◌, ◌*◌, ◌/◌, ◌%◌, ◌^◌, ◌≤◌, ◌<◌}
use mathlib.Core.Bool.{Bool, true, false, cond, not}
use mathlib.Core.Path.{◌≡◌, refl, sym, ap, ap₂, ◌∙◌, subst}
use mathlib.Core.Logic.{◌⊎◌, inl, inr}
use mathlib.Core.List.{List, [], ◌∷◌, ◌++◌, map, foldl}
use lib.Dec.{eqb}
use lib.ListN.{length, get_or, take, replicate, get_or-map}
use lib.Pow.{pow_mono}
use lib.Seq.{take_all}
use native.Mathlib.Nat.{mod-eq_of_lt, zero-mod}
use native.Mathlib.Omega.{arith}
use native.Mathlib.Decide.{dec_le}
use borrow.Author.Tests.{eqb-false, not-true}
use Rattle.meaning.specs.Segment.{Segment, clean, mixed, kind, kinds, fill, all_set, from_rows, word_of, has_row}
use Rattle.meaning.specs.Segment.{segment_count, last_rows, last_limit, last_of}
use Rattle.meaning.specs.Piece.{Piece, clean_run, dirty_word, piece_size, NoneEmpty, last_dirty, flat}
use Rattle.meaning.specs.Ewah.{decode, segments, pieces}
use Rattle.meaning.specs.Canonical.{Draft, blank, body, put, ewah_of}
use Rattle.meaning.specs.Format.{rows_of, canonical, Canonical}
use Rattle.meaning.specs.declared.Format.TheVariants.{Ewah}
use Rattle.laws.specs.Demands.{Words}
use Rattle.laws.specs.Laws.{EwahFacts}
use Rattle.laws.proofs.Segments.{both, cut, word, canonical-is, kind-fill, kind-wider, kinds-end, fill-cut}
use Rattle.laws.proofs.Cut.{cut-decide}
use Rattle.laws.proofs.RowWords.{word-ext, word-self, last-get_d, has-at, from-length, from-below}
use Rattle.laws.proofs.WordJoin.{word_low}
use Rattle.laws.proofs.Pieces.{flat-length}
use Rattle.laws.proofs.Decoded.{flat-pieces, pieces-some, decoded-words}
use Rattle.laws.proofs.Encoded.{encoded-decodes}
use Rattle.ewah_write.specs.declared.writer.Writer.{Writer}
use Rattle.ewah_write.specs.Drafts.{Tracks}
use Rattle.ewah_write.specs.Mixed.{is_mixed}
use Rattle.resume.specs.Resume.{whole_of, PlaceOf, draft_of, Resumes, LastMarker, Walked}
use Rattle.resume.proofs.Shortening.{drawn-resumes}

-- ---- the last segment of a body, and its last dirty word

last-behind : (xs ys : List ℕ) → 0 < length ys → last_of (xs ++ ys) ≡ last_of ys
unfolding last_of
last-behind xs [] h = absurd (omega arith)
last-behind [] (y ∷ ys) h = refl
last-behind (x ∷ []) (y ∷ ys) h = refl
last-behind (x ∷ z ∷ zs) (y ∷ ys) h = last-behind (z ∷ zs) (y ∷ ys) h

last-run : (n x : ℕ) → last_of (replicate (suc n) x ++ []) ≡ x
unfolding last_of
last-run zero x = refl
last-run (suc n) x = last-run n x

-- it is that word, or of a clean run
last_flat : (ps : List Piece) → NoneEmpty ps
    → (last_of (flat 32 ps) ≡ last_dirty ps) ⊎ ((v : ℕ) × (last_of (flat 32 ps) ≡ fill 32 v))
unfolding flat last_dirty last_of piece_size
last_flat [] h = inl refl
last_flat (clean_run v zero ∷ []) h = absurd (omega (arith, h.0))
last_flat (clean_run v (suc n) ∷ []) h = inr (v, last-run n (fill 32 v))
last_flat (dirty_word x ∷ []) h = inl refl
last_flat (p ∷ q ∷ ps) h = elim (last_flat (q ∷ ps) h.1) [
  | inl e ↦ inl (behind p ∙ e)
  | inr e ↦ inr (e.0, behind p ∙ e.1)
]
  where
    some : 0 < length (flat 32 (q ∷ ps))
    some = omega (arith, flat-length 32 q ps, h.1.0)

    behind : (p : Piece) → last_of (flat 32 (p ∷ q ∷ ps)) ≡ last_of (flat 32 (q ∷ ps))
    behind (clean_run v n) = last-behind (replicate n (fill 32 v)) (flat 32 (q ∷ ps)) some
    behind (dirty_word x) = last-behind (x ∷ []) (flat 32 (q ∷ ps)) some

-- where it is mixed it is that word
last-mixed : (b : List ℕ) → last_of (segments b) < 2 ^ 32 → is_mixed (last_of (segments b)) ≡ true
    → last_of (segments b) ≡ last_dirty (pieces 0 b)
unfolding is_mixed fill all_set
last-mixed b low m = go (last_flat (pieces 0 b) (pieces-some 0 b))
  where
    is : last_of (flat 32 (pieces 0 b)) ≡ last_of (segments b)
    is = ap last_of (flat-pieces 0 b)

    go : (last_of (flat 32 (pieces 0 b)) ≡ last_dirty (pieces 0 b)) ⊎ ((v : ℕ) × (last_of (flat 32 (pieces 0 b)) ≡ v * 4294967295))
        → last_of (segments b) ≡ last_dirty (pieces 0 b)
    go (inl e) = sym is ∙ e
    go (inr e) =
        let p = both (not (eqb (last_of (segments b)) 0)) (not (eqb (last_of (segments b)) 4294967295)) m in
        let f : last_of (segments b) ≡ 0 → ⊥ = eqb-false (last_of (segments b)) 0 (not-true _ p.0) in
        let g : last_of (segments b) ≡ 4294967295 → ⊥ = eqb-false (last_of (segments b)) 4294967295 (not-true _ p.1) in
        absurd (omega (arith, is, e.1))

-- ---- segments as they are put

-- the last word x of R rows is of one kind, with its pad bits taken for rows and without them
abbrev Alike : (R x : ℕ) → Type 0
Alike R x = kind 32 x ≡ kind (last_rows 32 R) (x % last_limit 32 R)

seen_last : (R : ℕ) (xs : List ℕ) → Alike R (last_of xs) → map (kind 32) xs ≡ kinds 32 R (cut 32 R xs)
unfolding kinds cut last_of
seen_last R [] e = refl
seen_last R (x ∷ []) e = ap (λ (s : Segment). s ∷ []) e
seen_last R (x ∷ y ∷ []) e = ap (λ (s : Segment). kind 32 x ∷ s ∷ []) e
seen_last R (x ∷ y ∷ z ∷ zs) e = ap (λ (l : List Segment). kind 32 x ∷ l) (seen_last R (y ∷ z ∷ zs) e)

take-map : (n : ℕ) (xs : List ℕ) → take n (map (kind 32) xs) ≡ map (kind 32) (take n xs)
take-map zero xs = refl
take-map (suc n) [] = refl
take-map (suc n) (x ∷ xs) = ap (λ (l : List Segment). kind 32 x ∷ l) (take-map n xs)

-- a segment of fewer rows than 32, all of them set, is no dirty word
word-other : (a z : ℕ) → 0 < a → a < 32 → word 32 (kind a z) ≡ 2 ^ a - 1 → ⊥
unfolding word kind fill all_set
word-other a z pos le e = go (eqb z 0) (eqb z (2 ^ a - 1)) refl e
  where
    go : (s t : Bool) → eqb z (2 ^ a - 1) ≡ t → word 32 (cond s (clean 0) (cond t (clean 1) (mixed z))) ≡ 2 ^ a - 1 → ⊥
    go true t g q = let p : 2 ^ 1 ≤ 2 ^ a = pow_mono {i = 1} {j = a} pos in omega arith
    go false true g q = let p : 2 ^ a ≤ 2 ^ 31 = pow_mono {i = a} {j = 31} (omega arith) in omega arith
    go false false g q = eqb-false z (2 ^ a - 1) g q

-- where there are segments there are words
some_words : (b : List ℕ) → 0 < length (segments b) → 0 < length b
unfolding decode
some_words [] h = h
some_words (x ∷ b) h = omega arith

-- the word of a run's value times a mask
pub run_fits : (v ones : ℕ) → v < 2 → ones < 2 ^ 32 → v * ones < 2 ^ 32
run_fits zero ones l h = omega arith
run_fits (suc zero) ones l h = omega arith
run_fits (suc (suc v)) ones l h = absurd (omega arith)

-- ---- a sound body of 32-bit words that was walked

pub record Over (R : ℕ) (b : List ℕ) (before w : Writer) : Type 0 where
  pub facts : EwahFacts R b
  pub words : Words b
  pub walked : Walked b before w

module _ {R : ℕ} {b : List ℕ} {before w : Writer} (g : Over R b before w) where
  abbrev ss : List Segment
  ss = kinds 32 R (from_rows 32 R (rows_of Ewah b))

  -- the answer: the body is in canonical form, and its place is that of v with the rows x
  abbrev Found : Writer → ℕ → Type 0
  Found v x = Canonical Ewah R b × PlaceOf R (rows_of Ewah b) b (record { writer = v; part = x })

  cut-is : cut 32 R (segments b) ≡ from_rows 32 R (rows_of Ewah b)
  unfolding rows_of
  cut-is = cut-decide 32 (omega arith) R (rows_of Ewah b) (segments b) g.facts.count (decoded-words b g.words) (λ r h. refl)

  found : Alike R (last_of (segments b)) → (v : Writer) (x : ℕ) → Resumes b v (draft_of b (R / 32))
      → x ≡ word_of (R % 32) (λ j. rows_of Ewah b (R / 32 * 32 + j)) → Found v x
  unfolding canonical ewah_of
  found alike v x r p =
      let e : map (kind 32) (segments b) ≡ ss = seen_last R (segments b) alike ∙ ap (kinds 32 R) cut-is in
      let whole : draft_of b (R / 32) ≡ whole_of R (rows_of Ewah b) =
      ap (foldl put blank) (sym (take-map (R / 32) (segments b)) ∙ ap (take (R / 32)) e) in
      let all : draft_of b (length (segments b)) ≡ foldl put blank ss =
      ap (λ (l : List ℕ). foldl put blank (map (kind 32) l)) (take_all (length (segments b)) (segments b) (omega arith))
      ∙ ap (foldl put blank) e in (
        sym (take_all w.used b (omega (arith, g.walked.all))) ∙ g.walked.drawn.words ∙ ap body all,
        record {
          tracks = subst (λ (d : Draft). Tracks v d) whole r.tracks;
          inside = r.inside;
          words = r.words ∙ ap body whole;
          part-is = p;
        },
      )

  -- every segment has 32 rows
  pub found-even : R % 32 ≡ 0 → Found w 0
  unfolding last_rows last_limit segment_count word_of last_of kind
  found-even z =
      let all : Resumes b w (draft_of b (length (segments b))) =
      drawn-resumes (draft_of b (length (segments b))) g.walked.drawn (omega (arith, g.walked.all)) in
      found (alike (dec_le 1 R)) w 0 (subst (λ (k : ℕ). Resumes b w (draft_of b k)) n all) (rw z)
    where
      n : length (segments b) ≡ R / 32
      n = g.facts.count ∙ omega arith

      none : (xs : List ℕ) → length xs ≡ 0 → Alike R (last_of xs)
      none [] e = rw (zero-mod (last_limit 32 R))
      none (y ∷ ys) e = absurd (omega arith)

      alike : Dec (1 ≤ R) → Alike R (last_of (segments b))
      alike (yes h) =
          let full : (R - 1) % 32 + 1 ≡ 32 = omega arith in
          let is = last-get_d (segments b) (R / 32 - 1) (n ∙ omega arith) in
          let low : last_of (segments b) < 2 ^ 32 = omega (arith, is, decoded-words b g.words (R / 32 - 1)) in
          rw (full, mod-eq_of_lt low)
      alike (no h) = none (segments b) (n ∙ omega arith)

  -- the last has a rows, fewer than 32
  module _ {a : ℕ} (a-is : a ≡ R % 32) (pos : a ≡ 0 → ⊥) where
    count : length (segments b) ≡ suc (R / 32)
    unfolding segment_count
    count = g.facts.count ∙ omega arith

    -- what `back` is asked with
    pub last-marker : LastMarker b (length (segments b)) before w
    last-marker = g.walked.last (some_words b (omega (arith, count)))

    abbrev Back : Writer → Type 0
    Back v = Resumes b v (draft_of b (length (segments b) - 1))

    back_is : (v : Writer) → Back v → Resumes b v (draft_of b (R / 32))
    back_is v r =
        let e : length (segments b) - 1 ≡ R / 32 = omega (arith, count) in
        subst (λ (k : ℕ). Resumes b v (draft_of b k)) e r

    -- its word
    abbrev x : ℕ
    x = get_or (segments b) (R / 32) 0

    at-end : get_or (segments b) (length (segments b) - 1) 0 ≡ x
    at-end = ap (λ (k : ℕ). get_or (segments b) k 0) (omega (arith, count))

    last-is : last_of (segments b) ≡ x
    last-is = last-get_d (segments b) (R / 32) count

    rows_are : last_rows 32 R ≡ a
    unfolding last_rows
    rows_are = omega arith

    limit_is : last_limit 32 R ≡ 2 ^ a
    unfolding last_limit
    limit_is = ap (λ (k : ℕ). 2 ^ k) rows_are

    part-word : word_of (R % 32) (λ j. rows_of Ewah b (R / 32 * 32 + j)) ≡ x % 2 ^ a
    unfolding rows_of
    part-word =
        let q : ℕ → Bool = λ j. eqb (x / 2 ^ j % 2) 1 in
        let e : a + (32 - a) ≡ 32 = omega arith in
        ap (λ (k : ℕ). word_of k (λ j. has_row 32 (segments b) (R / 32 * 32 + j))) (sym a-is)
        ∙ word-ext a (λ j. has_row 32 (segments b) (R / 32 * 32 + j)) q
        (λ j h. has-at 32 (omega arith) (segments b) (R / 32) j (omega arith))
        ∙ sym (rw e at (word_low a (32 - a) q))
        ∙ ap (λ (k : ℕ). k % 2 ^ a) (word-self 32 x (decoded-words b g.words (R / 32)))

    -- of a clean run; `ones` has all its rows set
    pub found-run : w.last.dirty ≡ 0 → (ones : ℕ) → ones ≡ 2 ^ a - 1 → (v : Writer) → Back v
        → Found v (w.last.value * ones)
    unfolding fill all_set
    found-run none ones e v r =
        let value = w.last.value in
        let low : value < 2 = last-marker.in-range.value_low in
        let run : x ≡ fill 32 value = sym at-end ∙ last-marker.run_end none in
        let its : x % 2 ^ a ≡ fill a value =
        ap₂ (λ (k n : ℕ). k % n) run (sym limit_is)
        ∙ fill-cut 32 R (omega arith) value low
        ∙ ap (λ (k : ℕ). fill k value) rows_are in
        let alike : Alike R (last_of (segments b)) =
        ap (kind 32) (last-is ∙ run) ∙ kind-fill 32 value (omega arith) low
        ∙ sym (ap₂ (λ (k n : ℕ). kind k n) rows_are (rw (last-is, limit_is) its) ∙ kind-fill a value (omega arith) low) in
        found alike v (value * ones) (back_is v r) (ap (λ (k : ℕ). value * k) e ∙ sym (part-word ∙ its))

    -- a dirty word
    module _ (some : w.last.dirty ≡ 0 → ⊥) (y : ℕ) (y-is : y ≡ get_or b (length b - 1) 0) where
      is_last : y ≡ x
      is_last =
          y-is
          ∙ ap (λ (k : ℕ). get_or b (k - 1) 0) (sym g.walked.all)
          ∙ sym (last-marker.word_end some)
          ∙ at-end

      clear : x < 2 ^ a
      clear =
          let m : is_mixed (last_of (segments b)) ≡ true =
          ap is_mixed (last-is ∙ sym at-end ∙ last-marker.word_end some) ∙ last-marker.end-mixed some in
          let low : last_of (segments b) < 2 ^ 32 = omega (arith, last-is, decoded-words b g.words (R / 32)) in
          omega (arith, last-mixed b low m, last-is, g.facts.pads, limit_is)

      pub found_word : (y ≡ 2 ^ a - 1 → ⊥) → (v : Writer) → Back v → Found v y
      unfolding all_set
      found_word other v r =
          let its : x % 2 ^ a ≡ x = mod-eq_of_lt clear in
          let alike : Alike R (last_of (segments b)) =
          ap (kind 32) last-is ∙ kind-wider 32 a x (omega arith) clear (λ e. other (is_last ∙ e))
          ∙ sym (ap₂ (λ (k n : ℕ). kind k n) rows_are (rw (last-is, limit_is) its)) in
          found alike v y (back_is v r) (is_last ∙ sym (part-word ∙ its))

      pub not-word : y ≡ 2 ^ a - 1 → Canonical Ewah R b → ⊥
      not-word e c =
          let p = rows_of Ewah b in
          let xs = from_rows 32 R p in
          let n : suc (R / 32) ≡ length xs = omega (arith, from-length 32 (omega arith) R p, g.facts.count, count) in
          let made : segments b ≡ map (word 32) (kinds 32 R xs) =
          ap segments (c ∙ canonical-is R p) ∙ encoded-decodes R xs (from-below 32 (omega arith) R p) in
          let q : x ≡ word 32 (kind a (get_or xs (R / 32) 0)) =
          ap₂ (λ (l : List ℕ) (z : ℕ). get_or l (R / 32) z) made (sym nought)
          ∙ get_or-map (word 32) (kinds 32 R xs) (R / 32) (clean 0)
          ∙ ap (word 32) (kinds-end 32 R xs (R / 32) (clean 0) n ∙ ap (λ (k : ℕ). kind k (get_or xs (R / 32) 0)) rows_are) in
          word-other a (get_or xs (R / 32) 0) (omega arith) (omega arith) (sym (is_last ∙ q) ∙ e)
        where
          nought : word 32 (clean 0) ≡ 0
          nought = unfold word fill in refl
