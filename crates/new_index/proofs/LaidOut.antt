-- The head, the contents and the bodies of a new index, written one behind the other.
-- Assumes nothing.
use Prim.Native.Nat.{ℕ, zero, suc, ◌+◌, ◌-◌, ◌*◌, ◌/◌, ◌%◌, ◌≤◌, ◌<◌}
use mathlib.Core.Path.{◌≡◌, sym, ap, ap₂, ◌∙◌, subst}
use mathlib.Core.List.{List, [], ◌∷◌, ◌++◌, append_assoc, append-nil}
use native.Mathlib.Decide.{dec_le}
use native.Mathlib.Numerals.{add-one}
use native.Mathlib.Omega.{arith}
use lib.ListN.{length, get_or, take, drop, set, length-set, take-append-drop}
use lib.Seq.{get_or-set_same, get_or-set_other, drop-set-lt, ext_get_or, get_or-take, take-add, take_all, length-take-le}
use Rattle.meaning.specs.Limits.{most_segments, most_starts, head_words, entry_words}
use Rattle.meaning.specs.Format.{kind_of}
use Rattle.meaning.specs.declared.Format.{Format}
use Rattle.meaning.specs.Question.{total_words}
use Rattle.meaning.specs.NewIndex.{entries_of, joined, contents_end, assembled}
use Rattle.laws.proofs.NewIndexes.{entries-length, entries-start, entries-words, joined-more, total-more, length-is}
use Rattle.ewah_write.specs.declared.writer.Writer.{Writer}
use Rattle.new_index.specs.Writers.{writer_of, region}
use Rattle.new_index.specs.Layouts.{Headed}

-- ---- the starts

-- the first m bodies have their starts
pub record Starting (ws : List Writer) (from : ℕ) (r : List ℕ) (m : ℕ) : Type 0 where
  pub long : length r ≡ most_starts
  pub first : get_or r 0 0 ≡ from
  pub next : (i : ℕ) → i < m → get_or r (i + 1) 0 ≡ get_or r i 0 + (writer_of ws i).used
  pub low : get_or r m 0 ≤ from + m * (2 * most_segments)

-- ---- the head and the contents

module _ (F : Format) (old : List ℕ) (rows : ℕ) (starts : List ℕ) (count : ℕ) (fits : head_words + entry_words * count ≤ length old) where
  -- one entry more
  module _ (out : List ℕ) (m a l : ℕ) (h : m < count) (ea : a ≡ get_or starts m 0) (el : l ≡ get_or starts (m + 1) 0 - get_or starts m 0)
      (g : Headed F old rows starts count out m) where
    abbrev place : ℕ
    place = head_words + entry_words * m

    abbrev begun : List ℕ
    begun = set out place a

    abbrev out' : List ℕ
    out' = set begun (place + 1) l

    kept : (j : ℕ) → j < place → get_or out' j 0 ≡ get_or out j 0
    kept j k = get_or-set_other begun (place + 1) j l 0 (omega arith) ∙ get_or-set_other out place j a 0 (omega arith)

    entries : (i : ℕ) → i < m + 1
        → (get_or out' (head_words + entry_words * i) 0 ≡ get_or starts i 0)
        × (get_or out' (head_words + entry_words * i + 1) 0 ≡ get_or starts (i + 1) 0 - get_or starts i 0)
    entries i k = elim (dec_le m i) [
      | yes w ↦
          let z : i ≡ m = omega arith in
          rw z (
            get_or-set_other begun (place + 1) place l 0 (omega arith) ∙ get_or-set_same out place a 0 (omega (arith, g.long)) ∙ ea,
            get_or-set_same begun (place + 1) l 0 (simp length-set (omega (arith, g.long))) ∙ el,
          )
      | no w ↦
          let e = g.entries i (omega arith) in
          (kept (head_words + entry_words * i) (omega arith) ∙ e.0, kept (head_words + entry_words * i + 1) (omega arith) ∙ e.1)
    ]

    pub headed-more : Headed F old rows starts count out' (m + 1)
    headed-more = record {
      long = simp length-set g.long;
      kind = kept 0 (omega arith) ∙ g.kind;
      rows_are = kept 1 (omega arith) ∙ g.rows_are;
      count-is = kept 2 (omega arith) ∙ g.count-is;
      entries = entries;
      behind =
          drop-set-lt (head_words + entry_words * count) begun (place + 1) l (omega arith)
          ∙ drop-set-lt (head_words + entry_words * count) out place a (omega arith) ∙ g.behind;
    }

-- ---- the whole index

-- bodies whose parts stand in `out` lie there one behind the other, the first at f
module _ (out starts : List ℕ) (bs : List (List ℕ)) (f : ℕ) (places : (k : ℕ) → k ≤ length bs → get_or starts k 0 ≡ f + total_words (take k bs))
    (parts : (k : ℕ) → k < length bs → region starts out k ≡ get_or bs k []) where
  -- body k's words follow those before it
  part-next : (k : ℕ) → k < length bs → take (length (get_or bs k [])) (drop (f + total_words (take k bs)) out) ≡ get_or bs k []
  part-next k h =
      let next : get_or starts (k + 1) 0 ≡ f + total_words (take (suc k) bs) = ap (λ (j : ℕ). get_or starts j 0) (add-one k) ∙ places (suc k) (omega arith) in
      let here : get_or starts k 0 ≡ f + total_words (take k bs) = places k (omega arith) in
      let long : get_or starts (k + 1) 0 - get_or starts k 0 ≡ length (get_or bs k []) = omega (arith, next, here, total-more bs k h) in
      ap₂ (λ (n m : ℕ). take n (drop m out)) (sym long) (sym here) ∙ parts k h

  joined-take : (k : ℕ) → k ≤ length bs → take (f + total_words (take k bs)) out ≡ take f out ++ joined (take k bs)
  unfolding total_words joined
  joined-take zero h = let z : f + 0 ≡ f = omega arith in ap (λ (n : ℕ). take n out) z ∙ sym (append-nil (take f out))
  joined-take (suc k) h =
      let long : f + total_words (take (suc k) bs) ≡ (f + total_words (take k bs)) + length (get_or bs k []) = omega (arith, total-more bs k (omega arith)) in
      ap (λ (n : ℕ). take n out) long
      ∙ take-add (f + total_words (take k bs)) (length (get_or bs k [])) out
      ∙ ap₂ (λ (u v : List ℕ). u ++ v) (joined-take k (omega arith)) (part-next k (omega arith))
      ∙ append_assoc (take f out) (joined (take k bs)) (get_or bs k [])
      ∙ ap (λ (v : List ℕ). take f out ++ v) (sym (joined-more bs k (omega arith)))

  pub laid_out : (old : List ℕ) → drop (f + total_words bs) out ≡ drop (f + total_words bs) old
      → out ≡ take f out ++ joined bs ++ drop (f + total_words bs) old
  laid_out old h =
      let all : take (length bs) bs ≡ bs = take_all (length bs) bs (omega arith) in
      let front : take (f + total_words bs) out ≡ take f out ++ joined bs =
      subst (λ (c : List (List ℕ)). take (f + total_words c) out ≡ take f out ++ joined c) all (joined-take (length bs) (omega arith)) in
      sym (take-append-drop (f + total_words bs) out) ∙ ap₂ (λ (u v : List ℕ). u ++ v) front h

  -- behind the head and the contents of an index of the bodies they are that index
  pub assembled-out : (F : Format) (rows : ℕ) (old : List ℕ) → f ≡ contents_end (length bs)
      → take f out ≡ kind_of F ∷ rows ∷ length bs ∷ entries_of (contents_end (length bs)) bs
      → drop (f + total_words bs) out ≡ drop (f + total_words bs) old
      → out ≡ assembled F rows bs ++ drop (length (assembled F rows bs)) old
  unfolding assembled
  assembled-out F rows old e head h =
      laid_out old h
      ∙ ap (λ (l : List ℕ). l ++ joined bs ++ drop (f + total_words bs) old) head
      ∙ ap (λ (n : ℕ). assembled F rows bs ++ drop n old) (ap (λ (n : ℕ). n + total_words bs) e ∙ sym (length-is F rows bs))

-- the head and the contents that are written are those of the index of the bodies
module _ (F : Format) (old out starts : List ℕ) (rows : ℕ) (bs : List (List ℕ)) (g : Headed F old rows starts (length bs) out (length bs))
    (fits : contents_end (length bs) ≤ length old)
    (places : (k : ℕ) → k ≤ length bs → get_or starts k 0 ≡ contents_end (length bs) + total_words (take k bs)) where
  abbrev N : ℕ
  N = length bs

  abbrev contents : List ℕ
  contents = entries_of (contents_end N) bs

  abbrev head : List ℕ
  head = kind_of F ∷ rows ∷ N ∷ contents

  head-length : length head ≡ contents_end N
  unfolding contents_end
  head-length = omega (arith, entries-length (contents_end N) bs)

  -- the two words of entry k
  start_word : (k : ℕ) → k < N → get_or out (3 + 2 * k) 0 ≡ get_or contents (2 * k) 0
  start_word k l = (g.entries k l).0 ∙ places k (omega arith) ∙ sym (entries-start (contents_end N) bs k l)

  length-word : (k : ℕ) → k < N → get_or out (3 + 2 * k + 1) 0 ≡ get_or contents (2 * k + 1) 0
  length-word k l =
      let next : get_or starts (k + 1) 0 ≡ contents_end N + total_words (take (suc k) bs) = ap (λ (j : ℕ). get_or starts j 0) (add-one k) ∙ places (suc k) (omega arith) in
      let long : get_or starts (k + 1) 0 - get_or starts k 0 ≡ length (get_or bs k []) = omega (arith, next, places k (omega arith), total-more bs k l) in
      (g.entries k l).1 ∙ long ∙ sym (entries-words (contents_end N) bs k l)

  -- word i behind the head: the first or the second of its entry
  entry-word : (i : ℕ) → i < 2 * N → get_or out (3 + i) 0 ≡ get_or contents i 0
  entry-word i l = elim (dec_le 1 (i % 2)) [
    | yes w ↦
        let odd : i ≡ 2 * (i / 2) + 1 = omega arith in
        let a : 3 + i ≡ 3 + 2 * (i / 2) + 1 = omega arith in
        ap (λ (k : ℕ). get_or out k 0) a ∙ length-word (i / 2) (omega arith) ∙ ap (λ (k : ℕ). get_or contents k 0) (sym odd)
    | no w ↦
        let even : i ≡ 2 * (i / 2) = omega arith in
        let a : 3 + i ≡ 3 + 2 * (i / 2) = omega arith in
        ap (λ (k : ℕ). get_or out k 0) a ∙ start_word (i / 2) (omega arith) ∙ ap (λ (k : ℕ). get_or contents k 0) (sym even)
  ]

  each : (i : ℕ) → i < 3 + 2 * N → get_or out i 0 ≡ get_or head i 0
  each zero l = g.kind
  each (suc zero) l = g.rows_are
  each (suc (suc zero)) l = g.count-is
  each (suc (suc (suc i))) l =
      let a : suc (suc (suc i)) ≡ 3 + i = omega arith in
      ap (λ (k : ℕ). get_or out k 0) a ∙ entry-word i (omega arith)

  pub contents-are : take (contents_end N) out ≡ head
  unfolding contents_end
  contents-are =
      let long : length (take (3 + 2 * N) out) ≡ 3 + 2 * N = length-take-le (3 + 2 * N) out (omega (arith, g.long)) in
      ext_get_or 0 (take (3 + 2 * N) out) head (long ∙ sym head-length) (λ i l. get_or-take (3 + 2 * N) out i 0 (omega (arith, long)) ∙ each i (omega (arith, long)))
