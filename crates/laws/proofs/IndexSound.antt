-- An index is sound exactly if the plain facts of `IndexFacts` hold.
-- Assumes nothing.
use Prim.Native.Nat.{ℕ, zero, suc, ◌+◌, ◌≤◌, ◌<◌}
use mathlib.Core.Bool.{Bool, true, false, cond, not, ◌||◌}
use mathlib.Core.Path.{◌≡◌, refl, ap, ◌∙◌, subst}
use mathlib.Core.List.{List}
use lib.Dec.{eqb, ltb}
use lib.ListN.{length, get_or}
use native.Mathlib.Omega.{arith}
use native.Mathlib.Decide.{dec_le}
use borrow.Author.Tests.{ltb-false, le-ltb, eqb-true, eq-eqb, not-false}
use Rattle.meaning.specs.Limits.{most_rows, most_bitmaps, most_index_words, ewah_kind, wah_kind, head_words}
use Rattle.meaning.specs.Refusal.{sound, ◌then◌}
use Rattle.meaning.specs.Format.{kind_of, body_fault}
use Rattle.meaning.specs.declared.Format.TheVariants.{Ewah, Wah}
use Rattle.meaning.specs.Index.{is_kind, format_of, row_count, bitmap_count, entry_place, start_of, length_of, body_place, body_at, head_fault, entries_fault, bodies_fault, index_fault, SoundIndex}
use Rattle.laws.specs.Laws.{SoundFacts, HeadFacts, EntryFacts, IndexFacts, IndexMeans}
use Rattle.laws.proofs.Decoded.{let_through}
use Rattle.laws.proofs.Formats.{fault-means}
use Rattle.laws.proofs.Outcomes.{refuse-answer, then-answer, then-sound}

or-false-true : (a : Bool) → a || false ≡ true → a ≡ true
or-false-true true e = refl
or-false-true false e = e

or_yes : (a : Bool) → a || true ≡ true
or_yes true = refl
or_yes false = refl

-- a kind is that of the format which it states
kind-is : (index : List ℕ) → is_kind (get_or index 0 0) ≡ true → get_or index 0 0 ≡ kind_of (format_of index)
unfolding is_kind format_of
kind-is index e = go (get_or index 0 0) (eqb (get_or index 0 0) wah_kind) refl e
  where
    go : (x : ℕ) (t : Bool) → eqb x wah_kind ≡ t → eqb x ewah_kind || t ≡ true → x ≡ kind_of (cond t Wah Ewah)
    go x true f e = eqb-true x wah_kind f
    go x false f e = eqb-true x ewah_kind (or-false-true (eqb x ewah_kind) e)

is-kind : (index : List ℕ) → get_or index 0 0 ≡ kind_of (format_of index) → is_kind (get_or index 0 0) ≡ true
unfolding is_kind format_of
is-kind index e = go (get_or index 0 0) (eqb (get_or index 0 0) wah_kind) refl e
  where
    go : (x : ℕ) (t : Bool) → eqb x wah_kind ≡ t → x ≡ kind_of (cond t Wah Ewah) → eqb x ewah_kind || eqb x wah_kind ≡ true
    go x true f e = rw (eq-eqb x wah_kind e, or_yes (eqb x ewah_kind))
    go x false f e = rw (eq-eqb x ewah_kind e)

not_equal : (m n : ℕ) → not (eqb m n) ≡ false → m ≡ n
not_equal m n e = eqb-true m n (not-false (eqb m n) e)

module _ (index : List ℕ) where
  abbrev N : ℕ
  N = bitmap_count index

  abbrev n : ℕ
  n = length index

  -- ---- the head

  pub head-facts : head_fault index ≡ sound → HeadFacts index
  unfolding head_fault
  head-facts e =
      let a = refuse-answer (ltb most_index_words n) 3 0 0 _ tt e in
      let b = refuse-answer (ltb n head_words) 1 0 n _ tt a.1 in
      let c = refuse-answer (not (is_kind (get_or index 0 0))) 2 0 0 _ tt b.1 in
      let d = refuse-answer (ltb most_rows (row_count index)) 3 0 1 _ tt c.1 in
      let f = refuse-answer (ltb most_bitmaps N) 3 0 2 _ tt d.1 in
      let g = refuse-answer (ltb n (entry_place index N)) 1 0 n _ tt f.1 in
      record {
        few_words = ltb-false most_index_words n a.0;
        head = ltb-false n head_words b.0;
        kind = kind-is index (not-false (is_kind (get_or index 0 0)) c.0);
        few-rows = ltb-false most_rows (row_count index) d.0;
        few-bitmaps = ltb-false most_bitmaps N f.0;
        contents = ltb-false n (entry_place index N) g.0;
      }

  facts-head : HeadFacts index → head_fault index ≡ sound
  unfolding head_fault
  facts-head h =
      let_through (ltb most_index_words n) 3 0 0 _ (le-ltb most_index_words n h.few_words)
      (let_through (ltb n head_words) 1 0 n _ (le-ltb n head_words h.head)
      (let_through (not (is_kind (get_or index 0 0))) 2 0 0 _ (ap not (is-kind index h.kind))
      (let_through (ltb most_rows (row_count index)) 3 0 1 _ (le-ltb most_rows (row_count index) h.few-rows)
      (let_through (ltb most_bitmaps N) 3 0 2 _ (le-ltb most_bitmaps N h.few-bitmaps)
      (let_through (ltb n (entry_place index N)) 1 0 n _ (le-ltb n (entry_place index N) h.contents)
      refl)))))

  -- ---- the entries

  -- from entry k on, `more` of them
  pub record Entries (k more : ℕ) : Type 0 where
    pub starts : (i : ℕ) → k ≤ i → i < k + more → start_of index i ≡ body_place index i
    pub ends : (i : ℕ) → k < i → i ≤ k + more → body_place index i ≤ n
    pub last : n ≤ body_place index (k + more)

  pub entries-sound : (more k : ℕ) → entries_fault index k more (body_place index k) ≡ sound → Entries k more
  unfolding entries_fault body_place
  entries-sound zero k e =
      let p = refuse-answer (ltb (body_place index k) n) 4 0 (body_place index k) sound tt e in
      let z : k + 0 ≡ k = omega arith in
      record {
        starts = λ i a b. absurd (omega arith);
        ends = λ i a b. absurd (omega arith);
        last = rw z (ltb-false (body_place index k) n p.0);
      }
  entries-sound (suc more) k e =
      let p = refuse-answer (not (eqb (start_of index k) (body_place index k))) 4 k (entry_place index k) _ tt e in
      let q = refuse-answer (ltb n (body_place index k + length_of index k)) 4 k (entry_place index k + 1) _ tt p.1 in
      let f = entries-sound more (suc k) q.1 in
      let here : start_of index k ≡ body_place index k = not_equal (start_of index k) (body_place index k) p.0 in
      let end : body_place index (suc k) ≤ n = ltb-false n (body_place index k + length_of index k) q.0 in
      let z : k + suc more ≡ suc k + more = omega arith in
      record {
        starts = λ i a b. first here f.starts i a (omega arith);
        ends = λ i a b. later end f.ends i a (omega arith);
        last = rw z f.last;
      }
    where
      first : start_of index k ≡ body_place index k → ((i : ℕ) → suc k ≤ i → i < suc k + more → start_of index i ≡ body_place index i) → (i : ℕ) → k ≤ i → i < suc k + more → start_of index i ≡ body_place index i
      first h g i a b = elim (dec_le (suc k) i) [
        | yes l ↦ g i l b
        | no l ↦ let is : k ≡ i = omega arith in subst (λ (j : ℕ). start_of index j ≡ body_place index j) is h
      ]

      later : body_place index (suc k) ≤ n → ((i : ℕ) → suc k < i → i ≤ suc k + more → body_place index i ≤ n) → (i : ℕ) → k < i → i ≤ suc k + more → body_place index i ≤ n
      later h g i a b = elim (dec_le (suc (suc k)) i) [
        | yes l ↦ g i l b
        | no l ↦ let is : suc k ≡ i = omega arith in subst (λ (j : ℕ). body_place index j ≤ n) is h
      ]

  sound-entries : (more k : ℕ) → Entries k more → entries_fault index k more (body_place index k) ≡ sound
  unfolding entries_fault body_place
  sound-entries zero k f =
      let z : k + 0 ≡ k = omega arith in
      let h : n ≤ body_place index k = rw z at f.last in
      let_through (ltb (body_place index k) n) 4 0 (body_place index k) sound (le-ltb (body_place index k) n h) refl
  sound-entries (suc more) k f =
      let z : k + suc more ≡ suc k + more = omega arith in
      let s : start_of index k ≡ body_place index k = f.starts k (omega arith) (omega arith) in
      let e : body_place index (suc k) ≤ n = f.ends (suc k) (omega arith) (omega arith) in
      let_through (not (eqb (start_of index k) (body_place index k))) 4 k (entry_place index k) _ (ap not (eq-eqb (start_of index k) (body_place index k) s))
      (let_through (ltb n (body_place index k + length_of index k)) 4 k (entry_place index k + 1) _ (le-ltb n (body_place index k + length_of index k) e)
      (sound-entries more (suc k) (record { starts = λ i a b. f.starts i (omega arith) (omega arith); ends = λ i a b. f.ends i (omega arith) (omega arith); last = rw z at f.last })))

  -- ---- the bodies

  pub bodies-sound : (more k : ℕ) → bodies_fault index k more ≡ sound → (i : ℕ) → k ≤ i → i < k + more → SoundFacts (format_of index) (row_count index) (body_at index i)
  unfolding bodies_fault
  bodies-sound zero k e i a b = absurd (omega arith)
  bodies-sound (suc more) k e i a b =
      let p = then-answer (body_fault (format_of index) k (start_of index k) (row_count index) (body_at index k)) (bodies_fault index (suc k) more) tt e in
      elim (dec_le (suc k) i) [
        | yes l ↦ bodies-sound more (suc k) p.1 i l (omega arith)
        | no l ↦ let is : k ≡ i = omega arith in subst (λ (j : ℕ). SoundFacts (format_of index) (row_count index) (body_at index j)) is ((fault-means (format_of index) k (start_of index k) (row_count index) (body_at index k)).0 p.0)
      ]

  sound-bodies : (more k : ℕ) → ((i : ℕ) → k ≤ i → i < k + more → SoundFacts (format_of index) (row_count index) (body_at index i)) → bodies_fault index k more ≡ sound
  unfolding bodies_fault
  sound-bodies zero k f = refl
  sound-bodies (suc more) k f =
      then-sound (body_fault (format_of index) k (start_of index k) (row_count index) (body_at index k)) (bodies_fault index (suc k) more) ((fault-means (format_of index) k (start_of index k) (row_count index) (body_at index k)).1 (f k (omega arith) (omega arith)))
      ∙ sound-bodies more (suc k) (λ i a b. f i (omega arith) (omega arith))

  -- ---- the index

  within : entry_place index N ≤ n → Entries 0 N → (k : ℕ) → k ≤ N → body_place index k ≤ n
  unfolding body_place
  within h e zero l = h
  within h e (suc k) l = e.ends (suc k) (omega arith) (omega arith)

  pub entry-facts : HeadFacts index → entries_fault index 0 N (entry_place index N) ≡ sound → EntryFacts index
  unfolding body_place
  entry-facts h s =
      let e = entries-sound N 0 s in
      let z : 0 + N ≡ N = omega arith in
      let last : n ≤ body_place index N = rw z at e.last in
      let low : body_place index N ≤ n = within h.contents e N (omega arith) in
      record {
        starts = λ k l. e.starts k (omega arith) (omega arith);
        ends = within h.contents e;
        last_end = omega arith;
      }

  facts-entry : EntryFacts index → entries_fault index 0 N (entry_place index N) ≡ sound
  unfolding body_place
  facts-entry f =
      let z : 0 + N ≡ N = omega arith in
      sound-entries N 0 (record { starts = λ i a b. f.starts i (omega arith); ends = λ i a b. f.ends i (omega arith); last = rw z (omega (arith, f.last_end)) })

  index-facts : SoundIndex index → IndexFacts index
  unfolding index_fault
  index-facts s =
      let p = then-answer (head_fault index) (entries_fault index 0 N (entry_place index N) then bodies_fault index 0 N) tt s in
      let q = then-answer (entries_fault index 0 N (entry_place index N)) (bodies_fault index 0 N) tt p.1 in
      let h = head-facts p.0 in
      record { head = h; entries = entry-facts h q.0; bodies = λ k l. bodies-sound N 0 q.1 k (omega arith) (omega arith) }

  facts-index : IndexFacts index → SoundIndex index
  unfolding index_fault
  facts-index f =
      then-sound (head_fault index) (entries_fault index 0 N (entry_place index N) then bodies_fault index 0 N) (facts-head f.head)
      ∙ then-sound (entries_fault index 0 N (entry_place index N)) (bodies_fault index 0 N) (facts-entry f.entries)
      ∙ sound-bodies N 0 (λ i a b. f.bodies i (omega arith))

pub index-means : IndexMeans
index-means index = (index-facts index, facts-index index)
