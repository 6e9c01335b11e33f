-- A buffer that gets the head of a sound index, then each body and its entry: it has the whole index in the end.
-- Assumes nothing.
use Prim.Native.Nat.{ℕ, zero, suc, ◌+◌, ◌-◌, ◌≤◌, ◌<◌}
use mathlib.Core.Path.{◌≡◌, refl, sym, ap, ap₂, ◌∙◌, subst}
use mathlib.Core.List.{List, ◌++◌, append-nil}
use native.Mathlib.Decide.{dec_le}
use native.Mathlib.Numerals.{add-one}
use native.Mathlib.Omega.{arith}
use lib.ListN.{length, get_or, take, drop, set, take-append-drop, drop_of_length-le, get_or-append}
use lib.ListN.{length-set, length-append, length-drop}
use lib.Seq.{get_or-set_same, get_or-set_other, get_or-append-add, get_or-take, get_or-drop, ext_get_or, length-take-le, take_all}
use lib.Seq.{drop-append-add, drop-append_seam, drop-drop, drop-set-lt}
use Rattle.meaning.specs.Limits.{most_index_words}
use Rattle.meaning.specs.Index.{row_count, bitmap_count, entry_place, start_of, length_of, body_place, body_at}
use Rattle.laws.specs.Laws.{IndexFacts}
use Rattle.contents.proofs.Places.{body-length}
use Rattle.archive.specs.Anew.{Begun}

-- ---- words put into a buffer

-- the words b, from place p on
abbrev spliced : (out b : List ℕ) (p : ℕ) → List ℕ
spliced out b p = take p out ++ (b ++ drop (length b) (drop p out))

module _ (out b : List ℕ) (p : ℕ) (h : p + length b ≤ length out) where
  abbrev rest : List ℕ
  rest = drop p out

  seam : length (take p out) ≡ p
  seam = length-take-le p out (omega arith)

  spliced_long : length (spliced out b p) ≡ length out
  spliced_long =
      omega (
        arith,
        length-append (take p out) (b ++ drop (length b) rest),
        length-append b (drop (length b) rest),
        length-drop (length b) rest,
        length-drop p out,
        seam,
      )

  -- before them, at them and behind them
  spliced-before : (i : ℕ) → i < p → get_or (spliced out b p) i 0 ≡ get_or out i 0
  spliced-before i l =
      get_or-append (take p out) (b ++ drop (length b) rest) 0 i (omega (arith, seam)) ∙ get_or-take p out i 0 l

  spliced-at : (j : ℕ) → j < length b → get_or (spliced out b p) (p + j) 0 ≡ get_or b j 0
  spliced-at j l =
      ap (λ (q : ℕ). get_or (spliced out b p) (q + j) 0) (sym seam)
      ∙ get_or-append-add (take p out) (b ++ drop (length b) rest) j 0
      ∙ get_or-append b (drop (length b) rest) 0 j l

  spliced-behind : drop (p + length b) (spliced out b p) ≡ drop (length b) rest
  spliced-behind =
      ap (λ (q : ℕ). drop (q + length b) (spliced out b p)) (sym seam)
      ∙ drop-append-add (take p out) (b ++ drop (length b) rest) (length b)
      ∙ drop-append_seam b (drop (length b) rest)

  -- the part from p on has room for them,
  pub part_room : length b ≤ length (take (length out - p) rest)
  part_room = let l = length-drop p out in omega (arith, l, length-take-le (length out - p) rest (omega (arith, l)))

  -- and where it was lent, and came back with them at its front, they are put into the buffer
  module _ (back : List ℕ) (e : back ≡ b ++ drop (length b) (take (length out - p) rest)) where
    lent : take p out ++ (back ++ drop (length out - p) rest) ≡ spliced out b p
    lent =
        let n : length rest ≤ length out - p = omega (arith, length-drop p out) in
        let whole = take_all (length out - p) rest n in
        ap (λ (l : List ℕ). take p out ++ l)
        (ap₂ (λ (u v : List ℕ). u ++ v) (e ∙ ap (λ (l : List ℕ). b ++ drop (length b) l) whole) (drop_of_length-le rest n)
        ∙ append-nil (b ++ drop (length b) rest))

    pub lent-long : length (take p out ++ (back ++ drop (length out - p) rest)) ≡ length out
    lent-long = ap length lent ∙ spliced_long

-- ---- the buffer of a sound index

module _ (t : List ℕ) (f : IndexFacts t) where
  -- a body ends where the next one starts
  pub words_of : (k : ℕ) → k < bitmap_count t → body_place t (k + 1) ≡ body_place t k + length (body_at t k)
  unfolding body_place
  words_of k h = ap (body_place t) (add-one k) ∙ ap (λ (n : ℕ). body_place t k + n) (sym (body-length t k f.entries h))

  -- and not behind the index
  pub within : (k : ℕ) → k < bitmap_count t → (body_place t (k + 1) ≤ length t) × (length t ≤ most_index_words)
  within k h = (f.entries.ends (k + 1) (omega arith), f.head.few_words)

  -- the entries lie before every body
  pub entries-before : (k : ℕ) → entry_place t (bitmap_count t) ≤ body_place t k
  unfolding body_place
  entries-before zero = omega arith
  entries-before (suc k) = omega (arith, entries-before k)

  -- a word of body k
  body-word : (k j : ℕ) → k < bitmap_count t → j < length (body_at t k)
      → get_or (body_at t k) j 0 ≡ get_or t (body_place t k + j) 0
  unfolding body_at
  body-word k j h l =
      get_or-take (length_of t k) (drop (start_of t k) t) j 0 (omega (arith, body-length t k f.entries h))
      ∙ get_or-drop (start_of t k) t j 0
      ∙ ap (λ (p : ℕ). get_or t (p + j) 0) (f.entries.starts k h)

  -- ---- the head alone

  module _ (old : List ℕ) (h : length t ≤ length old) (kind rows count : ℕ)
      (is-kind : kind ≡ get_or t 0 0) (is-rows : rows ≡ row_count t) (is-count : count ≡ bitmap_count t) where
    abbrev one : List ℕ
    one = set old 0 kind

    abbrev two : List ℕ
    two = set one 1 rows

    three : 3 ≤ length old
    three = omega (arith, f.head.head)

    head-words : (i : ℕ) → i < entry_place t 0 → get_or (set two 2 count) i 0 ≡ get_or t i 0
    unfolding entry_place row_count bitmap_count
    head-words zero l =
        get_or-set_other two 2 0 count 0 (omega arith)
        ∙ get_or-set_other one 1 0 rows 0 (omega arith)
        ∙ get_or-set_same old 0 kind 0 (omega (arith, three))
        ∙ is-kind
    head-words (suc zero) l =
        get_or-set_other two 2 1 count 0 (omega arith)
        ∙ get_or-set_same one 1 rows 0 (omega (arith, three, length-set old 0 kind))
        ∙ is-rows
    head-words (suc (suc zero)) l =
        get_or-set_same two 2 count 0 (omega (arith, three, length-set old 0 kind, length-set one 1 rows)) ∙ is-count
    head-words (suc (suc (suc i))) l = absurd (omega arith)

    behind-head : (n : ℕ) → 3 ≤ n → drop n (set two 2 count) ≡ drop n old
    behind-head n l =
        drop-set-lt n two 2 count (omega arith)
        ∙ drop-set-lt n one 1 rows (omega arith)
        ∙ drop-set-lt n old 0 kind (omega arith)

    pub begun-none : Begun t old (set (set (set old 0 kind) 1 rows) 2 count) 0
    unfolding entry_place body_place
    begun-none = record {
      long = simp length-set refl;
      front = head-words;
      bodies = λ i l m. absurd (omega arith);
      behind = behind-head (body_place t 0) (omega arith);
    }

  -- ---- one body more, and its entry

  module _ (old out : List ℕ) (k : ℕ) (h : k < bitmap_count t) (room : length t ≤ length out)
      (g : Begun t old out k) where
    abbrev at : ℕ
    at = body_place t k

    abbrev b : List ℕ
    b = body_at t k

    abbrev entry : ℕ
    entry = entry_place t k

    -- the body alone, then the entry's first word, then both
    abbrev mid : List ℕ
    mid = spliced out b at

    abbrev begun : List ℕ
    begun = set mid entry at

    abbrev next : List ℕ
    next = set begun (entry + 1) (length b)

    fits : at + length b ≤ length out
    fits = omega (arith, words_of k h, within k h, room)

    entry-low : entry + 2 ≤ entry_place t (bitmap_count t)
    unfolding entry_place
    entry-low = omega arith

    entry-within : entry + 1 < length mid
    entry-within = omega (arith, spliced_long out b at fits, fits, entry-low, entries-before k)

    other : (i : ℕ) → (i ≡ entry → ⊥) → (i ≡ entry + 1 → ⊥) → get_or next i 0 ≡ get_or mid i 0
    other i l m = get_or-set_other begun (entry + 1) i (length b) 0 m ∙ get_or-set_other mid entry i at 0 l

    start_word : get_or next entry 0 ≡ get_or t entry 0
    unfolding start_of
    start_word =
        get_or-set_other begun (entry + 1) entry (length b) 0 (omega arith)
        ∙ get_or-set_same mid entry at 0 (omega (arith, entry-within))
        ∙ sym (f.entries.starts k h)

    length-word : get_or next (entry + 1) 0 ≡ get_or t (entry + 1) 0
    unfolding length_of
    length-word =
        get_or-set_same begun (entry + 1) (length b) 0 (omega (arith, length-set mid entry at, entry-within))
        ∙ body-length t k f.entries h

    front : (i : ℕ) → i < entry_place t (k + 1) → get_or next i 0 ≡ get_or t i 0
    unfolding entry_place
    front i l = elim (dec_le entry i) [
      | yes w ↦ elim (dec_le (entry + 1) i) [
        | yes v ↦ let z : i ≡ entry + 1 = omega arith in rw z length-word
        | no v ↦ let z : i ≡ entry = omega arith in rw z start_word
      ]
      | no w ↦
          other i (omega arith) (omega arith)
          ∙ spliced-before out b at fits i (omega (arith, entry-low, entries-before k))
          ∙ g.front i (omega arith)
    ]

    bodies : (i : ℕ) → entry_place t (bitmap_count t) ≤ i → i < body_place t (k + 1) → get_or next i 0 ≡ get_or t i 0
    bodies i l m = other i (omega (arith, entry-low)) (omega (arith, entry-low)) ∙ elim (dec_le at i) [
      | yes w ↦
          let z : i ≡ at + (i - at) = omega arith in
          let j : i - at < length b = omega (arith, words_of k h) in
          subst (λ (n : ℕ). get_or mid n 0 ≡ get_or t n 0) (sym z)
          (spliced-at out b at fits (i - at) j ∙ body-word k (i - at) h j)
      | no w ↦ spliced-before out b at fits i (omega arith) ∙ g.bodies i l (omega arith)
    ]

    behind : drop (body_place t (k + 1)) next ≡ drop (body_place t (k + 1)) old
    behind =
        let low : entry + 1 < body_place t (k + 1) = omega (arith, entry-low, entries-before (k + 1)) in
        drop-set-lt (body_place t (k + 1)) begun (entry + 1) (length b) low
        ∙ drop-set-lt (body_place t (k + 1)) mid entry at (omega (arith, low))
        ∙ subst (λ (n : ℕ). drop n mid ≡ drop n old) (sym (words_of k h))
        (spliced-behind out b at fits ∙ ap (drop (length b)) g.behind ∙ drop-drop (length b) at old)

    begun-next : Begun t old next (k + 1)
    begun-next = record {
      long = simp length-set (spliced_long out b at fits ∙ g.long);
      front = front;
      bodies = bodies;
      behind = behind;
    }

    -- where the part from p on was lent for the body
    pub begun_more : (back : List ℕ) (p n e : ℕ) → back ≡ b ++ drop (length b) (take (length out - p) (drop p out))
        → p ≡ at → n ≡ length b → e ≡ entry
        → Begun t old (set (set (take p out ++ (back ++ drop (length out - p) (drop p out))) e p) (e + 1) n) (k + 1)
    begun_more back p n e came is_at is-long is-entry =
        rw (lent out b p (omega (arith, fits)) back came, is_at, is-long, is-entry) begun-next

  -- ---- all of it

  pub begun_all : (old out : List ℕ) → length t ≤ length old → Begun t old out (bitmap_count t)
      → out ≡ t ++ drop (length t) old
  begun_all old out h g =
      sym (take-append-drop (length t) out)
      ∙ ap₂ (λ (u v : List ℕ). u ++ v)
      (ext_get_or 0 (take (length t) out) t long
      (λ i l. let n : i < length t = omega (arith, long) in get_or-take (length t) out i 0 n ∙ each i n))
      (subst (λ (n : ℕ). drop n out ≡ drop n old) f.entries.last_end g.behind)
    where
      long : length (take (length t) out) ≡ length t
      long = length-take-le (length t) out (omega (arith, g.long))

      each : (i : ℕ) → i < length t → get_or out i 0 ≡ get_or t i 0
      each i l = elim (dec_le (entry_place t (bitmap_count t)) i) [
        | yes w ↦ g.bodies i w (omega (arith, f.entries.last_end))
        | no w ↦ g.front i (omega arith)
      ]
