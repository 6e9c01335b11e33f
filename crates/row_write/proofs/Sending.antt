-- The writer on its way through the canonical body of a set of rows: what it needs for its next segments, how it goes
-- on, and where it ends.
-- Assumes nothing.
use Prim.Native.Nat.{ℕ, zero, suc, ◌+◌, ◌-◌, ◌^◌, ◌≤◌, ◌<◌}
use mathlib.Core.Bool.{Bool, true}
use mathlib.Core.Path.{◌≡◌, refl, sym, ap, ◌∙◌, subst}
use mathlib.Core.List.{List, [], ◌∷◌, ◌++◌}
use native.Mathlib.Decide.{dec_le}
use native.Mathlib.Omega.{arith}
use lib.ListN.{length, take, drop, get_or}
use Rattle.meaning.specs.Limits.{most_rows, most_segments}
use Rattle.meaning.specs.Segment.{Segment, clean, kind, from_rows, segment_count, last_limit, rows_in}
use Rattle.meaning.specs.Format.{width, words_of, canonical}
use Rattle.meaning.specs.declared.Format.{Format}
use Rattle.laws.proofs.Formats.{width-pos, segments-most}
use Rattle.laws.proofs.Segments.{kinds-length}
use Rattle.laws.proofs.Cut.{kinds-at, rows_inside, rows_end}
use Rattle.laws.proofs.RowWords.{last-get_d, from-length, from_last, from-below}
use Rattle.laws.proofs.Evaluated.{part-is}
use Rattle.ewah_write.specs.declared.writer.Writer.{Writer}
use Rattle.body_write.specs.Bodies.{Stands, Growing, RoomFor, Emitted}
use Rattle.body_write.proofs.UpTo.{up_none, up-growing, up_room, up_more, up-used, up-all}
use Rattle.row_write.specs.Sending.{all_of, Sent}

module _ (F : Format) (R : ℕ) (q : ℕ → Bool) where
  abbrev w : ℕ
  w = width F

  abbrev pos : 0 < width F
  pos = width-pos F

  abbrev T : List Segment
  T = all_of F R q

  -- there are as many as R rows have
  pub all-length : length (all_of F R q) ≡ segment_count (width F) R
  all-length = kinds-length w R (from_rows w R q) ∙ from-length w pos R q

  -- they are the canonical body's
  all-canonical : words_of F R (all_of F R q) ≡ canonical F R q
  unfolding canonical
  all-canonical = refl

  -- segment i, by the word of its rows
  pub segment-at : (i : ℕ) → i < segment_count (width F) R
      → get_or (all_of F R q) i (clean 0) ≡ kind (rows_in (width F) R i) (get_or (from_rows (width F) R q) i 0)
  segment-at i h = kinds-at w pos R (from_rows w R q) i (clean 0) (from-length w pos R q) h

  -- that word has no bit but its rows
  pub word-short : (i : ℕ) → i < segment_count (width F) R
      → get_or (from_rows (width F) R q) i 0 < 2 ^ rows_in (width F) R i
  unfolding last_limit
  word-short i h = elim (dec_le (suc (suc i)) (segment_count w R)) [
    | yes g ↦ rw (rows_inside w pos R i g) (from-below w pos R q i)
    | no g ↦
        (let e : suc i ≡ segment_count w R = omega arith in
        rw (rows_end w pos R i e, ← last-get_d (from_rows w R q) i (from-length w pos R q ∙ sym e)) (from_last w pos R q))
  ]

  -- the next ones are ss
  abbrev pub Next : (s : ℕ) (ss : List Segment) → Type 0
  Next s ss =
      (1 ≤ length ss) × (s + length ss ≤ segment_count (width F) R)
      × ((i : ℕ) → i < length ss → get_or (all_of F R q) (s + i) (clean 0) ≡ get_or ss i (clean 0))

  -- a single one
  pub next_one : (s : ℕ) (g : Segment) → s < segment_count (width F) R → get_or (all_of F R q) s (clean 0) ≡ g
      → Next s (g ∷ [])
  next_one s g h e = (omega arith, omega arith, each)
    where
      each : (i : ℕ) → i < 1 → get_or (all_of F R q) (s + i) (clean 0) ≡ get_or (g ∷ []) i (clean 0)
      each zero l = ap (λ (k : ℕ). get_or T k (clean 0)) (omega arith) ∙ e
      each (suc i) l = absurd (omega arith)

  -- that the writer takes as the word x
  pub next_word : (s x : ℕ) → s < segment_count (width F) R
      → kind (width F) x ≡ kind (rows_in (width F) R s) (get_or (from_rows (width F) R q) s 0)
      → Next s (kind (width F) x ∷ [])
  next_word s x h e = next_one s (kind w x) h (segment-at s h ∙ sym e)

  next-is : (s : ℕ) (ss : List Segment) → Next s ss → ss ≡ take (length ss) (drop s (all_of F R q))
  next-is s ss n =
      sym (part-is T ss s (length ss) refl (omega (arith, n.1, all-length)) n.2)

  -- nothing is put yet
  pub sent-start : (old : List ℕ) (store : Bool) (v : Writer) → R ≤ most_rows
      → (store ≡ true → length (canonical F R q) ≤ length old) → Stands F v [] → Sent F R q old store old 0 v
  sent-start old store v few room t = record {
    few = few;
    room = room;
    within = omega arith;
    long = refl;
    up = up_none R (all_of F R q) store old t;
  }

-- ---- on the way

module _ {F : Format} {R : ℕ} {q : ℕ → Bool} {old out : List ℕ} {store : Bool} {s : ℕ} {v : Writer}
    (t : Sent F R q old store out s v) where
  most : (n : ℕ) → s + n ≤ segment_count (width F) R → s + n ≤ most_segments
  most n h = omega (arith, segments-most F R t.few)

  -- the writer can take n segments more
  pub sent-growing : (n : ℕ) → s + n ≤ segment_count (width F) R → Growing F v n
  sent-growing n h = up-growing t.up n (most n h)

  -- and the buffer has room for the next ones
  pub sent-room : (ss : List Segment) → Next F R q s ss → store ≡ true → RoomFor F ss v (length out)
  sent-room ss n e =
      up_room t.up (length ss) (most (length ss) n.1) ss (next-is F R q s ss n) (length out)
      (omega (arith, t.long, t.room e, ap length (all-canonical F R q)))

  -- they are put
  pub sent-on : (real : ℕ) (ss : List Segment) (out' : List ℕ) (r : Writer) → Next F R q s ss
      → real ≡ rows_in (width F) R (s + length ss - 1) → length out' ≡ length out
      → Emitted F real out out' v ss store r → Sent F R q old store out' (s + length ss) r
  sent-on real ss out' r n is_real same m = record {
    few = t.few;
    room = t.room;
    within = n.1;
    long = same ∙ t.long;
    up = up_more t.up (length ss) (most (length ss) n.1) ss (next-is F R q s ss n) n.0 n.1
        (subst (λ (k : ℕ). Emitted F k out out' v ss store r) is_real m);
  }

  -- all are put
  module _ (e : s ≡ segment_count (width F) R) where
    pub sent-words : v.used ≡ length (canonical F R q)
    sent-words = up-used t.up (all-length F R q) e ∙ ap length (all-canonical F R q)

    pub sent-all : store ≡ true → out ≡ canonical F R q ++ drop (length (canonical F R q)) old
    sent-all g =
        subst (λ (b : List ℕ). out ≡ b ++ drop (length b) old) (all-canonical F R q) (up-all t.up (all-length F R q) e g)
