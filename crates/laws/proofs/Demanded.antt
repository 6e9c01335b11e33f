-- Demands 2 and 3 hold.
-- Assumes nothing.
use Prim.Native.Nat.{ℕ, zero, suc, ◌*◌, ◌≤◌, ◌<◌}
use mathlib.Core.Bool.{Bool, true, false, not, ◌||◌}
use mathlib.Core.Path.{◌≡◌, refl, sym, ap, ◌∙◌, subst}
use mathlib.Core.Logic.{◌↔◌}
use mathlib.Core.List.{List, [], ◌∷◌, map}
use lib.Dec.{eqb, leb, ltb}
use lib.ListN.{length, get_or}
use native.Mathlib.Omega.{arith}
use borrow.Author.Tests.{leb-true, leb-false, le-ltb, ltb-false, le-leb, lt-leb, ne_eqb, eq-eqb, eqb-false}
use Rattle.meaning.specs.Limits.{most_rows, most_named}
use Rattle.meaning.specs.Segment.{has_row, segment_count, last_limit, last_of, from_rows}
use Rattle.meaning.specs.Refusal.{Outcome, refused, answer, sound, refuse_if, ◌then◌}
use Rattle.meaning.specs.Format.{Sound, rows_of, body_fault, canonical}
use Rattle.meaning.specs.declared.Format.{Format}
use Rattle.meaning.specs.Index.{SoundIndex, format_of, row_count, bitmap_count, index_fault, body_at, rows_at}
use Rattle.meaning.specs.Question.{held, at_least, by_table, total_words, stretches}
use Rattle.meaning.specs.Answer.{fits, write, ask_plain, rows_fault, plain_fault, check_body, buffer_after, check, bad_bitmap, any_bad, bad_list, named, named_bodies, right_rows, bad_threshold, ask_threshold, threshold, bad_symmetric, ask_symmetric, symmetric, bad_entry, expand, compress, words_reported, stretches_reported}
use Rattle.laws.specs.Demands.{Asked, AskedMeans, NoRoom, Written, Demand3, ThresholdHolds, PlainRows, Demand2, StretchBounds, StretchesHold}
use Rattle.laws.proofs.Tests.{or-false, first-false}
use Rattle.laws.proofs.IndexSound.{index-means}
use Rattle.laws.proofs.Stretches.{stretches-le}
use Rattle.laws.proofs.Enough.{AllSound, words-le}
use Rattle.laws.proofs.RowWords.{rows-decide, from-length, from-has, from_last}
use Rattle.laws.proofs.Outcomes.{refuse-no, refuse-answer, then-sound, then-answer, fits-yes, fits-no, fits-answer}
use Rattle.laws.proofs.Formats.{canonical-sound, canonical-rows, canonical-body, canonical-fewest, canonical-ext, canonical-form}

leb-iff : (m n : ℕ) → (leb m n ≡ true) ↔ (m ≤ n)
leb-iff m n = (leb-true m n, le-leb m n)

-- ---- the bodies of a sound index are sound

pub all_sound : (index list : List ℕ) → SoundIndex index → ((i : ℕ) → i < length list → get_or list i 0 < bitmap_count index)
    → AllSound (format_of index) (row_count index) (map (body_at index) list)
all_sound index [] s h = tt
all_sound index (k ∷ ks) s h = (((index-means index).0 s).bodies k (h 0 (omega arith)), all_sound index ks s (λ i g. h (suc i) (omega arith)))

pub named-is : (index list : List ℕ) → map (rows_at index) list ≡ map (rows_of (format_of index)) (map (body_at index) list)
unfolding rows_at
named-is index [] = refl
named-is index (k ∷ ks) = ap (λ (l : List (ℕ → Bool)). rows_of (format_of index) (body_at index k) ∷ l) (named-is index ks)

-- an answer whose row r is decided by `f` from the number that have r has at most two words for each stretch
pub twice-stretches : (index list : List ℕ) (f : ℕ → Bool) → SoundIndex index → 1 ≤ length list → ((i : ℕ) → i < length list → get_or list i 0 < bitmap_count index)
    → length (canonical (format_of index) (row_count index) (λ r. f (held (named index list) r))) ≤ 2 * stretches (format_of index) (row_count index) (named_bodies index list)
unfolding named named_bodies
twice-stretches index [] f s n h = absurd (omega arith)
twice-stretches index (k ∷ ks) f s n h =
    let e = words-le (format_of index) (row_count index) f (body_at index k) (map (body_at index) ks) (all_sound index (k ∷ ks) s h) in
    subst (λ (l : List (ℕ → Bool)). length (canonical (format_of index) (row_count index) (λ r. f (held l r))) ≤ 2 * stretches (format_of index) (row_count index) (map (body_at index) (k ∷ ks))) (sym (named-is index (k ∷ ks))) e

-- ---- a list of bitmap numbers

pub all-good : (index list : List ℕ) → ((i : ℕ) → i < length list → get_or list i 0 < bitmap_count index) → any_bad index list ≡ false
unfolding any_bad bad_bitmap
all-good index [] h = refl
all-good index (k ∷ ks) h = rw (lt-leb (bitmap_count index) k (h 0 (omega arith))) (all-good index ks (λ i g. h (suc i) (omega arith)))

pub good-each : (index list : List ℕ) → any_bad index list ≡ false → (i : ℕ) → i < length list → get_or list i 0 < bitmap_count index
unfolding any_bad bad_bitmap
good-each index [] e i h = absurd (omega arith)
good-each index (k ∷ ks) e zero h = leb-false (bitmap_count index) k (or-false (leb (bitmap_count index) k) (any_bad index ks) e).0
good-each index (k ∷ ks) e (suc i) h = good-each index ks (or-false (leb (bitmap_count index) k) (any_bad index ks) e).1 i (omega arith)

-- the plain facts of a list that is not bad
pub record GoodList (index list : List ℕ) : Type 0 where
  pub some : 1 ≤ length list
  pub most : length list ≤ most_named
  pub its : (i : ℕ) → i < length list → get_or list i 0 < bitmap_count index

pub good-list : (index list : List ℕ) → bad_list index list ≡ false → GoodList index list
unfolding bad_list
good-list index list e =
    let a = or-false (eqb (length list) 0 || ltb most_named (length list)) (any_bad index list) e in
    let b = or-false (eqb (length list) 0) (ltb most_named (length list)) a.0 in
    let z = eqb-false (length list) 0 b.0 in
    record { some = omega arith; most = ltb-false most_named (length list) b.1; its = good-each index list a.1 }

list-good : (index list : List ℕ) → GoodList index list → bad_list index list ≡ false
unfolding bad_list
list-good index list g =
    rw (ne_eqb (length list) 0 (omega (arith, g.some)), le-ltb most_named (length list) g.most, all-good index list g.its)

-- ---- demand 3 of a question of which nothing but the room is left to be asked

module _ (F : Format) (R : ℕ) (p : ℕ → Bool) (bodies : List (List ℕ)) (buffer : List ℕ) (o : Outcome (List ℕ))
    (writes : o ≡ write F R p (length buffer)) where
  no_room : length buffer < length (canonical F R p) → NoRoom (length (canonical F R p)) buffer o (buffer_after o buffer)
  unfolding write buffer_after
  no_room h =
      let e : o ≡ refused 9 0 (length (canonical F R p)) = writes ∙ fits-no (length buffer) (canonical F R p) h in
      record { number = e; kept = ap (λ (z : Outcome (List ℕ)). buffer_after z buffer) e }

  room : length (canonical F R p) ≤ length buffer → Written F R p (length (canonical F R p)) buffer o (buffer_after o buffer)
  unfolding write buffer_after
  room h =
      let e : o ≡ answer (canonical F R p) = writes ∙ fits-yes (length buffer) (canonical F R p) h in
      record {
        body = canonical F R p;
        answered = e;
        buffer-is = ap (λ (z : Outcome (List ℕ)). buffer_after z buffer) e;
        form = canonical-form F R p;
        right = canonical-body F R p;
        fewest = refl;
      }

  pub written-demand : length (canonical F R p) ≤ 2 * total_words bodies → Demand3 F R p bodies buffer o (buffer_after o buffer)
  written-demand few = record {
    least = length (canonical F R p);
    least-is = canonical-fewest F R p;
    no_room = no_room;
    room = room;
    enough = few;
  }

-- ---- a threshold question

pub asked-means : AskedMeans
unfolding check bad_threshold
asked-means index list T = (to, from)
  where
    to : Asked index list T → (index_fault index ≡ sound) × (bad_list index list || eqb T 0 || ltb (length list) T ≡ false)
    to a =
        let l = list-good index list (record { some = a.some; most = a.most; its = a.its }) in
        (a.is_sound, rw (l, ne_eqb T 0 (omega (arith, a.low)), le-ltb (length list) T a.high))

    from : (index_fault index ≡ sound) × (bad_list index list || eqb T 0 || ltb (length list) T ≡ false) → Asked index list T
    from h =
        let a = or-false (bad_list index list || eqb T 0) (ltb (length list) T) h.1 in
        let b = or-false (bad_list index list) (eqb T 0) a.0 in
        let g = good-list index list b.0 in
        let z = eqb-false T 0 b.1 in
        record {
          is_sound = h.0;
          some = g.some;
          most = g.most;
          its = g.its;
          low = omega arith;
          high = ltb-false (length list) T a.1;
        }

module _ (index list : List ℕ) (T : ℕ) where
  -- nothing but the room is left to be asked
  pub asked-writes : Asked index list T → (room : ℕ) → threshold index list T room ≡ write (format_of index) (row_count index) (right_rows index list T) room
  unfolding threshold ask_threshold
  asked-writes a room =
      let m = (asked-means index list T).0 a in
      then-sound (check index) _ m.0 ∙ refuse-no (bad_threshold index list T) 8 0 0 (write (format_of index) (row_count index) (right_rows index list T) room) m.1

  -- what is answered was asked, and is the canonical body of the right rows
  pub answered-is : (room : ℕ) (b : List ℕ) → threshold index list T room ≡ answer b → Asked index list T × (b ≡ canonical (format_of index) (row_count index) (right_rows index list T))
  unfolding threshold ask_threshold write
  answered-is room b e =
      let p = then-answer (check index) _ b e in
      let q = refuse-answer (bad_threshold index list T) 8 0 0 (write (format_of index) (row_count index) (right_rows index list T) room) b p.1 in
      ((asked-means index list T).1 (p.0, q.0), fits-answer room (canonical (format_of index) (row_count index) (right_rows index list T)) b q.1)

  right-iff : (r : ℕ) → (right_rows index list T r ≡ true) ↔ (T ≤ held (named index list) r)
  unfolding right_rows at_least
  right-iff r = leb-iff T (held (named index list) r)

  few : Asked index list T
      → length (canonical (format_of index) (row_count index) (right_rows index list T)) ≤ 2 * total_words (named_bodies index list)
  unfolding right_rows at_least
  few a =
      omega (
        arith,
        twice-stretches index list (λ c. leb T c) a.is_sound a.some a.its,
        stretches-le (format_of index) (row_count index) (named_bodies index list),
      )

pub threshold-demand : ThresholdHolds
threshold-demand index list T buffer a = record {
  right = right-iff index list T;
  demand =
      written-demand (format_of index) (row_count index) (right_rows index list T) (named_bodies index list) buffer
      (threshold index list T (length buffer)) (asked-writes index list T a (length buffer)) (few index list T a);
}

-- ---- stretches

module _ (index list : List ℕ) (f : ℕ → Bool) (bad : Bool) (room : ℕ) where
  abbrev rows : ℕ → Bool
  rows r = f (held (named index list) r)

  -- any question whose answer `f` gives from the number of named bitmaps that have a row, and whose list is good where `bad` is false
  bounds : (o : Outcome (List ℕ)) → (bad ≡ false → bad_list index list ≡ false) → o ≡ (check index then refuse_if bad 8 0 0 (write (format_of index) (row_count index) rows room)) → StretchBounds index list o
  unfolding stretches_reported words_reported check write
  bounds (refused n b w) g e = record { few = omega arith; twice = omega arith }
  bounds (answer ws) g e =
      let p = then-answer (check index) _ ws (sym e) in
      let q = refuse-answer bad 8 0 0 (write (format_of index) (row_count index) rows room) ws p.1 in
      let is = fits-answer room (canonical (format_of index) (row_count index) rows) ws q.1 in
      let m = good-list index list (g q.0) in
      let two = twice-stretches index list f p.0 m.some m.its in
      record { few = stretches-le (format_of index) (row_count index) (named_bodies index list); twice = rw is two }

threshold-list : (index list : List ℕ) (T : ℕ) → bad_threshold index list T ≡ false → bad_list index list ≡ false
unfolding bad_threshold
threshold-list index list T e = first-false (bad_list index list) (eqb T 0) (ltb (length list) T) e

symmetric-list : (index list table : List ℕ) → bad_symmetric index list table ≡ false → bad_list index list ≡ false
unfolding bad_symmetric
symmetric-list index list table e = first-false (bad_list index list) (not (eqb (length table) (suc (length list)))) (bad_entry table) e

pub stretches-hold : StretchesHold
stretches-hold = record { of-threshold = of-threshold; of-symmetric = of-symmetric }
  where
    of-threshold : (index list : List ℕ) (T room : ℕ) → StretchBounds index list (threshold index list T room)
    of-threshold index list T room = bounds index list (λ c. leb T c) (bad_threshold index list T) room (threshold index list T room) (threshold-list index list T) e
      where
        e : threshold index list T room ≡ (check index then refuse_if (bad_threshold index list T) 8 0 0 (write (format_of index) (row_count index) (λ r. leb T (held (named index list) r)) room))
        e = unfold threshold ask_threshold right_rows at_least in refl

    of-symmetric : (index list table : List ℕ) (room : ℕ) → StretchBounds index list (symmetric index list table room)
    of-symmetric index list table room = bounds index list (λ c. eqb (get_or table c 0) 1) (bad_symmetric index list table) room (symmetric index list table room) (symmetric-list index list table) e
      where
        e : symmetric index list table room ≡ (check index then refuse_if (bad_symmetric index list table) 8 0 0 (write (format_of index) (row_count index) (λ r. eqb (get_or table (held (named index list) r) 0) 1) room))
        e = unfold symmetric ask_symmetric by_table in refl

-- ---- demand 2

sound-alone : (F : Format) (R : ℕ) (b : List ℕ) → R ≤ most_rows → Sound F R b → check_body F R b ≡ sound
unfolding check_body rows_fault
sound-alone F R b h s = then-sound (rows_fault R) (body_fault F 0 0 R b) (refuse-no (ltb most_rows R) 3 0 1 sound (le-ltb most_rows R h)) ∙ s

expand-is : (F : Format) (R : ℕ) (b : List ℕ) (room : ℕ) → R ≤ most_rows → Sound F R b → segment_count 32 R ≤ room → expand F R b room ≡ answer (from_rows 32 R (rows_of F b))
unfolding expand ask_plain
expand-is F R b room h s k =
    then-sound (check_body F R b) _ (sound-alone F R b h s)
    ∙ fits-yes room (from_rows 32 R (rows_of F b)) (omega (arith, from-length 32 (omega arith) R (rows_of F b)))

plain-good : (R : ℕ) (plain : List ℕ) → R ≤ most_rows → length plain ≡ segment_count 32 R → last_of plain < last_limit 32 R → plain_fault R plain ≡ sound
unfolding plain_fault rows_fault
plain-good R plain h n l =
    then-sound (rows_fault R) _ (refuse-no (ltb most_rows R) 3 0 1 sound (le-ltb most_rows R h))
    ∙ refuse-no (not (eqb (length plain) (segment_count 32 R))) 8 0 0 _ (ap not (eq-eqb (length plain) (segment_count 32 R) n))
    ∙ refuse-no (leb (last_limit 32 R) (last_of plain)) 7 0 _ _ (lt-leb (last_limit 32 R) (last_of plain) l)

compress-is : (F : Format) (R : ℕ) (plain : List ℕ) (room : ℕ) → plain_fault R plain ≡ sound → length (canonical F R (has_row 32 plain)) ≤ room → compress F R plain room ≡ answer (canonical F R (has_row 32 plain))
unfolding compress write
compress-is F R plain room f h = then-sound (plain_fault R plain) _ f ∙ fits-yes room (canonical F R (has_row 32 plain)) h

pub demand2 : Demand2
demand2 = record { in-answer = in-answer; write_read = write_read; write-fits = write-fits; read-write = read-write }
  where
    in-answer : (index list : List ℕ) (T room : ℕ) (b : List ℕ) → threshold index list T room ≡ answer b
        → (r : ℕ) → r < row_count index → (rows_of (format_of index) b r ≡ true) ↔ (T ≤ held (named index list) r)
    in-answer index list T room b e r h =
        let q : rows_of (format_of index) b r ≡ right_rows index list T r = ap (λ (z : List ℕ). rows_of (format_of index) z r) (answered-is index list T room b e).1 ∙ canonical-rows (format_of index) (row_count index) (right_rows index list T) r h in
        rw q (right-iff index list T r)

    write_read : (F : Format) (R : ℕ) (plain : List ℕ) (room room' : ℕ) → PlainRows R plain → segment_count 32 R ≤ room'
        → (b : List ℕ) → compress F R plain room ≡ answer b → expand F R b room' ≡ answer plain
    write_read F R plain room room' g k b e =
        let q = then-answer (plain_fault R plain) _ b (opened e) in
        let is : b ≡ canonical F R (has_row 32 plain) = fits-answer room (canonical F R (has_row 32 plain)) b q.1 in
        rw is (expand-is F R (canonical F R (has_row 32 plain)) room' g.few (canonical-sound F R (has_row 32 plain)) k
        ∙ ap answer (sym (rows-decide 32 (omega arith) R (rows_of F (canonical F R (has_row 32 plain))) plain g.count g.words g.pads (λ r h. sym (canonical-rows F R (has_row 32 plain) r h)))))
      where
        opened : compress F R plain room ≡ answer b → (plain_fault R plain then fits room (canonical F R (has_row 32 plain))) ≡ answer b
        opened h = unfold compress write in h

    write-fits : (F : Format) (R : ℕ) (plain : List ℕ) (room : ℕ) → PlainRows R plain → length (canonical F R (has_row 32 plain)) ≤ room
        → compress F R plain room ≡ answer (canonical F R (has_row 32 plain))
    write-fits F R plain room g h = compress-is F R plain room (plain-good R plain g.few g.count g.pads) h

    read-write : (F : Format) (R : ℕ) (b : List ℕ) (room room' : ℕ) → R ≤ most_rows → Sound F R b → segment_count 32 R ≤ room → length (canonical F R (rows_of F b)) ≤ room'
        → (plain : List ℕ) × (expand F R b room ≡ answer plain) × (compress F R plain room' ≡ answer (canonical F R (rows_of F b)))
    read-write F R b room room' few s k h =
        let plain = from_rows 32 R (rows_of F b) in
        let e : canonical F R (has_row 32 plain) ≡ canonical F R (rows_of F b) = canonical-ext F R (has_row 32 plain) (rows_of F b) (λ r g. from-has 32 (omega arith) R (rows_of F b) r g) in
        let fine : length (canonical F R (has_row 32 plain)) ≤ room' = rw e h in (
          plain,
          expand-is F R b room few s k,
          compress-is F R plain room' (plain-good R plain few (from-length 32 (omega arith) R (rows_of F b)) (from_last 32 (omega arith) R (rows_of F b))) fine ∙ ap answer e,
        )
