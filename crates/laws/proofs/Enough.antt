-- How many words an answer can have, in either format: one that changes at ends alone two for each at most, so a
-- threshold or symmetric one two for each stretch, and any body of R rows no more than R decides.
-- Assumes nothing.
use Prim.Native.Nat.{ℕ, suc, ◌+◌, ◌-◌, ◌*◌, ◌/◌, ◌≤◌, ◌<◌}
use mathlib.Core.Bool.{Bool, true, false, ◌||◌, true≢false}
use mathlib.Core.Path.{◌≡◌, refl, sym, ap, ap₂, ◌∙◌, subst}
use mathlib.Core.List.{List, [], ◌∷◌, map}
use lib.Dec.{eqb}
use lib.ListN.{length, get_or}
use native.Mathlib.Omega.{arith}
use Rattle.meaning.specs.Limits.{most_dirty}
use Rattle.meaning.specs.Rows.{bit, count_below}
use Rattle.meaning.specs.Segment.{Segment, kinds, is_set, bit_at, fill, segment_count, from_rows}
use Rattle.meaning.specs.Piece.{flat}
use Rattle.meaning.specs.Wah.{wah_draft}
use Rattle.meaning.specs.Format.{width, most_run, pieces_of, segments_of, rows_of, words_of, canonical}
use Rattle.meaning.specs.declared.Format.{Format}
use Rattle.meaning.specs.declared.Format.TheVariants.{Ewah, Wah}
use Rattle.meaning.specs.Question.{is_in, ends_from, ends_at, stretches, held}
use Rattle.laws.specs.Laws.{SoundFacts}
use Rattle.laws.proofs.Tests.{or-false}
use Rattle.laws.proofs.Segments.{kinds-length}
use Rattle.laws.proofs.RowWords.{eqb-bit, has-at, from-length}
use Rattle.laws.proofs.Least.{most-words-div}
use Rattle.laws.proofs.WahSize.{wah-size, puts-add}
use Rattle.laws.proofs.Even.{bit-fill, even-clean}
use Rattle.laws.proofs.Formats.{width-pos, spells, facts-some, facts-count}
use Rattle.laws.proofs.Ends.{Near, Steady, pieces-fine, ends-near, quiet-steady}
use Rattle.laws.proofs.Bound.{Held, twice_ends}

-- ---- the bodies of a question

-- all of them are sound
abbrev pub AllSound : Format → (R : ℕ) → List (List ℕ) → Type 0
AllSound F R [] = Unit {0}
AllSound F R (b ∷ bs) = SoundFacts F R b × AllSound F R bs

module _ (F : Format) (R : ℕ) (b : List ℕ) (facts : SoundFacts F R b) where
  -- segment i is the last of a piece of this body
  abbrev ends : ℕ → Bool
  ends i = is_in (ends_from 0 (pieces_of F b)) (suc i)

  -- its pieces cover all segments of its rows
  flat-count : length (flat (width F) (pieces_of F b)) ≡ segment_count (width F) R
  flat-count = ap length (spells F b) ∙ facts-count F R b facts

  -- from any segment on, one of its pieces ends within the greatest run
  body_near : (n : ℕ) → n < segment_count (width F) R → Near (most_run F) ends (segment_count (width F) R) n
  body_near n h =
      let within : n < length (flat (width F) (pieces_of F b)) = omega (arith, flat-count) in
      let i = ends-near (width F) (most_run F) (pieces_of F b) 0 n (pieces-fine F b) (facts-some F R b facts) within in
      record {
        m = i.m;
        from = i.from;
        till = i.till;
        in-it = omega (arith, i.in-it, flat-count);
        ends_there = subst (λ (z : ℕ). is_in (ends_from 0 (pieces_of F b)) z ≡ true) (omega arith) i.ends_there;
      }

  -- where none ends, a run goes on
  body-steady : (n : ℕ) → n < segment_count (width F) R → ends n ≡ false → Steady (width F) (segments_of F b) n
  body-steady n h q =
      let q' : is_in (ends_from 0 (pieces_of F b)) (0 + suc n) ≡ false =
      subst (λ (z : ℕ). is_in (ends_from 0 (pieces_of F b)) z ≡ false) (omega arith) q in
      let within : n < length (flat (width F) (pieces_of F b)) = omega (arith, flat-count) in
      rw (spells F b) at (quiet-steady (width F) (most_run F) (pieces_of F b) 0 n (pieces-fine F b) within q')

  -- a row of a clean segment is in the body as the segment's value says
  body-row : (i v j : ℕ) → v < 2 → get_or (segments_of F b) i 0 ≡ fill (width F) v → j < width F
      → rows_of F b (i * width F + j) ≡ eqb v 1
  unfolding rows_of is_set bit_at
  body-row i v j hv e h =
      let x = get_or (segments_of F b) i 0 in
      has-at (width F) (width-pos F) (segments_of F b) i j h
      ∙ sym (eqb-bit (is_set x j))
      ∙ ap (λ (y : ℕ). eqb (bit (is_set y j)) 1) e
      ∙ ap (λ (k : ℕ). eqb k 1) (bit-fill (width F) v j hv h)

  -- the last segment of R rows is the last of its last piece
  pub ends_last : 0 < segment_count (width F) R → ends (segment_count (width F) R - 1) ≡ true
  ends_last h =
      let i = body_near (segment_count (width F) R - 1) (omega arith) in
      subst (λ (m : ℕ). ends m ≡ true) (omega (arith, i.from, i.in-it)) i.ends_there

-- for each body, whether it has row r
abbrev pub row_bits : (F : Format) (bodies : List (List ℕ)) (r : ℕ) → List Bool
row_bits F bodies r = map (λ (x : List ℕ). rows_of F x r) bodies

-- the same of the bodies have each row of segment i and of the next
pub record Level (F : Format) (bodies : List (List ℕ)) (i : ℕ) : Type 0 where
  pub bits : List Bool
  pub here : (j : ℕ) → j < width F → row_bits F bodies (i * width F + j) ≡ bits
  pub next : (j : ℕ) → j < width F → row_bits F bodies (suc i * width F + j) ≡ bits

-- where none of them has the end of a piece
pub level : (F : Format) (R : ℕ) (bs : List (List ℕ)) → AllSound F R bs → (i : ℕ) → i < segment_count (width F) R
    → ends_at F bs i ≡ false → Level F bs i
unfolding ends_at
level F R [] a i h q = record { bits = []; here = λ j g. refl; next = λ j g. refl }
level F R (b ∷ bs) a i h q =
    let o = or-false (is_in (ends_from 0 (pieces_of F b)) (suc i)) (ends_at F bs i) q in
    let s = body-steady F R b a.0 i h o.0 in
    let l = level F R bs a.1 i h o.1 in
    record {
      bits = eqb s.v 1 ∷ l.bits;
      here = λ j g. ap₂ ◌∷◌ (body-row F R b a.0 i s.v j s.hv s.here g) (l.here j g);
      next = λ j g. ap₂ ◌∷◌ (body-row F R b a.0 (suc i) s.v j s.hv s.next g) (l.next j g);
    }

-- a set of R rows has as many segments as R says
many : (F : Format) (R : ℕ) (p : ℕ → Bool)
    → length (kinds (width F) R (from_rows (width F) R p)) ≡ segment_count (width F) R
many F R p = kinds-length (width F) R (from_rows (width F) R p) ∙ from-length (width F) (width-pos F) R p

-- ---- a set of rows that changes nowhere but at ends

-- all rows of segment i are in the set q or none is; and so it is in the next, unless that is an end
pub record Evenly (w : ℕ) (q E : ℕ → Bool) (i : ℕ) : Type 0 where
  pub t : Bool
  pub here : (j : ℕ) → j < w → q (i * w + j) ≡ t
  pub next : E (suc i) ≡ false → (j : ℕ) → j < w → q (suc i * w + j) ≡ t

-- the ends E are those of some bodies' pieces, and maybe more
module _ (F : Format) (R : ℕ) (b : List ℕ) (bs : List (List ℕ)) (a : AllSound F R (b ∷ bs)) (q E : ℕ → Bool)
    (wider : (i : ℕ) → E i ≡ false → ends_at F (b ∷ bs) i ≡ false)
    (even : (i : ℕ) → i < segment_count (width F) R → E i ≡ false → Evenly (width F) q E i) where
  abbrev ss : List Segment
  ss = kinds (width F) R (from_rows (width F) R q)

  count : length ss ≡ segment_count (width F) R
  count = many F R q

  -- where there is no end, the segment and the next are clean, and of one value
  steady : (i : ℕ) → i < length ss → E i ≡ false → Held F R ss E i
  unfolding ends_at
  steady i h e =
      let l = even i (omega (arith, count)) e in
      let o = or-false (is_in (ends_from 0 (pieces_of F b)) (suc i)) (ends_at F bs i) (wider i e) in
      let s = body-steady F R b a.0 i (omega (arith, count)) o.0 in
      let more : suc i < segment_count (width F) R = omega (arith, s.more, facts-count F R b a.0) in
      record {
        v = bit l.t;
        here = even-clean (width F) (width-pos F) R q i l.t (omega arith) l.here;
        next = λ z. even-clean (width F) (width-pos F) R q (suc i) l.t more (l.next z);
        more = omega (arith, count);
      }

  -- an end of the first body's is one of these
  first_ends : (i : ℕ) → is_in (ends_from 0 (pieces_of F b)) (suc i) ≡ true → E i ≡ true
  unfolding ends_at
  first_ends i e = go (E i) refl
    where
      go : (t : Bool) → E i ≡ t → E i ≡ true
      go true z = z
      go false z = absurd (true≢false (sym (ap (λ (t : Bool). t || ends_at F bs i) e) ∙ wider i z))

  near : (n : ℕ) → n < length ss → Near (most_run F) E (length ss) n
  near n h =
      let i = body_near F R b a.0 n (omega (arith, count)) in
      record {
        m = i.m;
        from = i.from;
        till = i.till;
        in-it = omega (arith, i.in-it, count);
        ends_there = first_ends i.m i.ends_there;
      }

  -- two words for each end are enough
  pub ends_words : length (canonical F R q) ≤ 2 * count_below (segment_count (width F) R) E
  unfolding canonical
  ends_words = omega (arith, twice_ends F R ss E steady near, ap (λ (n : ℕ). count_below n E) count)

-- ---- an answer: row r is in it as `f` says of the number of bodies that have r

-- how many of some Booleans are true
trues : List Bool → ℕ
trues [] = 0
trues (t ∷ ts) = bit t + trues ts

-- how many bodies have row r
held-trues : (F : Format) (bodies : List (List ℕ)) (r : ℕ)
    → held (map (rows_of F) bodies) r ≡ trues (row_bits F bodies r)
unfolding held trues
held-trues F [] r = refl
held-trues F (b ∷ bs) r = ap (λ (n : ℕ). bit (rows_of F b r) + n) (held-trues F bs r)

module _ (F : Format) (R : ℕ) (f : ℕ → Bool) (b : List ℕ) (bs : List (List ℕ)) (a : AllSound F R (b ∷ bs)) where
  -- where no piece of any body ends, as many bodies have each row
  alike : (i : ℕ) → i < segment_count (width F) R → ends_at F (b ∷ bs) i ≡ false
      → Evenly (width F) (λ r. f (held (map (rows_of F) (b ∷ bs)) r)) (ends_at F (b ∷ bs)) i
  alike i h e =
      let l = level F R (b ∷ bs) a i h e in
      record {
        t = f (trues l.bits);
        here = λ j g. ap f (held-trues F (b ∷ bs) (i * width F + j) ∙ ap trues (l.here j g));
        next = λ z j g. ap f (held-trues F (b ∷ bs) (suc i * width F + j) ∙ ap trues (l.next j g));
      }

  -- at most two words for each stretch
  pub words-le : length (canonical F R (λ r. f (held (map (rows_of F) (b ∷ bs)) r))) ≤ 2 * stretches F R (b ∷ bs)
  unfolding stretches
  words-le =
      ends_words F R b bs a (λ r. f (held (map (rows_of F) (b ∷ bs)) r)) (ends_at F (b ∷ bs)) (λ i e. e) alike

-- ---- any body of R rows

-- the most words of n segments. EWAH: one for each, a marker for each 32,767 of them, and one more. WAH: one for each
abbrev most : Format → (n : ℕ) → ℕ
most Ewah n = n + n / most_dirty + 1
most Wah n = n

-- they are enough
most-of : (F : Format) (R : ℕ) (ss : List Segment) → length (words_of F R ss) ≤ most F (length ss)
most-of Ewah R ss = most-words-div ss
most-of Wah R ss = omega (arith, wah-size R ss, puts-add ss (wah_draft [] 0 0))

-- the most words of a body of R rows in canonical form
abbrev pub most_words : Format → (R : ℕ) → ℕ
most_words F R = most F (segment_count (width F) R)

pub most-words : (F : Format) (R : ℕ) (p : ℕ → Bool) → length (canonical F R p) ≤ most_words F R
unfolding canonical
most-words F R p =
    subst (λ (n : ℕ). length (canonical F R p) ≤ most F n) (many F R p)
    (most-of F R (kinds (width F) R (from_rows (width F) R p)))
