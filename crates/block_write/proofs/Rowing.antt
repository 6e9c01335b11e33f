-- The words of a row one after the other: the segments of the first i of them, and what room they take.
-- Assumes nothing.
use Prim.Native.Nat.{ℕ, suc, ◌+◌, ◌≤◌, ◌<◌}
use mathlib.Core.Bool.{Bool, true, false, not}
use mathlib.Core.Path.{◌≡◌, refl, sym, ap, ap₂, ◌∙◌, subst}
use mathlib.Core.List.{List, [], ◌∷◌, ◌++◌, map}
use native.Mathlib.Decide.{ℕ_discrete}
use native.Mathlib.Omega.{arith}
use native.Mathlib.Numerals.{add-one}
use lib.ListN.{length, take, drop, get_or, replicate, take-append-drop, length-append, length-map}
use lib.Seq.{take-suc, take_all, length-take-le}
use borrow.Author.Tests.{ne_eqb}
use lib.Dec.{eqb}
use mir.Val.{bool_byte}
use Rattle.meaning.specs.Segment.{Segment, clean, mixed, kind, all_set}
use Rattle.meaning.specs.Format.{width}
use Rattle.meaning.specs.declared.Format.{Format}
use Rattle.meaning.specs.declared.Format.TheVariants.{Ewah}
use Rattle.laws.proofs.Formats.{width-pos}
use Rattle.laws.proofs.Segments.{map-append, kind-mixed, kind-full}
use Rattle.ewah_write.specs.declared.writer.Writer.{Writer}
use Rattle.body_write.specs.Bodies.{Growing, RoomFor, Grown, Emitted}
use Rattle.body_write.proofs.Joined.{still-growing, room-first, room-rest}
use Rattle.body_write.proofs.Emitting.{emitted-more}
use Rattle.block_write.specs.Rowed.{row_segments, CleanWord}

-- ---- the first i words

first_more : (f : ℕ → Segment) (xs : List ℕ) (i : ℕ) → i < length xs
    → map f (take (i + 1) xs) ≡ map f (take i xs) ++ f (get_or xs i 0) ∷ []
first_more f xs i h =
    ap (λ (k : ℕ). map f (take k xs)) (add-one i)
    ∙ ap (map f) (take-suc xs i 0 h)
    ∙ map-append f (take i xs) (get_or xs i 0 ∷ [])

pub first-all : (f : ℕ → Segment) (xs : List ℕ) (i : ℕ) → length xs ≤ i → map f (take i xs) ≡ map f xs
first-all f xs i h = ap (map f) (take_all i xs h)

module _ (F : Format) (xs : List ℕ) (i : ℕ) (h : i < length xs) where
  -- how a word is read, the segments of the first words, and the next one
  abbrev read : ℕ → Segment
  read x = kind (width F) x

  abbrev first : List Segment
  first = map (kind (width F)) (take i xs)

  abbrev next : List Segment
  next = kind (width F) (get_or xs i 0) ∷ []

  first-length : length first ≡ i
  first-length = length-map (take i xs) (kind (width F)) ∙ length-take-le i xs (omega arith)

  -- a row is its first words, the next one and the rest
  row-split : map (kind (width F)) xs ≡ (first ++ next) ++ map (kind (width F)) (drop (i + 1) xs)
  row-split =
      ap (map read) (sym (take-append-drop (i + 1) xs))
      ∙ map-append read (take (i + 1) xs) (drop (i + 1) xs)
      ∙ ap (λ (l : List Segment). l ++ map read (drop (i + 1) xs)) (first_more read xs i h)

  -- room for all is room for the next one
  pub room_next : {w v : Writer} {n : ℕ} → RoomFor F (map (kind (width F)) xs) w n
      → Grown F w (map (kind (width F)) (take i xs)) v → RoomFor F (kind (width F) (get_or xs i 0) ∷ []) v n
  room_next {w} {n} r g =
      let rest = map read (drop (i + 1) xs) in
      room-rest first next
      (room-first (first ++ next) rest (subst (λ (l : List Segment). RoomFor F l w n) row-split r)) g

  -- the next one is emitted
  pub emitted-next : {real : ℕ} {out mid out' : List ℕ} {w v r : Writer} {store : Bool} → Growing F w (length xs)
      → Emitted F (width F) out mid w (map (kind (width F)) (take i xs)) store v
      → Emitted F real mid out' v (kind (width F) (get_or xs i 0) ∷ []) store r
      → Emitted F real out out' w (map (kind (width F)) (take (i + 1) xs)) store r
  emitted-next p f g =
      let few = length-append first next in
      rw (first_more read xs i h) (emitted-more first next (p.0, p.1, omega (arith, p.2, few, first-length)) f g)

-- after all but the last the last one
pub emitted-last : (F : Format) (xs : List ℕ) (i : ℕ) → length xs ≡ i + 1 → {real : ℕ} {out mid out' : List ℕ} {w v r : Writer} {store : Bool}
    → Growing F w (length xs) → Emitted F (width F) out mid w (map (kind (width F)) (take i xs)) store v
    → Emitted F real mid out' v (kind (width F) (get_or xs i 0) ∷ []) store r
    → Emitted F real out out' w (map (kind (width F)) xs) store r
emitted-last F xs i n p f g = rw (first-all (kind (width F)) xs (i + 1) (omega arith)) at (emitted-next F xs i (omega arith) p f g)

-- ---- words by their kind

-- the value of a word of a clean segment
pub value-of : (x v : ℕ) → v ≡ bool_byte (not (eqb x 0)) → (v < 2) × ((F : Format) → CleanWord F x → kind (width F) x ≡ clean v)
unfolding kind
value-of x v e = elim (ℕ_discrete x 0) [
  | yes z ↦ let is : v ≡ 0 = rw z at e in rw (z, is) (omega arith, λ F h. refl)
  | no z ↦
      let is : v ≡ 1 = rw (ne_eqb x 0 z) at e in
      rw is (omega arith, λ F h. ap (kind (width F)) (h z) ∙ kind-full (width F) (width-pos F))
]

-- words that are neither all zeros nor all ones are mixed
pub all-mixed : (xs : List ℕ) → ((k : ℕ) → k < length xs → (get_or xs k 0 ≡ 0 → ⊥) × (get_or xs k 0 ≡ 4294967295 → ⊥))
    → map (kind 32) xs ≡ map mixed xs
unfolding all_set
all-mixed [] h = refl
all-mixed (x ∷ xs) h =
    let here = h 0 (omega arith) in
    ap₂ (λ (s : Segment) (l : List Segment). s ∷ l) (kind-mixed 32 x here.0 here.1) (all-mixed xs (λ k l. h (suc k) (omega arith)))

-- ---- the segments of a row

module _ (F : Format) (words : List ℕ) (n : ℕ) {even : Bool} where
  pub row-even : even ≡ true → row_segments F words n even ≡ replicate n (kind (width F) (get_or words 0 0))
  unfolding row_segments
  row-even e = rw e

  pub row-each : even ≡ false → row_segments F words n even ≡ map (kind (width F)) words
  unfolding row_segments
  row-each e = rw e

  -- those of mixed words in EWAH
  pub row-mixed : even ≡ false → F ≡ Ewah → map (kind 32) words ≡ map mixed words
      → row_segments F words n even ≡ map mixed words
  row-mixed e f m = row-each e ∙ ap (λ (G : Format). map (kind (width G)) words) f ∙ m
