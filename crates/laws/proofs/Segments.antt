-- Facts on segments of w bits.
-- Assumes nothing.
use Prim.Native.Nat.{ℕ, zero, suc, ◌+◌, ◌-◌, ◌*◌, ◌%◌, ◌^◌, ◌≤◌, ◌<◌}
use mathlib.Core.Bool.{Bool, true, false, cond, ◌&&◌, false≢true}
use mathlib.Core.Path.{◌≡◌, refl, ap, ap₂, ◌∙◌}
use mathlib.Core.List.{List, [], ◌∷◌, ◌++◌, map}
use lib.Dec.{eqb, ltb}
use lib.ListN.{length, get_or, replicate}
use lib.Pow.{pow_pos, pow_mono, not_mod}
use native.Mathlib.Nat.{mod-lt, mod-le, zero-mod, zero-mul, one-mul, mod-eq_of_lt}
use native.Mathlib.Omega.{arith}
use borrow.Author.Tests.{ltb-true, eq-eqb, eqb-true, ne_eqb}
use Rattle.meaning.specs.Limits.{most_clean}
use Rattle.meaning.specs.Segment.{Segment, clean, mixed, kind, kinds, fill, all_set, from_rows, last_rows, last_limit, last_of}
use Rattle.meaning.specs.Canonical.{ewah_of}
use Rattle.meaning.specs.Format.{canonical}
use Rattle.meaning.specs.declared.Format.TheVariants.{Ewah}

pub both : (a b : Bool) → a && b ≡ true → (a ≡ true) × (b ≡ true)
both true b e = (refl, e)
both false b e = absurd (false≢true e)

-- what `put` tests of a clean segment
pub fits-clean : (d v b c : ℕ) → eqb d 0 && eqb v b && ltb c most_clean ≡ true → (d ≡ 0) × (v ≡ b) × (c < most_clean)
fits-clean d v b c e =
    let p = both (eqb d 0 && eqb v b) (ltb c most_clean) e in
    let q = both (eqb d 0) (eqb v b) p.0 in
    (eqb-true d 0 q.0, eqb-true v b q.1, ltb-true c most_clean p.1)

-- the word that a segment stands for
unfoldable pub word : (real : ℕ) → Segment → ℕ
unfolding fill
word real (clean v) = fill real v
word real (mixed x) = x

ones_pos : (real : ℕ) → 0 < real → 0 < all_set real
unfolding all_set
ones_pos zero h = absurd (omega arith)
ones_pos (suc real) h = omega (arith, pow_pos real)

pub kind-fill : (real v : ℕ) → 0 < real → v < 2 → kind real (fill real v) ≡ clean v
unfolding kind fill
kind-fill real zero h g = rw (eq-eqb (0 * all_set real) 0 (omega arith))
kind-fill real (suc zero) h g = let p = ones_pos real h in rw (ne_eqb (1 * all_set real) 0 (omega arith), eq-eqb (1 * all_set real) (all_set real) (omega arith))
kind-fill real (suc (suc v)) h g = absurd (omega arith)

pub kind-mixed : (real x : ℕ) → (x ≡ 0 → ⊥) → (x ≡ all_set real → ⊥) → kind real x ≡ mixed x
unfolding kind
kind-mixed real x h g = rw (ne_eqb x 0 h, ne_eqb x (all_set real) g)

-- all rows set
pub kind-full : (real : ℕ) → 0 < real → kind real (all_set real) ≡ clean 1
unfolding kind
kind-full real h = let p = ones_pos real h in rw (ne_eqb (all_set real) 0 (omega arith), eq-eqb (all_set real) (all_set real) refl)

-- a word without pad bits, and not all of whose rows are set, is of the kind that it has with w rows
pub kind-wider : (w real x : ℕ) → real ≤ w → x < 2 ^ real → (x ≡ all_set real → ⊥) → kind w x ≡ kind real x
unfolding kind all_set
kind-wider w real x h low g =
    let m : 2 ^ real ≤ 2 ^ w = pow_mono {i = real} {j = w} h in
    let n : x ≡ 2 ^ w - 1 → ⊥ = λ e. g (omega arith) in
    rw (ne_eqb x (2 ^ real - 1) g, ne_eqb x (2 ^ w - 1) n)

word-kind : (real x : ℕ) → word real (kind real x) ≡ x
unfolding word kind fill
word-kind real x = go (eqb x 0) (eqb x (all_set real)) refl refl
  where
    go : (s t : Bool) → eqb x 0 ≡ s → eqb x (all_set real) ≡ t → word real (cond s (clean 0) (cond t (clean 1) (mixed x))) ≡ x
    go true t e f = omega (arith, eqb-true x 0 e)
    go false true e f = omega (arith, eqb-true x (all_set real) f)
    go false false e f = refl

-- ones, without those from bit a on
pub ones_low : (a b : ℕ) → a ≤ b → (2 ^ b - 1) % 2 ^ a ≡ 2 ^ a - 1
ones_low a b h =
    let e : (b - a) + a ≡ b = omega arith in
    let full : 2 ^ b - 1 - 0 ≡ 2 ^ b - 1 = omega arith in
    let part : 2 ^ a - 1 - 0 ≡ 2 ^ a - 1 = omega arith in
    rw (e, full, part) at (not_mod {a = 0} (b - a) a (pow_pos a))

-- ---- a list of segments, of which the last has perhaps fewer rows

-- segments of R rows without the pad bits of the last
unfoldable pub cut : (w R : ℕ) → List ℕ → List ℕ
unfolding last_limit
cut w R [] = []
cut w R (x ∷ []) = x % last_limit w R ∷ []
cut w R (x ∷ y ∷ ys) = x ∷ cut w R (y ∷ ys)

module _ (w R : ℕ) where
  pub cut-length : (xs : List ℕ) → length (cut w R xs) ≡ length xs
  unfolding cut
  cut-length [] = refl
  cut-length (x ∷ []) = refl
  cut-length (x ∷ y ∷ ys) = ap suc (cut-length (y ∷ ys))

  pub cut_inside : (xs : List ℕ) (i : ℕ) → suc i < length xs → get_or (cut w R xs) i 0 ≡ get_or xs i 0
  unfolding cut
  cut_inside [] i h = absurd (omega arith)
  cut_inside (x ∷ []) i h = absurd (omega arith)
  cut_inside (x ∷ y ∷ ys) zero h = refl
  cut_inside (x ∷ y ∷ ys) (suc i) h = cut_inside (y ∷ ys) i (omega arith)

  pub cut-end : (xs : List ℕ) (i : ℕ) → suc i ≡ length xs → get_or (cut w R xs) i 0 ≡ get_or xs i 0 % last_limit w R
  unfolding cut
  cut-end [] i h = absurd (omega arith)
  cut-end (x ∷ []) zero h = refl
  cut-end (x ∷ []) (suc i) h = absurd (omega arith)
  cut-end (x ∷ y ∷ ys) zero h = absurd (omega arith)
  cut-end (x ∷ y ∷ ys) (suc i) h = cut-end (y ∷ ys) i (omega arith)

  pub cut-last : (xs : List ℕ) → last_of (cut w R xs) < last_limit w R
  unfolding cut last_of
  cut-last [] = unfold last_limit in pow_pos (last_rows w R)
  cut-last (x ∷ []) = mod-lt x (unfold last_limit in pow_pos (last_rows w R))
  cut-last (x ∷ y ∷ []) = cut-last (y ∷ [])
  cut-last (x ∷ y ∷ z ∷ zs) = cut-last (y ∷ z ∷ zs)

  pub cut_below : (m : ℕ) (xs : List ℕ) → 0 < m → ((i : ℕ) → get_or xs i 0 < m) → (i : ℕ) → get_or (cut w R xs) i 0 < m
  unfolding cut
  cut_below m [] p h i = p
  cut_below m (x ∷ []) p h zero = omega (arith, mod-le x (last_limit w R), h 0)
  cut_below m (x ∷ []) p h (suc i) = p
  cut_below m (x ∷ y ∷ ys) p h zero = h 0
  cut_below m (x ∷ y ∷ ys) p h (suc i) = cut_below m (y ∷ ys) p (λ k. h (suc k)) i

  pub kinds-length : (xs : List ℕ) → length (kinds w R xs) ≡ length xs
  unfolding kinds
  kinds-length [] = refl
  kinds-length (x ∷ []) = refl
  kinds-length (x ∷ y ∷ ys) = ap suc (kinds-length (y ∷ ys))

  pub kinds-inside : (xs : List ℕ) (i : ℕ) (s : Segment) → suc i < length xs → get_or (kinds w R xs) i s ≡ kind w (get_or xs i 0)
  unfolding kinds
  kinds-inside [] i s h = absurd (omega arith)
  kinds-inside (x ∷ []) i s h = absurd (omega arith)
  kinds-inside (x ∷ y ∷ ys) zero s h = refl
  kinds-inside (x ∷ y ∷ ys) (suc i) s h = kinds-inside (y ∷ ys) i s (omega arith)

  pub kinds-end : (xs : List ℕ) (i : ℕ) (s : Segment) → suc i ≡ length xs → get_or (kinds w R xs) i s ≡ kind (last_rows w R) (get_or xs i 0)
  unfolding kinds
  kinds-end [] i s h = absurd (omega arith)
  kinds-end (x ∷ []) zero s h = refl
  kinds-end (x ∷ []) (suc i) s h = absurd (omega arith)
  kinds-end (x ∷ y ∷ ys) zero s h = absurd (omega arith)
  kinds-end (x ∷ y ∷ ys) (suc i) s h = kinds-end (y ∷ ys) i s (omega arith)

  -- what is seen of segments whose last one may have pad bits set
  unfoldable pub seen : List ℕ → List Segment
  seen xs = kinds w R (cut w R xs)

  seen_more : (x y : ℕ) (ys : List ℕ) → seen (x ∷ y ∷ ys) ≡ kind w x ∷ seen (y ∷ ys)
  unfolding seen kinds cut
  seen_more x y [] = refl
  seen_more x y (z ∷ zs) = refl

  module _ (pos : 0 < w) where
    pub last-le : last_rows w R ≤ w
    unfolding last_rows
    last-le = omega (arith, mod-lt (R - 1) pos)

    pub last_some : 0 < last_rows w R
    unfolding last_rows
    last_some = omega arith

    pub fill-cut : (v : ℕ) → v < 2 → fill w v % last_limit w R ≡ fill (last_rows w R) v
    unfolding fill all_set last_limit
    fill-cut zero h = rw (zero-mul (2 ^ w - 1), zero-mul (2 ^ last_rows w R - 1)) (zero-mod (last_limit w R))
    fill-cut (suc zero) h = rw (one-mul (2 ^ w - 1), one-mul (2 ^ last_rows w R - 1)) (ones_low (last_rows w R) w last-le)
    fill-cut (suc (suc v)) h = absurd (omega arith)

    -- a clean run is seen as clean, over the last segment too
    pub seen-run : (c v : ℕ) (ys : List ℕ) → v < 2 → seen (replicate c (fill w v) ++ ys) ≡ replicate c (clean v) ++ seen ys
    seen-run zero v ys h = refl
    seen-run (suc zero) v [] h = unfold seen kinds cut in rw (fill-cut v h, kind-fill (last_rows w R) v last_some h)
    seen-run (suc zero) v (y ∷ ys) h = seen_more (fill w v) y ys ∙ rw (kind-fill w v pos h)
    seen-run (suc (suc c)) v ys h =
        seen_more (fill w v) (fill w v) (replicate c (fill w v) ++ ys)
        ∙ rw (kind-fill w v pos h)
        (ap (λ (l : List Segment). clean v ∷ l) (seen-run (suc c) v ys h))

    pub seen-word : (x : ℕ) (ys : List ℕ) → (s : Segment) × (seen (x ∷ ys) ≡ s ∷ seen ys)
    seen-word x [] = (kind (last_rows w R) (x % last_limit w R), unfold seen kinds cut in refl)
    seen-word x (y ∷ ys) = (kind w x, seen_more x y ys)

    -- the words that segments stand for, cut, are the words that they were made from
    word_cut : (x : ℕ) → x < last_limit w R → word w (kind (last_rows w R) x) % last_limit w R ≡ x
    unfolding word kind
    word_cut x h = go (eqb x 0) (eqb x (all_set (last_rows w R))) refl refl
      where
        go : (s t : Bool) → eqb x 0 ≡ s → eqb x (all_set (last_rows w R)) ≡ t → word w (cond s (clean 0) (cond t (clean 1) (mixed x))) % last_limit w R ≡ x
        go true t e f = fill-cut 0 (omega arith) ∙ (unfold fill in omega (arith, eqb-true x 0 e))
        go false true e f = fill-cut 1 (omega arith) ∙ (unfold fill in omega (arith, eqb-true x (all_set (last_rows w R)) f))
        go false false e f = mod-eq_of_lt h

    pub words-cut : (xs : List ℕ) → last_of xs < last_limit w R → cut w R (map (word w) (kinds w R xs)) ≡ xs
    unfolding kinds cut last_of
    words-cut [] h = refl
    words-cut (x ∷ []) h = ap (λ (k : ℕ). k ∷ []) (word_cut x h)
    words-cut (x ∷ y ∷ []) h = ap₂ (λ (k l : ℕ). k ∷ l ∷ []) (word-kind w x) (word_cut y h)
    words-cut (x ∷ y ∷ z ∷ zs) h = ap₂ (λ (k : ℕ) (l : List ℕ). k ∷ l) (word-kind w x) (words-cut (y ∷ z ∷ zs) h)

-- the canonical form of segments, in EWAH
unfoldable pub encoded : ℕ → List ℕ → List ℕ
encoded R xs = ewah_of (kinds 32 R xs)

pub canonical-is : (R : ℕ) (p : ℕ → Bool) → canonical Ewah R p ≡ encoded R (from_rows 32 R p)
unfolding canonical encoded
canonical-is R p = refl

pub map-append : (f : ℕ → Segment) (xs ys : List ℕ) → map f (xs ++ ys) ≡ map f xs ++ map f ys
map-append f [] ys = refl
map-append f (x ∷ xs) ys = ap (λ (l : List Segment). f x ∷ l) (map-append f xs ys)
