-- The slices of a column of a sound index: the first that has a row which does not exist, and the digits of a value.
-- Assumes nothing.
use Prim.Native.Nat.{ℕ, suc, ◌+◌, ◌-◌, ◌*◌, ◌^◌, ◌≤◌, ◌<◌}
use mathlib.Core.Bool.{Bool}
use mathlib.Core.Path.{◌≡◌, refl, sym, ap, ap₂, ◌∙◌, subst}
use mathlib.Core.List.{List, [], ◌∷◌}
use Rattle.std.specs.Prelude.{Option}
use native.Mathlib.Omega.{arith}
use borrow.Author.Tests.{lt-ltb}
use lib.Dec.{ltb}
use lib.IntN.{ℤ, pos, negsuc, neg_ℤ, ◌+ℤ◌, ◌-ℤ◌, ◌*ℤ◌, +ℤ_idl}
use lib.ListN.{length, get_or, take, drop, length-drop, drop_of_length-le}
use lib.Seq.{get_or-take, get_or-drop, length-take-le}
use lib.Pow.{pow_mono}
use lib.Signed.{mag}
use mir.Syntax.{w64}
use mir.Val.{SFits, to_z}
use mir.ValLaws.{to_z-of_z}
use Rattle.meaning.specs.Limits.{most_value_column}
use Rattle.meaning.specs.Rows.{bit, count_below}
use Rattle.meaning.specs.Refusal.{refused, sound}
use Rattle.meaning.specs.Index.{format_of, row_count, rows_at, body_at}
use Rattle.meaning.specs.declared.Format.{Format}
use Rattle.laws.specs.Laws.{SoundFacts}
use Rattle.meaning.specs.Answer.{named}
use Rattle.column_meaning.specs.Column.{value_of, signed_of}
use Rattle.column_meaning.specs.Columns.{existing, slices_of, value_at, signed_at, stray_rows, strays_in, strays}
use Rattle.laws.specs.Demands.{IsNth}
use Rattle.laws.proofs.Outcomes.{refuse-no, refuse-yes}
use Rattle.laws.proofs.RowWords.{bit_le}
use Rattle.laws.proofs.Counted.{count_none, nth-below, nth-eq}
use Rattle.laws.proofs.NamedBitmaps.{named-length}
use Rattle.laws.proofs.SignedValues.{signed_range}
use Rattle.ewah.proofs.Pieces.{cons-at}
use Rattle.column.specs.Outside.{outside, NoneBelow, Lowest, FoundIn}

-- ---- bodies as they were handed on

-- what was found in them
pub found_at : (F G : Format) (x x' y y' : List ℕ) (n n' : ℕ) (r : Option ℕ) → F ≡ G → x ≡ x' → y ≡ y' → n ≡ n'
    → FoundIn n (outside F x y) r → FoundIn n' (outside G x' y') r
found_at F G x x' y y' n n' r e f g h t = rw (e, f, g, h) at t

-- the facts of one
pub facts_at : (F G : Format) (n n' : ℕ) (b b' : List ℕ) → F ≡ G → n ≡ n' → b ≡ b' → SoundFacts G n' b'
    → SoundFacts F n b
facts_at F G n n' b b' e f g t = rw (e, f, g) t

-- the slices of a list, in their order
pub slice_at : (list : List ℕ) (i : ℕ) → i < length list - 1
    → get_or (take (length list - 1) (drop 1 list)) i 0 ≡ get_or list (i + 1) 0
slice_at list i h =
    let e : 1 + i ≡ i + 1 = omega arith in
    get_or-take (length list - 1) (drop 1 list) i 0 h ∙ get_or-drop 1 list i 0 ∙ ap (λ (k : ℕ). get_or list k 0) e

pub slices-length : (list : List ℕ) → length (take (length list - 1) (drop 1 list)) ≡ length list - 1
slices-length list = length-take-le (length list - 1) (drop 1 list) (omega (arith, length-drop 1 list))

-- ---- a slice k, and the others behind it

module _ (index : List ℕ) (j k : ℕ) (ks : List ℕ) where
  abbrev stray : ℕ → Bool
  stray = stray_rows index (rows_at index j) k

  abbrev strayed : ℕ → Bool
  strayed = outside (format_of index) (body_at index k) (body_at index j)

  same : stray ≡ strayed
  unfolding stray_rows rows_at
  same = refl

  -- it has no such row
  pub stray-none : NoneBelow (row_count index) strayed
      → strays_in index (rows_at index j) (k ∷ ks) ≡ strays_in index (rows_at index j) ks
  unfolding strays_in
  stray-none n =
      refuse-no _ _ _ _ _
      (ap (ltb 0) (ap (count_below (row_count index)) same ∙ count_none (row_count index) strayed n))

  -- it has one
  pub stray-row : (row : ℕ) → Lowest (row_count index) strayed row
      → strays_in index (rows_at index j) (k ∷ ks) ≡ refused 11 k row
  unfolding strays_in
  stray-row row l =
      refuse-yes _ _ _ _ _ (lt-ltb 0 (count_below (row_count index) stray) (nth-below (row_count index) stray 0 row is))
      ∙ ap (refused 11 k) (nth-eq (row_count index) stray 0 row is)
    where
      is : IsNth (row_count index) stray 0 row
      is = rw same (record { below = l.below; set = l.set; before = count_none row strayed l.before })

-- ---- the whole list, from place i on

module _ (index : List ℕ) where
  -- the slices of a list of at least one number
  pub strays-first : (list : List ℕ) → 1 ≤ length list
      → strays index list ≡ strays_in index (rows_at index (get_or list 0 0)) (drop 1 list)
  unfolding strays
  strays-first [] h = absurd (omega arith)
  strays-first (k ∷ ks) h = refl

  pub strays-place : (e : ℕ → Bool) (list : List ℕ) (i : ℕ) → i < length list
      → strays_in index e (drop i list) ≡ strays_in index e (get_or list i 0 ∷ drop (i + 1) list)
  strays-place e list i h = ap (strays_in index e) (cons-at list i h)

  pub strays-end : (e : ℕ → Bool) (list : List ℕ) (i : ℕ) → length list ≤ i → strays_in index e (drop i list) ≡ sound
  unfolding strays_in
  strays-end e list i h = rw (drop_of_length-le list h)

  -- ---- the digits of a value

  -- of the slices from place i on
  abbrev pub value_from : (list : List ℕ) (row i : ℕ) → ℕ
  value_from list row i = value_of (named index (drop i list)) row

  pub value_none : (list : List ℕ) (row i : ℕ) → length list ≤ i → 0 ≡ value_from list row i
  unfolding value_of named
  value_none list row i h = rw (drop_of_length-le list h)

  pub value-more : (list : List ℕ) (row i v d : ℕ) → i < length list → v ≡ value_from list row (i + 1)
      → d ≡ bit (rows_at index (get_or list i 0) row) → 2 * v + d ≡ value_from list row i
  unfolding value_of named
  value-more list row i v d h e g = rw (cons-at list i h) (omega (arith, e, g))

  pub value-all : (list : List ℕ) (row : ℕ) → 1 ≤ length list → value_from list row 1 ≡ value_at index list row
  unfolding value_at slices_of
  value-all [] row h = absurd (omega arith)
  value-all (k ∷ ks) row h = refl

  -- ---- the digits of a signed value

  -- of the slices from place i on
  abbrev pub signed_from : (list : List ℕ) (row i : ℕ) → ℤ
  signed_from list row i = signed_of (named index (drop i list)) row

  -- the top slice alone: its digit is negated
  pub signed_top : (list : List ℕ) (row i d : ℕ) → i + 1 ≡ length list
      → d ≡ bit (rows_at index (get_or list i 0) row) → pos 0 -ℤ pos d ≡ signed_from list row i
  unfolding signed_of named
  signed_top list row i d e g =
      let last : drop (i + 1) list ≡ [] = drop_of_length-le list {i = i + 1} (omega arith) in
      +ℤ_idl (neg_ℤ (pos d)) ∙ rw (cons-at list i (omega arith), last, g)

  pub signed-more : (list : List ℕ) (row i d : ℕ) (v : ℤ) → i + 1 < length list → v ≡ signed_from list row (i + 1)
      → d ≡ bit (rows_at index (get_or list i 0) row) → pos d +ℤ pos 2 *ℤ v ≡ signed_from list row i
  signed-more list row i d v h e g =
      ap₂ (λ (a b : ℤ). a +ℤ pos 2 *ℤ b) (ap pos g) (e ∙ ap (λ (ks : List ℕ). signed_of (named index ks) row) next)
      ∙ sym (ap (λ (ks : List ℕ). signed_of (named index ks) row)
      (cons-at list i (omega arith) ∙ ap (λ (ks : List ℕ). get_or list i 0 ∷ ks) next) ∙ step)
    where
      next : drop (i + 1) list ≡ get_or list (i + 1) 0 ∷ drop (i + 1 + 1) list
      next = cons-at list (i + 1) h

      step : signed_of (named index (get_or list i 0 ∷ get_or list (i + 1) 0 ∷ drop (i + 1 + 1) list)) row
          ≡ pos (bit (rows_at index (get_or list i 0) row))
          +ℤ pos 2 *ℤ signed_of (named index (get_or list (i + 1) 0 ∷ drop (i + 1 + 1) list)) row
      step = unfold signed_of in unfold named in refl

  pub signed_all : (list : List ℕ) (row : ℕ) → 1 ≤ length list → signed_from list row 1 ≡ signed_at index list row
  unfolding signed_at slices_of
  signed_all [] row h = absurd (omega arith)
  signed_all (k ∷ ks) row h = refl

  -- of 33 slices at most
  pub signed-few : (list : List ℕ) (row i : ℕ) → 1 ≤ i → i < length list → length list ≤ most_value_column
      → mag (signed_from list row i) < 2 ^ 32
  signed-few list row i g h l =
      let n : ℕ = length list - i - 1 in
      let many : length (named index (drop i list)) ≡ suc n =
      named-length index (drop i list) ∙ length-drop i list ∙ omega arith in
      let few : n ≤ 32 = omega arith in
      omega (arith, signed_range (named index (drop i list)) row n many, pow_mono few)

-- twice such a number fits
pub doubled_fits : (z : ℤ) → mag z < 2 ^ 32 → SFits w64 (pos 2 *ℤ z)
doubled_fits (pos n) h = record { sfits = omega arith }
doubled_fits (negsuc n) h =
    let e : 2 * suc n ≡ suc (suc (2 * n)) = omega arith in
    record { sfits = subst (λ (m : ℕ). mag (neg_ℤ (pos m)) < 2 ^ 63) (sym e) (omega arith) }

-- so does one of them
pub few-fits : (z : ℤ) → mag z < 2 ^ 32 → SFits w64 z
few-fits z h = record { sfits = omega arith }

-- and a digit, which is the same number with a sign
pub digit-fits : (d : ℕ) (b : Bool) → d ≡ bit b → SFits w64 (pos d)
digit-fits d b e = record { sfits = omega (arith, bit_le b) }

pub digit-signed : (d : ℕ) (b : Bool) → d ≡ bit b → to_z w64 d ≡ pos d
digit-signed d b e = to_z-of_z w64 (pos d) (digit-fits d b e)

-- of 33 digits at most
pub value-few : (n i v : ℕ) → 1 ≤ i → n ≤ most_value_column → v < 2 ^ (n - i) → v < 2 ^ 33
value-few n i v g h l = let k : n - i ≤ 33 = omega arith in omega (arith, pow_mono k)

-- a digit more
pub value_low : (n i v d : ℕ) → 1 ≤ i → i ≤ n → v < 2 ^ (n - i) → d ≤ 1 → 2 * v + d < 2 ^ (n - (i - 1))
value_low n i v d g h l b =
    let e : n - (i - 1) ≡ suc (n - i) = omega arith in
    rw e (omega arith)

-- what exists
pub exists-first : (index list : List ℕ) (row : ℕ) → 1 ≤ length list
    → rows_at index (get_or list 0 0) row ≡ existing index list row
unfolding existing
exists-first index [] row h = absurd (omega arith)
exists-first index (k ∷ ks) row h = refl
