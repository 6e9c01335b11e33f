-- A look at the next segments of a slice and of existence, and the cursors that go on behind it.
-- Assumes nothing.
use Prim.Native.Nat.{ℕ, ◌+◌, ◌-◌, ◌*◌, ◌/◌, ◌%◌, ◌^◌, ◌≤◌, ◌<◌}
use mathlib.Core.Bool.{Bool, true, false, not, ◌&&◌}
use mathlib.Core.Path.{◌≡◌, refl, sym, ap, ap₂, ◌∙◌, subst, subst₂}
use mathlib.Core.List.{List}
use native.Mathlib.Nat.{add-mul, zero-mul, one-mul, div-add-mod', mod-lt, div-lt_iff_lt-mul}
use native.Mathlib.Omega.{arith}
use lib.ListN.{length, take, drop, get_or}
use lib.Seq.{get_or-take, get_or-drop}
use borrow.Rule.Slice.PartMut.{mid_len}
use Rattle.std.specs.Prelude.{Option}
use Rattle.meaning.specs.Limits.{word_bits}
use Rattle.meaning.specs.Rows.{nth_below}
use Rattle.meaning.specs.Segment.{is_set, bit_at, fill, all_set}
use Rattle.meaning.specs.Format.{width, segments_of, rows_of}
use Rattle.meaning.specs.declared.Format.{Format}
use Rattle.meaning.specs.Question.{difference}
use Rattle.laws.specs.Demands.{Words}
use Rattle.laws.specs.Ahead.{Ahead}
use Rattle.laws.proofs.Counting.{zero_clear, full-set}
use Rattle.laws.proofs.Formats.{width-pos, width-le, segments-below}
use Rattle.laws.proofs.RowWords.{has-at}
use Rattle.ewah.specs.declared.cursor.Cursor.{Cursor}
use Rattle.ewah.specs.declared.cursor.Piece as code
use Rattle.ewah.specs.declared.cursor.Piece.TheVariants.{Clean, Dirty}
use Rattle.ewah.specs.Cursors.{InOrder, left_of, pieces_from}
use Rattle.bodies.specs.Walks.{word_of, span_by, span_of, behind}
use Rattle.bodies.proofs.Spans.{word_held, run-word, piece-word, dirty-segment}
use Rattle.column.specs.Outside.{outside, over_bit, OverBits, Spells, NoneBelow, Lowest, FoundIn}
use Rattle.column.proofs.Lowering.{none_more, lowest-here}

-- ---- words that have no such bit

and-false : (a : Bool) → a && false ≡ false
and-false true = refl
and-false false = refl

module _ (w : ℕ) where
  -- a run of zeros of the slice
  zeros-clear : (e j : ℕ) → over_bit (fill w 0) e j ≡ false
  unfolding fill
  zeros-clear e j = rw (zero-mul (all_set w), zero_clear j)

  -- a run of ones of existence
  ones-clear : (x j : ℕ) → j < w → over_bit x (fill w 1) j ≡ false
  unfolding fill all_set
  ones-clear x j h = rw (one-mul (2 ^ w - 1), full-set w j h) (and-false (is_set x j))

  none-by-words : 0 < w → (p : ℕ → Bool) (x e : ℕ → ℕ) (n : ℕ) → Spells w p x e n
      → ((i j : ℕ) → i < n → j < w → over_bit (x i) (e i) j ≡ false) → NoneBelow (n * w) p
  none-by-words pos p x e n s h r l =
      let i : r / w < n = (div-lt_iff_lt-mul pos).1 l in
      let j : r % w < w = mod-lt r pos in
      let z : r ≡ r / w * w + r % w = omega (arith, div-add-mod' r w) in
      ap p z ∙ s.bits (r / w) (r % w) i j ∙ h (r / w) (r % w) i j

-- there is a segment in the piece where there is one before the next marker or fill
left-some : (q : code.Piece) (d : ℕ) → 1 ≤ span_by q d → 1 ≤ left_of q
left-some (Clean v k) d h = h
left-some (Dirty x) d h = omega arith

-- the words from segment o on
abbrev words_from : Format → (b : List ℕ) (o i : ℕ) → ℕ
words_from F b o i = get_or (segments_of F b) (o + i) 0

-- where the cursor is on a dirty word: the words of the next n segments are in the body, from that one on
pub words-within : (F : Format) (b : List ℕ) (n : ℕ) (c : Cursor) → InOrder F b c → (x : ℕ) → c.piece ≡ Dirty x → 1 ≤ n
    → c.next + behind c.piece n ≤ length b → (1 ≤ c.next) × (c.next - 1 + n ≤ length b)
words-within F b n c k x e g l =
    let h = word_held F b c k x e in
    (h.0, omega (arith, h.0, ap (λ (q : code.Piece). behind q n) e))

words_are : (F : Format) (b : List ℕ) (o n : ℕ) (c : Cursor) → Ahead F b o (pieces_from F b c) → InOrder F b c
    → (x : ℕ) → c.piece ≡ Dirty x → n ≤ span_of c → c.next + behind c.piece n ≤ length b
    → (i : ℕ) → i < n → words_from F b o i ≡ get_or b (c.next - 1 + i) 0
words_are F b o n c a k x e h l i g =
    let few : n ≤ c.dirty + 1 = omega (arith, ap (λ (q : code.Piece). span_by q c.dirty) e) in
    let there : c.next + (n - 1) ≤ length b = omega (arith, ap (λ (q : code.Piece). behind q n) e) in
    dirty-segment F b o c a x e k i (omega arith) (omega arith)

-- a part of a body: its n words from word i on
module _ (b : List ℕ) (i n : ℕ) where
  abbrev pub part : List ℕ
  part = take (i + n - i) (drop i b)

  pub part-length : i + n ≤ length b → length part ≡ n
  part-length h = mid_len i (i + n) b h ∙ omega arith

  part-at : (k : ℕ) → k < n → get_or b (i + k) 0 ≡ get_or part k 0
  part-at k h = sym (get_or-take (i + n - i) (drop i b) k 0 (omega arith) ∙ get_or-drop i b k 0)

-- what words spell, of parts
pub spells-parts : (w : ℕ) (p : ℕ → Bool) (b e : List ℕ) (i j n : ℕ)
    → Spells w p (λ k. get_or b (i + k) 0) (λ k. get_or e (j + k) 0) n
    → Spells w p (λ k. get_or (part b i n) k 0) (λ k. get_or (part e j n) k 0) n
spells-parts w p b e i j n s = record {
  low = λ k h. subst (λ (x : ℕ). x < 2 ^ w) (part-at b i n k h) (s.low k h);
  bits = λ k l h g. s.bits k l h g ∙ ap₂ (λ (x y : ℕ). over_bit x y l) (part-at b i n k h) (part-at e j n k h);
}

-- what was found in m segments of v rows, where v is w and m is n
pub found_as : (v w m n : ℕ) (x e : ℕ → ℕ) (r : Option ℕ) → v ≡ w → m ≡ n → ((p : ℕ → Bool) → Spells v p x e m → FoundIn (m * v) p r)
    → (p : ℕ → Bool) → Spells w p x e n → FoundIn (n * w) p r
found_as v w m n x e r is all f = subst₂ (λ (k l : ℕ). (p : ℕ → Bool) → Spells k p x e l → FoundIn (l * k) p r) is all f

-- the cursors of a slice and of existence stand at segment o, with n segments up to the next marker or fill of either
pub record Facing (F : Format) (slice exists : List ℕ) (n : ℕ) (c e : Cursor) (o : ℕ) : Type 0 where
  pub words : Words slice
  pub some : 1 ≤ n
  pub few : n ≤ span_of c
  pub few' : n ≤ span_of e
  pub ahead : Ahead F slice o (pieces_from F slice c)
  pub ahead' : Ahead F exists o (pieces_from F exists e)

pub facing : (F : Format) (slice exists : List ℕ) (n : ℕ) (c e : Cursor) (o : ℕ) → Words slice → 1 ≤ n → n ≤ span_of c → n ≤ span_of e
    → Ahead F slice o (pieces_from F slice c) → Ahead F exists o (pieces_from F exists e) → Facing F slice exists n c e o
facing F slice exists n c e o w s f g l k = record { words = w; some = s; few = f; few' = g; ahead = l; ahead' = k }

module _ {F : Format} {slice exists : List ℕ} {n : ℕ} {c e : Cursor} {o : ℕ} (at : Facing F slice exists n c e o) where
  -- the rows from segment o on
  abbrev rows : ℕ → Bool
  rows k = outside F slice exists (o * width F + k)

  abbrev x : ℕ → ℕ
  x = words_from F slice o

  abbrev y : ℕ → ℕ
  y = words_from F exists o

  spelled : (i j : ℕ) → j < width F → outside F slice exists (o * width F + (i * width F + j)) ≡ over_bit (x i) (y i) j
  unfolding difference rows_of is_set bit_at
  spelled i j l =
      let z : o * width F + (i * width F + j) ≡ (o + i) * width F + j = omega (arith, add-mul o i (width F)) in
      let has = has-at (width F) (width-pos F) (segments_of F slice) (o + i) j l in
      let has' = has-at (width F) (width-pos F) (segments_of F exists) (o + i) j l in
      ap (outside F slice exists) z ∙ ap₂ (λ (s t : Bool). s && not t) has has'

  spells : Spells (width F) rows x y n
  spells = record { low = λ i h. segments-below F slice at.words (o + i); bits = λ i j h l. spelled i j l }

  -- the slice is in a run of zeros
  pub seen-zeros : (k : ℕ) → c.piece ≡ Clean 0 k → NoneBelow (n * width F) rows
  seen-zeros k f =
      let l : n ≤ k = omega (arith, at.few, ap (λ (q : code.Piece). span_by q c.dirty) f) in
      none-by-words (width F) (width-pos F) rows x y n spells
      (λ i j h g.
      let is = run-word F slice o c at.ahead 0 k f i (omega arith) in
      ap (λ (v : ℕ). over_bit v (y i) j) is ∙ zeros-clear (width F) (y i) j)

  -- existence is in a run of ones
  pub seen-ones : (k : ℕ) → e.piece ≡ Clean 1 k → NoneBelow (n * width F) rows
  seen-ones k f =
      let l : n ≤ k = omega (arith, at.few', ap (λ (q : code.Piece). span_by q e.dirty) f) in
      none-by-words (width F) (width-pos F) rows x y n spells
      (λ i j h g.
      let is = run-word F exists o e at.ahead' 1 k f i (omega arith) in
      ap (λ (v : ℕ). over_bit (x i) v j) is ∙ ones-clear (width F) (x i) j g)

  -- both are on dirty words
  pub seen-words : InOrder F slice c → InOrder F exists e → (v : ℕ) → c.piece ≡ Dirty v → (u : ℕ) → e.piece ≡ Dirty u
      → c.next + behind c.piece n ≤ length slice → e.next + behind e.piece n ≤ length exists
      → Spells (width F) rows (λ i. get_or slice (c.next - 1 + i) 0) (λ i. get_or exists (e.next - 1 + i) 0) n
  seen-words k k' v f u f' l l' = record {
    low = λ i h. subst (λ (z : ℕ). z < 2 ^ width F) (are i h) (spells.low i h);
    bits = λ i j h g. spelled i j g ∙ ap₂ (λ (s t : ℕ). over_bit s t j) (are i h) (are' i h);
  }
    where
      are : (i : ℕ) → i < n → words_from F slice o i ≡ get_or slice (c.next - 1 + i) 0
      are i h = words_are F slice o n c at.ahead k v f at.few l i h

      are' : (i : ℕ) → i < n → words_from F exists o i ≡ get_or exists (e.next - 1 + i) 0
      are' i h = words_are F exists o n e at.ahead' k' u f' at.few' l' i h

  -- the first segment's words
  word-is : x 0 ≡ word_of F c.piece
  word-is =
      let l = left-some c.piece c.dirty (omega (arith, at.some, at.few)) in
      piece-word F slice o c at.ahead 0 l

  word-is' : y 0 ≡ word_of F e.piece
  word-is' =
      let l = left-some e.piece e.dirty (omega (arith, at.some, at.few')) in
      piece-word F exists o e at.ahead' 0 l

  module _ (v : ℕ) (g : (w : ℕ) → w ≤ word_bits → word_of F c.piece < 2 ^ w
      → OverBits w (word_of F c.piece) (word_of F e.piece) v) where
    first-over : OverBits (width F) (x 0) (y 0) v
    first-over =
        let low = subst (λ (z : ℕ). z < 2 ^ width F) word-is (spells.low 0 at.some) in
        rw (word-is, word-is') (g (width F) (width-le F) low)

    none_first : NoneBelow (0 * width F) rows
    none_first r h = absurd (omega (arith, zero-mul (width F)))

    pub seen_first : (j : ℕ) → (v ≡ 0 → ⊥) → j ≡ nth_below 32 (is_set v) 0 → Lowest (n * width F) rows j
    seen_first j z f =
        let e : 0 * width F + j ≡ j = omega (arith, zero-mul (width F)) in
        let low = lowest-here (width F) rows x y n 0 v spells at.some none_first first-over j (width-le F) z f in
        subst (λ (k : ℕ). Lowest (n * width F) rows k) e low

    pub seen_none : v ≡ 0 → NoneBelow (1 * width F) rows
    seen_none z = none_more (width F) rows x y n 0 v spells at.some none_first first-over z
