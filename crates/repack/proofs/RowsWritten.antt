-- Plain words once all rows are put: those of the rows, and then what was there before.
-- Assumes nothing.
use Prim.Native.Nat.{ℕ, suc, ◌+◌, ◌-◌, ◌*◌, ◌^◌, ◌≤◌, ◌<◌}
use mathlib.Core.Bool.{Bool, false, ◌&&◌}
use mathlib.Core.Path.{◌≡◌, refl, sym, ap, ◌∙◌}
use mathlib.Core.List.{List, ◌++◌}
use lib.Dec.{ltb}
use lib.ListN.{length, get_or, set, drop, length-set, length-append, length-drop, get_or-append}
use lib.Seq.{ext_get_or, get_or-set_same, get_or-set_other, get_or-append-add, get_or-drop}
use native.Mathlib.Nat.{zero-mul}
use native.Mathlib.Decide.{dec_le, ℕ_discrete}
use native.Mathlib.Omega.{arith}
use borrow.Author.Tests.{lt-ltb, le-ltb}
use Rattle.meaning.specs.Segment.{segment_count, word_of, from_rows}
use Rattle.laws.proofs.RowWords.{word-ext, word-short, from-length}
use Rattle.laws.proofs.WordJoin.{word-join}
use Rattle.repack.specs.Filling.{rows_done, Laid}
use Rattle.repack.specs.declared.fill.Filler.{Filler}
use Rattle.repack.proofs.PlainSegments.{cell, from-word}

module _ (w R : ℕ) (q : ℕ → Bool) where
  -- the word of segment i, where only its first a rows are below R
  pub cell-is : (a i : ℕ) → a ≤ w → ((j : ℕ) → j < a → i * w + j < R) → ((j : ℕ) → a ≤ j → j < w → R ≤ i * w + j)
      → word_of a (λ j. q (i * w + j)) ≡ cell w R q i
  cell-is a i h inside past =
      let f : ℕ → Bool = λ j. ltb (i * w + j) R && q (i * w + j) in
      let all : a + (w - a) ≡ w = omega arith in
      let clear : (j : ℕ) → j < w - a → f (a + j) ≡ false =
      λ j g. rw (le-ltb (i * w + (a + j)) R (past (a + j) (omega arith) (omega arith))) in
      let none : word_of (w - a) (λ j. f (a + j)) ≡ 0 =
      word-ext (w - a) _ (λ j. false) clear ∙ omega (arith, word-short (w - a) 0 (λ j. false) (λ j g. refl)) in
      word-ext a _ f (λ j g. rw (lt-ltb (i * w + j) R (inside j g)))
      ∙ omega (arith, zero-mul (2 ^ a), ap (λ (z : ℕ). z * 2 ^ a) none, word-join a (w - a) f)
      ∙ ap (λ (n : ℕ). word_of n f) all

  -- a buffer that begins with the words of R rows, and goes on as before
  written : 0 < w → (was out : List ℕ) → length out ≡ length was → segment_count w R ≤ length was
      → ((i : ℕ) → i < segment_count w R → get_or out i 0 ≡ cell w R q i)
      → ((i : ℕ) → segment_count w R ≤ i → get_or out i 0 ≡ get_or was i 0)
      → out ≡ from_rows w R q ++ drop (segment_count w R) was
  written pos was out long room words rest =
      ext_get_or 0 out (from_rows w R q ++ drop n was)
      (omega (arith, length-append (from_rows w R q) (drop n was), all, length-drop n was))
      (λ i h. go i (dec_le (suc i) n))
    where
      n : ℕ
      n = segment_count w R

      all : length (from_rows w R q) ≡ n
      all = from-length w pos R q

      go : (i : ℕ) → Dec (i < n) → get_or out i 0 ≡ get_or (from_rows w R q ++ drop n was) i 0
      go i (yes h) =
          words i h
          ∙ sym (from-word w R q i h)
          ∙ sym (get_or-append (from_rows w R q) (drop n was) 0 i (omega (arith, all)))
      go i (no h) =
          rest i (omega arith)
          ∙ ap (λ (k : ℕ). get_or was k 0) (omega arith)
          ∙ sym (get_or-drop n was (i - n) 0)
          ∙ sym (get_or-append-add (from_rows w R q) (drop n was) (i - n) 0)
          ∙ ap (λ (k : ℕ). get_or (from_rows w R q ++ drop n was) k 0) (omega (arith, all))

module _ (s : Filler) (q : ℕ → Bool) (was out : List ℕ) (l : Laid q was out s)
    (room : rows_done s ≤ 32 * length out) where
  -- a whole word has only rows that were put
  whole_is : (i : ℕ) → i < s.done → get_or out i 0 ≡ cell 32 (rows_done s) q i
  whole_is i h =
      l.whole i h
      ∙ cell-is 32 (rows_done s) q 32 i (omega arith) (λ j g. omega arith) (λ j g k. absurd (omega arith))

  -- no word is begun
  pub finished-whole : s.packer.have ≡ 0 → out ≡ from_rows 32 (rows_done s) q ++ drop (segment_count 32 (rows_done s)) was
  finished-whole none =
      let n : segment_count 32 (rows_done s) ≡ s.done = unfold segment_count in omega arith in
      written 32 (rows_done s) q (omega arith) was out l.long (omega (arith, l.long))
      (λ i h. whole_is i (omega arith)) (λ i h. l.behind i (omega arith))

  -- the word begun is y
  pub finished-begun : (y : ℕ) → (s.packer.have ≡ 0 → ⊥) → y ≡ s.packer.word
      → set out s.done y ≡ from_rows 32 (rows_done s) q ++ drop (segment_count 32 (rows_done s)) was
  finished-begun y some e =
      let n : segment_count 32 (rows_done s) ≡ s.done + 1 = unfold segment_count in omega (arith, l.few) in
      let long : length (set out s.done y) ≡ length was = length-set out s.done y ∙ l.long in
      written 32 (rows_done s) q (omega arith) was (set out s.done y) long (omega (arith, l.long))
      (λ i h. go i (omega arith) (ℕ_discrete i s.done))
      (λ i h. get_or-set_other out s.done i y 0 (omega arith) ∙ l.behind i (omega arith))
    where
      go : (i : ℕ) → i < s.done + 1 → Dec (i ≡ s.done) → get_or (set out s.done y) i 0 ≡ cell 32 (rows_done s) q i
      go i h (yes k) =
          ap (λ (m : ℕ). get_or (set out s.done y) m 0) k
          ∙ get_or-set_same out s.done y 0 (omega arith) ∙ e ∙ l.begun
          ∙ cell-is 32 (rows_done s) q s.packer.have s.done (omega (arith, l.few)) (λ j g. omega arith)
          (λ j g t. omega arith)
          ∙ ap (cell 32 (rows_done s) q) (sym k)
      go i h (no k) = get_or-set_other out s.done i y 0 k ∙ whole_is i (omega arith)
