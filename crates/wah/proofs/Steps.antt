-- One step of the check, at the word x: which fault comes first there, or how the check goes on behind it.
-- Assumes nothing.
use Prim.Native.Nat.{ℕ, suc, ◌+◌, ◌-◌, ◌≤◌, ◌<◌}
use mathlib.Core.Bool.{Bool, true, false, and-false}
use mathlib.Core.Path.{◌≡◌, sym, ap, ◌∙◌, subst}
use mathlib.Core.List.{List, ◌∷◌}
use lib.Dec.{lit<, eqb, leb, ltb}
use lib.ListN.{length, drop, get_or, drop_of_length-le}
use lib.Pow.{pow_pos}
use lib.Seq.{drop-cons}
use native.Mathlib.Numerals.{add-one}
use native.Mathlib.Omega.{arith}
use borrow.Author.Tests.{lt-ltb, le-ltb, eq-eqb, ne_eqb, lt-leb}
use Rattle.meaning.specs.Segment.{segment_count, last_rows, last_limit, over_pad}
use Rattle.meaning.specs.Refusal.{Verdict, sound, refuse_if}
use Rattle.meaning.specs.Piece.{Piece, clean_run, dirty_word, piece_size, dirty_in}
use Rattle.meaning.specs.Wah.{is_fill, fill_value, fill_count, piece_of, wah_fault_from}
use Rattle.laws.proofs.Walk.{over-inside, over_last}
use Rattle.words.proofs.Segmented.{some-rows}
use Rattle.wah.specs.Checking.{Passed, Faulty, Stepped}
use Rattle.std.specs.Prelude.{Result, Ok, Err, MatchResult}
use Rattle.std.specs.Result.{IsErrAnd}
use Rattle.answers.specs.declared.refusal.Refusal.{Refusal}
use Rattle.answers.specs.declared.refusal.Fault.{Fault}
use Rattle.answers.specs.Told.{refused_by}
use Rattle.wah.proofs.Spelled.{fill-piece, literal-piece}

-- the word 0, which a clean run has as its dirty word, sets no pad bit
no-pad : (w R left c : ℕ) → over_pad w R left c 0 ≡ false
unfolding over_pad last_limit
no-pad w R left c = rw (lt-leb (last_limit w R) 0 (pow_pos (last_rows w R)), and-false)

-- where the last segment is to come there are rows
pub last-rows : (R left : ℕ) → left ≤ segment_count 31 R → left ≡ 1 → 1 ≤ R
last-rows R left h e = some-rows 31 R (lit< tt) (omega arith)

module _ (R left x : ℕ) where
  -- the faults at a word that is the piece p
  chain : (p : Piece) → piece_of x ≡ p → (k place : ℕ) (xs : List ℕ) → wah_fault_from k R place left (x ∷ xs)
      ≡ refuse_if (eqb (piece_size p) 0) 10 k place
      (refuse_if (ltb left (piece_size p)) 6 k place
      (refuse_if (over_pad 31 R left 1 (dirty_in p)) 7 k place
      (wah_fault_from k R (suc place) (left - piece_size p) xs)))
  unfolding wah_fault_from
  chain p e k place xs = rw e

  -- ---- a fill of n segments

  module _ (t : Bool) (n : ℕ) (is : t ≡ is_fill x) (yes-fill : t ≡ true) (count : n ≡ fill_count x) where
    its-piece : piece_of x ≡ clean_run (fill_value x) n
    its-piece = fill-piece x (sym is ∙ yes-fill) ∙ ap (clean_run (fill_value x)) (sym count)

    pub fill_none : n ≡ 0 → Faulty R left x 10
    unfolding refuse_if piece_size
    fill_none z = record { first = λ k place xs. chain (clean_run (fill_value x) n) its-piece k place xs ∙ rw (eq-eqb n 0 z) }

    module _ (some : n ≡ 0 → ⊥) where
      pub fill-over : left < n → Faulty R left x 6
      unfolding refuse_if piece_size
      fill-over h = record {
        first = λ k place xs. chain (clean_run (fill_value x) n) its-piece k place xs ∙ rw (ne_eqb n 0 some, lt-ltb left n h);
      }

      pub fill-passed : n ≤ left → Passed R left x (left - n)
      unfolding refuse_if piece_size dirty_in
      fill-passed h = record {
        fewer = omega arith;
        same = λ k place xs.
            chain (clean_run (fill_value x) n) its-piece k place xs ∙ rw (ne_eqb n 0 some, le-ltb left n h, no-pad 31 R left 1);
      }

  -- ---- a literal

  module _ (t : Bool) (is : t ≡ is_fill x) (no-fill : t ≡ false) where
    literal : piece_of x ≡ dirty_word x
    literal = literal-piece x (sym is ∙ no-fill)

    pub literal-over : left ≡ 0 → Faulty R left x 6
    unfolding refuse_if piece_size
    literal-over z = record {
      first = λ k place xs. chain (dirty_word x) literal k place xs ∙ rw (lt-ltb left 1 (omega arith));
    }

    module _ (some : left ≡ 0 → ⊥) where
      -- u says whether it sets a pad bit
      literal-next : (u : Bool) → u ≡ over_pad 31 R left 1 x → (k place : ℕ) (xs : List ℕ)
          → wah_fault_from k R place left (x ∷ xs) ≡ refuse_if u 7 k place (wah_fault_from k R (suc place) (left - 1) xs)
      unfolding refuse_if piece_size dirty_in
      literal-next u e k place xs =
          chain (dirty_word x) literal k place xs ∙ rw (le-ltb left 1 (omega (arith, some)), e)

      pub literal-inside : (left ≡ 1 → ⊥) → Passed R left x (left - 1)
      unfolding refuse_if
      literal-inside h = record {
        fewer = omega arith;
        same = literal-next false (over-inside 31 R left 1 x (λ e. h (sym e)));
      }

      module _ (u : Bool) (last : left ≡ 1) (pad : u ≡ leb (last_limit 31 R) x) where
        its-pad : u ≡ over_pad 31 R left 1 x
        its-pad = over_last 31 R left 1 x u (omega arith) (sym last) pad

        pub literal-pad : u ≡ true → Faulty R left x 7
        unfolding refuse_if
        literal-pad e = record { first = λ k place xs. literal-next u its-pad k place xs ∙ rw e }

        pub literal-last : u ≡ false → Passed R left x 0
        unfolding refuse_if
        literal-last e = record {
          fewer = omega arith;
          same = λ k place xs. let z : left - 1 ≡ 0 = omega arith in literal-next u its-pad k place xs ∙ rw (e, z);
        }

-- ---- a step's answer, by its case, where P is how a fault is told

module _ (R left x : ℕ) (s : Result ℕ Fault) (is : Stepped R left x s) (P : Fault → Refusal → Type 0) (r : Result ℕ Refusal)
    (cases : MatchResult s (λ rest. r ≡ Ok rest) (λ fault. IsErrAnd r (P fault))) where
  pub passed-of : (rest : ℕ) → r ≡ Ok rest → Passed R left x rest
  passed-of rest e = go s is cases
    where
      go : (s : Result ℕ Fault) → Stepped R left x s → MatchResult s (λ rest. r ≡ Ok rest) (λ fault. IsErrAnd r (P fault)) → Passed R left x rest
      go (Ok n) p h = let q : n ≡ rest = cc in subst (λ (n : ℕ). Passed R left x n) q p
      go (Err f) p h = elim (subst (λ (r : Result ℕ Refusal). IsErrAnd r (P f)) e h) [ ]

  pub faulty-of : (told : Refusal) → r ≡ Err told → (k place : ℕ)
      → ((fault : Fault) → P fault told → told ≡ record { fault = fault; bitmap = k; word = place })
      → (xs : List ℕ) → wah_fault_from k R place left (x ∷ xs) ≡ refused_by told
  faulty-of told e k place said xs = go s is cases
    where
      go : (s : Result ℕ Fault) → Stepped R left x s → MatchResult s (λ rest. r ≡ Ok rest) (λ fault. IsErrAnd r (P fault))
          → wah_fault_from k R place left (x ∷ xs) ≡ refused_by told
      go (Ok n) p h = elim (subst (λ (r : Result ℕ Refusal). IsErrAnd r (λ y. Unit {0})) (sym e ∙ h) tt) [ ]
      go (Err f) p h = rw (said f (subst (λ (r : Result ℕ Refusal). IsErrAnd r (P f)) e h)) (p.first k place xs)

-- ---- in a body

-- at the word at i
module _ (b : List ℕ) (R left i : ℕ) (h : i < length b) (k start : ℕ) where
  pub passed-at : (rest : ℕ) → Passed R left (get_or b i 0) rest
      → wah_fault_from k R (start + i) left (drop i b) ≡ wah_fault_from k R (start + (i + 1)) rest (drop (i + 1) b)
  passed-at rest p =
      let place : suc (start + i) ≡ start + (i + 1) = omega arith in
      ap (wah_fault_from k R (start + i) left) (drop-cons b i 0 h)
      ∙ p.same k (start + i) (drop (suc i) b)
      ∙ rw (place, add-one i)

  -- the fault there is the body's
  pub faulty-at : (v : Verdict) → ((xs : List ℕ) → wah_fault_from k R (start + i) left (get_or b i 0 ∷ xs) ≡ v)
      → wah_fault_from k R (start + i) left (drop i b) ≡ v
  faulty-at v p = ap (wah_fault_from k R (start + i) left) (drop-cons b i 0 h) ∙ p (drop (suc i) b)

-- at the body's end
pub end-fault : (k R place left i : ℕ) (b : List ℕ) → length b ≤ i
    → wah_fault_from k R place left (drop i b) ≡ refuse_if (ltb 0 left) 6 k place sound
unfolding wah_fault_from
end-fault k R place left i b h = rw (drop_of_length-le b h)
