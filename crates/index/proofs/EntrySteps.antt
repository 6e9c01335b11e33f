-- The entries of an index, one by one, and where a body lies.
-- Assumes nothing.
use Prim.Native.Nat.{ℕ, suc, ◌+◌, ◌-◌, ◌≤◌, ◌<◌}
use mathlib.Core.Path.{◌≡◌, sym, ◌∙◌, subst}
use mathlib.Core.List.{List}
use native.Mathlib.Omega.{arith}
use borrow.Author.Tests.{lt-ltb, le-ltb, eq-eqb, ne_eqb}
use lib.Dec.{ltb}
use lib.ListN.{length}
use Rattle.meaning.specs.Refusal.{Verdict, refused, sound, refuse_if, ◌then◌}
use Rattle.meaning.specs.Format.{body_fault}
use Rattle.meaning.specs.Index.{format_of, row_count, bitmap_count, entry_place, start_of, length_of, body_at, entries_fault, bodies_fault}
use Rattle.std.specs.Prelude.{Result, Ok, Err}
use Rattle.answers.specs.declared.refusal.Refusal.{Refusal}
use Rattle.answers.specs.declared.refusal.Fault.TheVariants.{WrongContents}
use Rattle.answers.specs.Told.{refused_by}
use Rattle.index.specs.Entries.{Passed, Faulty, Stepped}

module _ (index : List ℕ) (k end s place : ℕ) (at : s ≡ start_of index k) (is : place ≡ entry_place index k) (r : Refusal) (told : r ≡ record { fault = WrongContents; bitmap = k; word = place }) where
  pub start-wrong : (s ≡ end → ⊥) → Faulty index k end r
  unfolding entries_fault refuse_if
  start-wrong h = record { first = λ more. rw (ne_eqb (start_of index k) end (λ e. h (at ∙ e)), told, is) }

module _ (index : List ℕ) (k end s l : ℕ) (at : s ≡ start_of index k) (e : s ≡ end) (of : l ≡ length_of index k) (i : end ≤ length index) where
  pub length-wrong : (place : ℕ) (r : Refusal) → place ≡ entry_place index k → r ≡ record { fault = WrongContents; bitmap = k; word = place + 1 } → length index - end < l
      → Faulty index k end r
  unfolding entries_fault refuse_if
  length-wrong place r is told h = record { first = λ more. rw (eq-eqb (start_of index k) end (sym at ∙ e), lt-ltb (length index) (end + length_of index k) (omega arith), told, is) }

  pub entry-right : l ≤ length index - end → Passed index k end (end + l)
  unfolding entries_fault refuse_if
  entry-right h = record { inside = omega arith; same = λ more. rw (eq-eqb (start_of index k) end (sym at ∙ e), le-ltb (length index) (end + length_of index k) (omega arith), of) }

-- ---- a step's answer, by its case

module _ (index : List ℕ) (k end : ℕ) (r : Result ℕ Refusal) (s : Stepped index k end r) where
  pub passed-of : (next : ℕ) → r ≡ Ok next → Passed index k end next
  passed-of next e = subst (λ (z : Result ℕ Refusal). Stepped index k end z) e s

  pub faulty-of : (x : Refusal) → r ≡ Err x → Faulty index k end x
  faulty-of x e = subst (λ (z : Result ℕ Refusal). Stepped index k end z) e s

-- ---- the loops: n entries in all, k of them behind

module _ (index : List ℕ) (n k end : ℕ) (v : Verdict) (inv : entries_fault index k (n - k) end ≡ v) where
  module _ (h : k < n) where
    pub entries_next : (next : ℕ) → Passed index k end next → entries_fault index (k + 1) (n - (k + 1)) next ≡ v
    entries_next next p = let e : k + 1 ≡ suc k = omega arith in rw e (sym (p.same (n - suc k)) ∙ on inv)
      where
        on : entries_fault index k (n - k) end ≡ v → entries_fault index k (suc (n - suc k)) end ≡ v
        on i = let e : n - k ≡ suc (n - suc k) = omega arith in rw e at i

    pub entries-fault : (r : Refusal) → Faulty index k end r → refused_by r ≡ v
    entries-fault r f = let e : n - k ≡ suc (n - suc k) = omega arith in sym (f.first (n - suc k)) ∙ rw e at inv

  module _ (h : n ≤ k) where
    ended : refuse_if (ltb end (length index)) 4 0 end sound ≡ v
    unfolding entries_fault
    ended = let e : n - k ≡ 0 = omega arith in rw e at inv

    pub entries-left : end < length index → refused 4 0 end ≡ v
    unfolding refuse_if
    entries-left l = rw (lt-ltb end (length index) l) at ended

    pub entries-end : length index ≤ end → sound ≡ v
    unfolding refuse_if
    entries-end l = rw (le-ltb end (length index) l) at ended

module _ (index : List ℕ) (n k : ℕ) (v : Verdict) (inv : bodies_fault index k (n - k) ≡ v) where
  module _ (h : k < n) where
    opened : (body_fault (format_of index) k (start_of index k) (row_count index) (body_at index k) then bodies_fault index (k + 1) (n - (k + 1))) ≡ v
    unfolding bodies_fault
    opened = let e : n - k ≡ suc (n - suc k) = omega arith in let z : k + 1 ≡ suc k = omega arith in rw z (rw e at inv)

    pub bodies-next : body_fault (format_of index) k (start_of index k) (row_count index) (body_at index k) ≡ sound → bodies_fault index (k + 1) (n - (k + 1)) ≡ v
    unfolding ◌then◌
    bodies-next e = rw e at opened

    pub bodies-fault : (number bitmap word : ℕ) → body_fault (format_of index) k (start_of index k) (row_count index) (body_at index k) ≡ refused number bitmap word → refused number bitmap word ≡ v
    unfolding ◌then◌
    bodies-fault number bitmap word e = rw e at opened

  pub bodies-end : n ≤ k → sound ≡ v
  unfolding bodies_fault
  bodies-end h = let e : n - k ≡ 0 = omega arith in rw e at inv

pub entries-start : (index : List ℕ) (n e : ℕ) → n ≡ bitmap_count index → e ≡ entry_place index n → entries_fault index 0 (n - 0) e ≡ entries_fault index 0 (bitmap_count index) (entry_place index (bitmap_count index))
entries-start index n e h g = let z : n - 0 ≡ n = omega arith in rw (z, g, h)

pub bodies-start : (index : List ℕ) (n : ℕ) → n ≡ bitmap_count index → bodies_fault index 0 (n - 0) ≡ bodies_fault index 0 (bitmap_count index)
bodies-start index n h = let z : n - 0 ≡ n = omega arith in rw (z, h)

-- the fault of body k, told as t, where the rows were read before
pub fault-of : (index : List ℕ) (k rows : ℕ) (t v : Verdict) → rows ≡ row_count index
    → t ≡ body_fault (format_of index) k (start_of index k) rows (body_at index k) → t ≡ v
    → body_fault (format_of index) k (start_of index k) (row_count index) (body_at index k) ≡ v
fault-of index k rows t v e h g = rw e at (sym h ∙ g)
