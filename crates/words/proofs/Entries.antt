-- Entry by entry: what a table says of a number, and a list whose entries are set.
-- Assumes nothing.
use Prim.Native.Nat.{ℕ, suc, ◌+◌, ◌≤◌, ◌<◌}
use mathlib.Core.Bool.{Bool, false, ◌&&◌, ◌||◌, or-false}
use mathlib.Core.Path.{◌≡◌, refl, sym, ap, ◌∙◌}
use mathlib.Core.List.{List}
use lib.Dec.{eqb, ltb}
use lib.ListN.{length, get_or, set, length-set, get_or-eq_default}
use lib.Seq.{get_or-set_same, get_or-set_other}
use native.Mathlib.Decide.{dec_le, ℕ_discrete}
use native.Mathlib.Omega.{arith}
use borrow.Author.Tests.{lt-ltb, le-ltb, eq-eqb, ne_eqb}
use Rattle.words.proofs.Tests.{same-leb}

-- ---- a table

-- whether one of the table's first k entries is n's and says 1
abbrev pub told : List ℕ → (k n : ℕ) → Bool
told table k n = ltb n k && eqb (get_or table n 0) 1

module _ (table : List ℕ) (k n : ℕ) where
  pub told-before : k ≤ n → told table k n ≡ false
  told-before h = rw (le-ltb n k h)

  -- an entry more, which is another number's
  other : (n ≡ k → ⊥) → told table (k + 1) n ≡ told table k n
  other h = ap (λ (b : Bool). b && eqb (get_or table n 0) 1) (same-leb (suc n) (k + 1) (suc n) k (omega arith) (omega arith))

  pub told-one : get_or table k 0 ≡ 1 → told table (k + 1) n ≡ told table k n || eqb n k
  told-one e = elim (ℕ_discrete n k) [
    | yes h ↦ rw (lt-ltb n (k + 1) (omega arith), le-ltb n k (omega arith), h, e, eq-eqb k k refl)
    | no h ↦ other h ∙ sym (ap (λ (b : Bool). told table k n || b) (ne_eqb n k h) ∙ or-false (told table k n))
  ]

  pub told-else : (get_or table k 0 ≡ 1 → ⊥) → told table (k + 1) n ≡ told table k n
  told-else e = elim (ℕ_discrete n k) [
    | yes h ↦ rw (lt-ltb n (k + 1) (omega arith), le-ltb n k (omega arith), h) (ne_eqb (get_or table k 0) 1 e)
    | no h ↦ other h
  ]

  -- past the table's end stand no ones
  pub told-all : length table ≤ k → told table k n ≡ eqb (get_or table n 0) 1
  told-all h = elim (dec_le k n) [
    | yes g ↦ told-before g ∙ sym (ap (λ (x : ℕ). eqb x 1) (get_or-eq_default table 0 (omega arith)))
    | no g ↦ rw (lt-ltb n k (omega arith))
  ]

-- ---- a list

-- below k the list has f's values, from k on it is as it was
pub record Filled (f : ℕ → ℕ) (was xs : List ℕ) (k : ℕ) : Type 0 where
  pub long : length xs ≡ length was
  pub done : (i : ℕ) → i < k → get_or xs i 0 ≡ f i
  pub rest : (i : ℕ) → k ≤ i → get_or xs i 0 ≡ get_or was i 0

-- nothing to do below k
pub filled-from : (f : ℕ → ℕ) (xs : List ℕ) (k : ℕ) → ((i : ℕ) → i < k → get_or xs i 0 ≡ f i) → Filled f xs xs k
filled-from f xs k h = record { long = refl; done = h; rest = λ i l. refl }

pub filled_more : (f : ℕ → ℕ) (was xs : List ℕ) (k v : ℕ) → k < length xs → v ≡ f k → Filled f was xs k → Filled f was (set xs k v) (k + 1)
filled_more f was xs k v h e s =
    record { long = length-set xs k v ∙ s.long; done = λ i l. go i l (ℕ_discrete i k); rest = λ i l. get_or-set_other xs k i v 0 (omega arith) ∙ s.rest i (omega arith) }
  where
    go : (i : ℕ) → i < k + 1 → Dec (i ≡ k) → get_or (set xs k v) i 0 ≡ f i
    go i l (yes q) = ap (λ (n : ℕ). get_or (set xs k v) n 0) q ∙ get_or-set_same xs k v 0 h ∙ e ∙ ap f (sym q)
    go i l (no q) = get_or-set_other xs k i v 0 q ∙ s.done i (omega arith)
