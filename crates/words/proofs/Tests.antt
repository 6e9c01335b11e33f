-- Two tests that say the same are equal.
-- Assumes nothing.
use Prim.Native.Nat.{ℕ, ◌+◌, ◌-◌, ◌≤◌}
use mathlib.Core.Path.{◌≡◌, sym, ◌∙◌}
use lib.Dec.{eqb, leb}
use native.Mathlib.Nat.{lt_of_not-le}
use native.Mathlib.Decide.{dec_le, ℕ_discrete}
use native.Mathlib.Omega.{arith}
use borrow.Author.Tests.{le-leb, lt-leb, eq-eqb, ne_eqb}

pub same-leb : (a b c d : ℕ) → (a ≤ b → c ≤ d) → (c ≤ d → a ≤ b) → leb a b ≡ leb c d
same-leb a b c d f g = elim (dec_le a b) [ yes h ↦ le-leb a b h ∙ sym (le-leb c d (f h)) | no h ↦ lt-leb a b (omega arith) ∙ sym (lt-leb c d (lt_of_not-le (λ k. h (g k)))) ]

pub same-eqb : (a b c d : ℕ) → (a ≡ b → c ≡ d) → (c ≡ d → a ≡ b) → eqb a b ≡ eqb c d
same-eqb a b c d f g = elim (ℕ_discrete a b) [ yes h ↦ eq-eqb a b h ∙ sym (eq-eqb c d (f h)) | no h ↦ ne_eqb a b h ∙ sym (ne_eqb c d (λ e. h (g e))) ]

-- with base more on both sides
pub eqb-more : (base n k : ℕ) → base ≤ k → eqb n (k - base) ≡ eqb (base + n) k
eqb-more base n k h = same-eqb n (k - base) (base + n) k (omega arith) (omega arith)
