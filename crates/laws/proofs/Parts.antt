-- Parts of lists, as code lends them: the n elements from the a-th on, and a list with a part of it replaced.
-- Assumes nothing.
use Prim.Native.Nat.{ℕ, ◌+◌, ◌-◌, ◌≤◌}
use mathlib.Core.Path.{◌≡◌, sym, ap, ap₂, ◌∙◌}
use mathlib.Core.List.{List, ◌++◌, append_assoc, append-nil}
use lib.ListN.{length, take, drop, length-append, length-drop, drop_of_length-le}
use lib.Seq.{take_at, drop_at, drop-drop}
use native.Mathlib.Omega.{arith}

pub part-is : (l : List ℕ) (a n : ℕ) → take (a + n - a) (drop a l) ≡ take n (drop a l)
part-is l a n = let e : a + n - a ≡ n = omega arith in rw e

-- the elements from a to e are replaced in a list whose first a elements are xs and whose others are those of l
pub replace-part : (xs l ys : List ℕ) (a e : ℕ) → length xs ≡ a → a ≤ e
    → take a (xs ++ drop a l) ++ (ys ++ drop (e - a) (drop a (xs ++ drop a l))) ≡ xs ++ ys ++ drop e l
replace-part xs l ys a e n h =
    let k : a + (e - a) ≡ e = omega arith in
    ap₂ (λ (s t : List ℕ). s ++ (ys ++ drop (e - a) t)) (take_at xs (drop a l) a n) (drop_at xs (drop a l) a n)
    ∙ ap (λ (t : List ℕ). xs ++ (ys ++ t)) (drop-drop (e - a) a l ∙ ap (λ (j : ℕ). drop j l) k)
    ∙ sym (append_assoc xs ys (drop e l))

-- all elements from a on are
pub replace-rest : (xs l ys : List ℕ) (a : ℕ) → length xs ≡ a → a ≤ length l
    → take a (xs ++ drop a l) ++ (ys ++ drop (length (xs ++ drop a l) - a) (drop a (xs ++ drop a l))) ≡ xs ++ ys
replace-rest xs l ys a n h =
    let k : length (xs ++ drop a l) ≡ length l = length-append xs (drop a l) ∙ omega (arith, length-drop a l) in
    let past : length l ≤ length (xs ++ drop a l) = omega arith in
    replace-part xs l ys a (length (xs ++ drop a l)) n (omega arith)
    ∙ ap (λ (t : List ℕ). xs ++ ys ++ t) (drop_of_length-le l past)
    ∙ append-nil (xs ++ ys)
