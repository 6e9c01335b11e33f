-- Which numbers of a list, or entries of a table, are too large.
-- Assumes nothing.
use Prim.Native.Nat.{ℕ}
use mathlib.Core.Bool.{◌||◌}
use mathlib.Core.Path.{◌≡◌, refl, ap}
use mathlib.Core.List.{List, [], ◌∷◌}
use lib.Dec.{leb, ltb}
use Rattle.std.specs.List.{list_any}
use Rattle.meaning.specs.Index.{bitmap_count}
use Rattle.meaning.specs.Answer.{bad_bitmap, any_bad, bad_entry}

pub any-names-none : (index list : List ℕ) → list_any (λ k. leb (bitmap_count index) k) list ≡ any_bad index list
unfolding any_bad bad_bitmap
any-names-none index [] = refl
any-names-none index (k ∷ ks) = ap (λ b. leb (bitmap_count index) k || b) (any-names-none index ks)

pub any-bad-entry : (table : List ℕ) → list_any (λ x. leb 2 x) table ≡ bad_entry table
unfolding bad_entry
any-bad-entry [] = refl
any-bad-entry (x ∷ xs) = ap (λ b. ltb 1 x || b) (any-bad-entry xs)
