-- Segments within clean runs of all places: the words of the answer are clean there too, since its bits are made of theirs.
-- Assumes nothing.
use Prim.Native.Nat.{ℕ, zero, suc, ◌+◌, ◌*◌, ◌^◌, ◌≤◌, ◌<◌}
use mathlib.Core.Bool.{Bool, ◌&&◌}
use mathlib.Core.Path.{◌≡◌, sym, ap₂, ◌∙◌}
use mathlib.Core.List.{List}
use lib.ListN.{get_or}
use native.Mathlib.Omega.{arith}
use Rattle.meaning.specs.Segment.{is_set}
use Rattle.meaning.specs.Format.{width}
use Rattle.meaning.specs.declared.Format.{Format}
use Rattle.meaning.specs.Limits.{block_segments}
use Rattle.adder.specs.Digits.{Paired}
use Rattle.block_write.specs.Rowed.{CleanWord}
use Rattle.blocks.specs.Blocks.{AllAlike}
use Rattle.blocks.proofs.Runs.{uniform, number-alike}

module _ (F : Format) (op : (n x y : ℕ) → ℕ) (N : ℕ) (x y z : List ℕ) (ax : AllAlike (width F) x) (ay : AllAlike (width F) y)
    (p : Paired op x y N z)
    (low : (b : ℕ) → b ≤ N → get_or z (b * block_segments + 0) 0 < 2 ^ width F) where
  first_word : (v : List ℕ) → AllAlike (width F) v → (j : ℕ) → j < width F → is_set (get_or v 0 0) j ≡ is_set (get_or v 0 0) 0
  first_word v a j k = a 0 j k

  exists-alike : (j : ℕ) → j < width F → is_set (get_or z 0 0) j ≡ is_set (get_or z 0 0) 0
  exists-alike j k =
      p.exists 0 j (omega arith)
      ∙ ap₂ (λ (a b : Bool). a && b) (first_word x ax j k) (first_word y ay j k)
      ∙ sym (p.exists 0 0 (omega arith))

  alike_at : (b : ℕ) → b ≤ N → (j : ℕ) → j < width F
      → is_set (get_or z (b * block_segments + 0) 0) j ≡ is_set (get_or z (b * block_segments + 0) 0) 0
  alike_at zero l j k = exists-alike j k
  alike_at (suc b) l j k =
      let s : suc b ≡ b + 1 = omega arith in
      rw s
      (p.digits b 0 j (omega arith) (omega arith)
      ∙ ap₂ (λ (a : Bool) (t : ℕ). a && is_set t b) (exists-alike j k)
      (ap₂ (op N) (number-alike (width F) x N j k ax) (number-alike (width F) y N j k ay))
      ∙ sym (p.digits b 0 0 (omega arith) (omega arith)))

  pub clean-words : (b : ℕ) → b ≤ N → CleanWord F (get_or z (b * block_segments) 0)
  clean-words b l =
      let s : b * block_segments + 0 ≡ b * block_segments = omega arith in
      rw s at (uniform F (get_or z (b * block_segments + 0) 0) (low b l) (alike_at b l))
