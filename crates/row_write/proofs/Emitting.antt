-- A run that is emitted in parts: what the writer needs for each.
-- Assumes nothing.
use Prim.Native.Nat.{ℕ, ◌+◌, ◌-◌, ◌≤◌}
use mathlib.Core.Path.{◌≡◌, sym, ap, ◌∙◌}
use mathlib.Core.List.{◌++◌}
use native.Mathlib.Omega.{arith}
use lib.ListN.{replicate, length-replicate, replicate-append-replicate}
use Rattle.meaning.specs.Segment.{Segment}
use Rattle.meaning.specs.declared.Format.{Format}
use Rattle.ewah_write.specs.declared.writer.Writer.{Writer}
use Rattle.body_write.specs.Bodies.{Growing, Grown, RoomFor}
use Rattle.body_write.proofs.Joined.{still-growing, room-first, room-rest}

-- fewer can be put, too
pub grow-fewer : {F : Format} {w : Writer} (n m : ℕ) → n ≤ m → Growing F w m → Growing F w n
grow-fewer n m h g = (g.0, g.1, omega (arith, g.2))

-- a run of n segments in two parts, the first of k
module _ (g : Segment) (k n : ℕ) (h : k ≤ n) where
  pub run-parts : replicate n g ≡ replicate k g ++ replicate (n - k) g
  run-parts =
      let e : n ≡ k + (n - k) = omega arith in
      ap (λ (m : ℕ). replicate m g) e ∙ sym (replicate-append-replicate k (n - k) g)

  pub run-first : {F : Format} {w : Writer} {m : ℕ} → RoomFor F (replicate n g) w m → RoomFor F (replicate k g) w m
  run-first p = room-first (replicate k g) (replicate (n - k) g) (rw run-parts at p)

  pub run-rest : {F : Format} {w r : Writer} {m : ℕ} → RoomFor F (replicate n g) w m → Grown F w (replicate k g) r
      → RoomFor F (replicate (n - k) g) r m
  run-rest p q = room-rest (replicate k g) (replicate (n - k) g) (rw run-parts at p) q

  -- the writer can go on
  pub run-growing : {F : Format} {w r : Writer} → Growing F w n → Grown F w (replicate k g) r → Growing F r (n - k)
  run-growing p q =
      still-growing (replicate k g) (n - k) (grow-fewer _ n (omega (arith, length-replicate k g)) p) q
