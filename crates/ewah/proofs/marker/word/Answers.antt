-- `ewah::marker::word` meets its contract: no field reaches into the next, so each `|` adds. Assumes nothing.
use Prim.Native.Nat.{ℕ, ◌+◌, ◌*◌, ◌%◌, ◌^◌, ◌<◌}
use mathlib.Core.Path.{◌≡◌, ap₂, ◌∙◌}
use native.Mathlib.Omega.{arith}
use lib.Dec.{lit≤}
use lib.Bits.{bit_or, or_shifted_r}
use lib.Pow.{shl_exact}
use Rattle.meaning.specs.Ewah.{marker}
use Rattle.ewah.proofs.marker.word.Goals as goal

joined : (v n d : ℕ) → v < 2 ^ 1 → n < 2 ^ 16 → d < 2 ^ 15
    → bit_or (bit_or v (n * 2 ^ 1 % 2 ^ 32)) (d * 2 ^ 17 % 2 ^ 32) ≡ marker v n d
unfolding marker
joined v n d hv hn hd =
    let low : bit_or v (n * 2 ^ 1) ≡ n * 2 ^ 1 + v = or_shifted_r n 1 v hv in
    let small : bit_or v (n * 2 ^ 1) < 2 ^ 17 = omega arith in
    ap₂ (λ (x y : ℕ). bit_or (bit_or v x) y) (shl_exact 16 1 32 hn (lit≤ tt)) (shl_exact 15 17 32 hd (lit≤ tt))
    ∙ omega (arith, or_shifted_r d 17 (bit_or v (n * 2 ^ 1)) small)

pub returns : goal.returns
returns c =
    let m = c.args.m in
    joined m.value m.clean m.dirty (omega arith) (omega arith) (omega arith)
