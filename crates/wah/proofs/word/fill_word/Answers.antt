-- `wah::word::fill_word` meets its contract: no field reaches into the next, so each `|` adds. Assumes nothing.
use Prim.Native.Nat.{ℕ, ◌+◌, ◌*◌, ◌%◌, ◌^◌, ◌<◌}
use mathlib.Core.Path.{◌≡◌, ap, ◌∙◌}
use native.Mathlib.Omega.{arith}
use lib.Dec.{lit≤}
use lib.Bits.{bit_or, or_shifted}
use lib.Pow.{shl_exact}
use Rattle.meaning.specs.Wah.{fill_word}
use Rattle.wah.proofs.word.fill_word.Goals as goal

joined : (v n : ℕ) → v < 2 ^ 1 → n < 2 ^ 30 → bit_or (bit_or 2147483648 (v * 2 ^ 30 % 2 ^ 32)) n ≡ fill_word v n
unfolding fill_word
joined v n hv hn =
    let high : 1 * 2 ^ 31 + v * 2 ^ 30 ≡ (2 + v) * 2 ^ 30 = omega arith in
    let all : (2 + v) * 2 ^ 30 + n ≡ 2147483648 + 1073741824 * v + n = omega arith in
    ap (λ (y : ℕ). bit_or (bit_or 2147483648 y) n) (shl_exact 1 30 32 hv (lit≤ tt))
    ∙ ap (λ (y : ℕ). bit_or y n) (or_shifted 1 31 (v * 2 ^ 30) (omega arith) ∙ high)
    ∙ or_shifted (2 + v) 30 n hn
    ∙ all

pub returns : goal.returns
returns c = joined c.args.value c.args.count (omega arith) (omega arith)
