-- `repack::fill::put_part` meets its contract: by `fill-set`, a word of ones times the value has these rows.
-- Assumes nothing.
use Prim.Native.Nat.{ℕ, ◌*◌, ◌^◌, ◌≤◌}
use mathlib.Core.Path.{ap, ◌∙◌}
use lib.Pow.{pow_mono}
use native.Mathlib.Omega.{arith}
use Rattle.meaning.specs.Segment.{is_set}
use Rattle.repack.proofs.RowsPut.{fill-low, fill-set, put_same}
use Rattle.repack.proofs.fill.put_part.Goals as goal

pub overflow_mul-value : goal.overflow_mul-value
overflow_mul-value c =
    let most : 2 ^ c.args.k ≤ 2 ^ 32 = pow_mono {i = c.args.k} {j = 32} c.requires.2 in
    record { fits = rw c.low_ones.ensures (omega (arith, fill-low c.args.k c.args.value c.requires.1)) }

pub put_word-requires : goal.put_word-requires
put_word-requires c =
    (c.requires.0, c.requires.2, rw c.low_ones.ensures (fill-low c.args.k c.args.value c.requires.1), c.requires.3)

pub returns : goal.returns
returns c =
    let a = c.args in
    let ones = c.low_ones.ensures in
    put_same (λ j h. ap (λ (x : ℕ). is_set (a.value * x) j) ones ∙ fill-set a.k a.value j c.requires.1 h)
    c.put_word.ensures
