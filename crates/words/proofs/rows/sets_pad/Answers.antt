-- `words::rows::sets_pad` meets its contract, by `left_behind`; where the last segment has 32 rows no word has a pad bit. Assumes nothing.
use Prim.Native.Nat.{ℕ, suc, ◌^◌, ◌<◌}
use mathlib.Core.Path.{◌≡◌, sym, ap, ◌∙◌}
use native.Mathlib.Omega.{arith}
use borrow.Author.Tests.{lt-leb}
use lib.Dec.{leb}
use lib.Pow.{pow_pos}
use Rattle.meaning.specs.Segment.{last_limit}
use Rattle.words.proofs.Segmented.{left_behind}
use Rattle.words.proofs.rows.sets_pad.Goals as goal

pub returns-then-real-lt32 : goal.returns-then-real-lt32
unfolding last_limit
returns-then-real-lt32 g c =
    let l = c.last_rows-real in
    left_behind c.args.x (2 ^ l.result) (pow_pos l.result)
    ∙ ap (λ (k : ℕ). leb (2 ^ k) c.args.x) l.ensures.0

pub returns-else-real-lt32 : goal.returns-else-real-lt32
unfolding last_limit
returns-else-real-lt32 g c =
    let l = c.last_rows-real in
    let all : l.result ≡ 32 = omega (arith, l.ensures, c.requires, c.if-real-lt32.false) in
    let limit = ap (λ (k : ℕ). 2 ^ k) (sym all ∙ l.ensures.0) in
    let fits : c.args.x < 2 ^ 32 = c.ranges.x.fits in
    lt-leb (suc l.result) 32 (omega (arith, all)) ∙ sym (lt-leb _ c.args.x (rw limit at fits))
