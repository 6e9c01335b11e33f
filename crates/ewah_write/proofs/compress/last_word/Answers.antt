-- `ewah_write::compress::last_word` meets its contract: the mask keeps a word that sets no pad bit. Assumes nothing.
use Prim.Native.Nat.{ℕ, ◌-◌, ◌^◌, ◌<◌}
use mathlib.Core.Path.{refl, ap, ◌∙◌}
use native.Mathlib.Nat.{mod-eq_of_lt}
use native.Mathlib.Omega.{arith}
use lib.ListN.{length, get_or}
use Rattle.meaning.specs.Segment.{kind, segment_count, last_rows, last_limit, all_set}
use Rattle.laws.proofs.RowWords.{last-get_d}
use Rattle.ewah_write.proofs.compress.last_word.Goals as goal

pub last_rows-requires : goal.last_rows-requires
unfolding segment_count
last_rows-requires c = omega (arith, c.requires.plain_rows.count)

pub returns : goal.returns
unfolding all_set last_limit
returns c =
    let last = c.last_rows.ensures in
    let real = last_rows 32 c.args.rows in
    let plain = c.args.plain.now in
    let mask = c.low_ones-mask.ensures ∙ ap (λ (k : ℕ). 2 ^ k - 1) last.0 in
    let is_last = last-get_d plain (length plain - 1) (omega arith) in
    let low : get_or plain (length plain - 1) 0 < 2 ^ real = rw is_last at c.requires.plain_rows.pads in
    (c.spelled.ensures 32 real (omega (arith, last)) (omega (arith, last)) refl mask).0 ∙ ap (kind real) (mod-eq_of_lt low)
