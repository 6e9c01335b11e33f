-- `row_write::output::put_part` meets its contract: by `fill-set`, a word of ones times the value has these rows.
-- Assumes nothing.
use Prim.Native.Nat.{ℕ, ◌*◌}
use mathlib.Core.Path.{sym, ap, ◌∙◌}
use Rattle.meaning.specs.Segment.{is_set}
use Rattle.repack.proofs.RowsPut.{fill-set}
use Rattle.row_write.proofs.Packing.{takes_same, put_same}
use Rattle.row_write.proofs.output.put_part.Goals as goal

pub put_word-requires-clause-takes : goal.put_word-requires-clause-takes
put_word-requires-clause-takes g c =
    let a = c.args in
    takes_same a.k (λ j h. sym (ap (λ (x : ℕ). is_set (a.value * x) j) c.low_ones.ensures ∙ fill-set a.k a.value j c.requires.have_bound.2 h)) c.requires.takes

pub returns-clause-put_on : goal.returns-clause-put_on
returns-clause-put_on g c =
    let a = c.args in
    put_same a.k (λ j h. ap (λ (x : ℕ). is_set (a.value * x) j) c.low_ones.ensures ∙ fill-set a.k a.value j c.requires.have_bound.2 h) c.put_word.ensures.put_on
