-- `logical::pair` meets its contract: for each question the operation chooses its rows. Assumes nothing.
use Rattle.meaning.specs.Answer.{ask_logical}
use Rattle.logical.proofs.Pairs.{and-rows, or-rows, xor-rows, and-not-rows, two-bad, twice-bad}
use Rattle.logical.proofs.pair.Goals as goal

pub returns-in-And : goal.returns-in-And
unfolding ask_logical
returns-in-And c =
    let a = c.args in
    rw c.in-And.is (c.ask_list.ensures _ _ (two-bad a.index.now a.j a.k) (and-rows a.index.now a.j a.k))

pub returns-in-Or : goal.returns-in-Or
unfolding ask_logical
returns-in-Or c =
    let a = c.args in
    rw c.in-Or.is (c.ask_list-in-Or.ensures _ _ (two-bad a.index.now a.j a.k) (or-rows a.index.now a.j a.k))

pub returns-in-Xor : goal.returns-in-Xor
unfolding ask_logical
returns-in-Xor c =
    let a = c.args in
    rw c.in-Xor.is (c.ask_list-in-Xor.ensures _ _ (two-bad a.index.now a.j a.k) (xor-rows a.index.now a.j a.k))

pub returns-in-AndNot : goal.returns-in-AndNot
unfolding ask_logical
returns-in-AndNot c =
    let a = c.args in
    rw c.in-AndNot.is (c.ask_list-in-AndNot.ensures _ _ (twice-bad a.index.now a.j a.k) (and-not-rows a.index.now a.j a.k))
