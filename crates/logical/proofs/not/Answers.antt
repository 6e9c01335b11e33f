-- `logical::not` meets its contract: the operation chooses the rows of the question. Assumes nothing.
use native.Mathlib.Omega.{arith}
use Rattle.meaning.specs.Answer.{ask_not}
use Rattle.logical.proofs.Pairs.{not-rows, one-bad}
use Rattle.logical.proofs.not.Goals as goal

pub ask_list-requires : goal.ask_list-requires
ask_list-requires c =
    record {
      index_facts = c.requires;
      in_bounds = (omega arith, omega arith);
    }

pub returns : goal.returns
unfolding ask_not
returns c = c.ask_list.ensures _ _ (one-bad c.args.index.now 0 c.args.k) (not-rows c.args.index.now c.args.k)
