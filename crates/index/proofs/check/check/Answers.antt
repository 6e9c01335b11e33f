-- `index::check::check` meets its contract: by `head-facts` and `entry-facts` each check may follow the one before it. Assumes nothing.
use Rattle.meaning.specs.Index.{index_fault}
use Rattle.answers.proofs.Checks.{sound-is, stopped, answers}
use Rattle.laws.proofs.IndexSound.{head-facts, entry-facts}
use Rattle.index.proofs.check.check.Goals as goal

pub returns-in_err-check_head : goal.returns-in_err-check_head
unfolding index_fault
returns-in_err-check_head c =
    stopped c.check_head.result _ c.check_head.ensures _ _ _ c.in_err-check_head.was c.from_residual.ensures.1

pub check_entries-requires : goal.check_entries-requires
check_entries-requires c = head-facts _ (sound-is c.check_head.result _ c.check_head.ensures c.in_ok-check_head.was)

pub returns-in_err-check_entries : goal.returns-in_err-check_entries
unfolding index_fault
returns-in_err-check_entries c =
    answers c.check_head.result _ c.check_head.ensures _ _ c.in_ok-check_head.was
    (stopped c.check_entries.result _ c.check_entries.ensures _ _ _ c.in_err-check_entries.was c.from_residual-in_err-check_entries.ensures.1)

pub check_bodies-requires : goal.check_bodies-requires
check_bodies-requires c =
    let h = head-facts _ (sound-is c.check_head.result _ c.check_head.ensures c.in_ok-check_head.was) in record {
      head_facts = h;
      entry_facts = entry-facts _ h (sound-is c.check_entries.result _ c.check_entries.ensures c.in_ok-check_entries.was);
    }

pub returns : goal.returns
unfolding index_fault
returns c =
    answers c.check_head.result _ c.check_head.ensures _ _ c.in_ok-check_head.was
    (answers c.check_entries.result _ c.check_entries.ensures _ _ c.in_ok-check_entries.was c.check_bodies.ensures)
