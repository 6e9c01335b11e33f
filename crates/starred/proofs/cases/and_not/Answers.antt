-- `starred::cases::and_not` meets its contract: by `wrote-told`, `zvonurel::and_not` tells and leaves what the reading expects. Assumes nothing.
use Rattle.std.proofs.Common.{rules}
use Rattle.starred.proofs.Expected.{wrote-told}
use Rattle.starred.proofs.cases.and_not.Goals as goal

pub writes-requires-clause-told : goal.writes-requires-clause-told
writes-requires-clause-told c told out w = wrote-told _ _ _ c.requires out told (search rules)
