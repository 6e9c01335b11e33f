-- `columns::ask::column_is_bad` meets its contract: each way is a law of `Asking`.
-- Assumes nothing.
use Rattle.columns.proofs.Asking.{bad-short, bad-long, bad-names}
use Rattle.columns.proofs.ask.column_is_bad.Goals as goal

pub returns-then-list-lt-LEAST_COLUMN : goal.returns-then-list-lt-LEAST_COLUMN
returns-then-list-lt-LEAST_COLUMN c = search bad-short

pub returns-then-most-list : goal.returns-then-most-list
returns-then-most-list c = search bad-long

pub returns : goal.returns
returns c = search bad-names
