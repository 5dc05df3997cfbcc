-- `asking::ask_within` meets its contract. Assumes nothing.
use Rattle.asking.proofs.ask_within.Goals as goal

pub returns : goal.returns
returns c = rw c.list_row.ensures at c.ask_within_by.ensures
