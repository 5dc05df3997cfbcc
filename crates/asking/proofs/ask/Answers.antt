-- `asking::ask` meets its contract. Assumes nothing.
use Rattle.asking.proofs.ask.Goals as goal

pub returns : goal.returns
returns c = rw c.list_row.ensures at c.ask_by.ensures
