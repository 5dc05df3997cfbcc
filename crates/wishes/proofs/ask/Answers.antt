-- `wishes::ask` meets its contract: the rows of the list that was gathered. Assumes nothing.
use Rattle.wishes.proofs.Lists.{asked-both}
use Rattle.wishes.proofs.ask.Goals as goal

pub returns : goal.returns
returns c = asked-both _ _ _ _ _ _ _ _ _ c.gather-count.ensures (rw c.list_rows-listed.ensures at c.ask_within_by.ensures)
