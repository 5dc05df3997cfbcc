-- `branch::put_empty` meets its contract: an end and a count are stored. Assumes nothing.
use Rattle.branch.proofs.Appends.{empty-is}
use Rattle.branch.proofs.put_empty.Goals as goal

pub returns : goal.returns
returns c = empty-is c.args.work.now c.requires
