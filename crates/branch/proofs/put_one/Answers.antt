-- `branch::put_one` meets its contract: a literal, an end and a count are stored. Assumes nothing.
use Rattle.branch.proofs.Appends.{one-is}
use Rattle.branch.proofs.put_one.Goals as goal

pub returns : goal.returns
returns c = one-is c.args.work.now c.args.p c.requires
