-- `branch::put_three` meets its contract: three literals, an end and a count are stored. Assumes nothing.
use Rattle.branch.proofs.Appends.{three-is}
use Rattle.branch.proofs.put_three.Goals as goal

pub returns : goal.returns
returns c = three-is c.args.work.now c.args.p c.args.q c.args.r c.requires
