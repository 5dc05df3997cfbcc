-- `branch::put_two` meets its contract: two literals, an end and a count are stored. Assumes nothing.
use Rattle.branch.proofs.Appends.{two_at}
use Rattle.branch.proofs.put_two.Goals as goal

pub returns : goal.returns
returns c = two_at c.args.work.now c.args.k c.args.b c.args.p c.args.q c.requires.0 c.requires.1 c.requires.2
