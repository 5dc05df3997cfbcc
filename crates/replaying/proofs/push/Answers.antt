-- `replaying::push` meets its contract: the number stands on top of the others. Assumes nothing.
use Rattle.replaying.proofs.Stacks.{pushed}
use Rattle.replaying.proofs.push.Goals as goal

pub returns : goal.returns
returns c = pushed c.args.opens.now c.args.held c.requires.0 c.requires.1
