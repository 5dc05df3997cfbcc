-- `gather::push_goals` meets its contract: before each turn the names of the goals passed are pushed. Assumes nothing.
use Rattle.gather.proofs.Names.{naming-space, naming-goes, naming_ends}
use Rattle.gather.proofs.push_goals.Goals as goal

pub push-w-requires : goal.push-w-requires
push-w-requires c = naming-space c.loop-goal.invariant c.requires c.loop-goal-test.true

pub loop-goal-preserved : goal.loop-goal-preserved
loop-goal-preserved c = naming-goes c.loop-goal.invariant c.requires c.loop-goal-test.true c.push-w.ensures

pub returns : goal.returns
returns c = naming_ends c.loop-goal.invariant c.loop-goal-test.false
