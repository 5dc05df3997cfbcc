-- `growing::find` meets its contract: the walk along the chain of the hash; the links fall, so the measure is the link. Assumes nothing.
use Rattle.growing.proofs.Chains.{goes_on}
use Rattle.growing.proofs.find.Goals as goal

pub loop-s-preserved : goal.loop-s-preserved
loop-s-preserved c = goes_on c.loop-s.invariant c.requires.0 c.loop-s-test.true c.if-keys-s.false
