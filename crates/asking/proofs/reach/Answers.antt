-- `asking::reach` meets its contract. Assumes nothing.
use native.Mathlib.Omega.{arith}
use Rattle.asking.proofs.Reaches.{reaching_none, reaching_more, reaching_all}
use Rattle.asking.proofs.reach.Goals as goal

pub loop-goal-init : goal.loop-goal-init
loop-goal-init c = reaching_none _

pub loop-goal-preserved : goal.loop-goal-preserved
loop-goal-preserved c = reaching_more c.loop-goal-test.true c.loop-goal.invariant c.farther-top.ensures

pub returns : goal.returns
returns c = reaching_all (omega arith) c.loop-goal.invariant
