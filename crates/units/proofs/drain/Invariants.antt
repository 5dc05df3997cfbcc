use Rattle.units.proofs.Drains.{Draining}
use Rattle.units.proofs.drain.Given as goal

abbrev pub invariant-loop-sum : goal.invariant-loop-sum
invariant-loop-sum l = Draining l.m l.sum

abbrev pub decreases-loop-sum : goal.decreases-loop-sum
decreases-loop-sum l = l.sum
