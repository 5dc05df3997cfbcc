use Rattle.state.specs.Work.{tail}
use Rattle.solver.proofs.Settles.{Leaving}
use Rattle.solver.proofs.leave.Given as goal

abbrev pub invariant-loop-work : goal.invariant-loop-work
invariant-loop-work l = Leaving l.n l.held l.initial.work l.work

abbrev pub decreases-loop-work : goal.decreases-loop-work
decreases-loop-work l = tail l.work 0
