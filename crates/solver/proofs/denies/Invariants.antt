use Rattle.solver.proofs.Settles.{Denying}
use Rattle.solver.proofs.denies.Given as goal

abbrev pub invariant-loop-g : goal.invariant-loop-g
invariant-loop-g l = Denying l.goals l.l l.found l.g-index
