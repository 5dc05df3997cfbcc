use Rattle.cnfread.proofs.Keeping.{Clearing}
use Rattle.cnfread.proofs.clear.Given as goal

abbrev pub invariant-loop-i : goal.invariant-loop-i
invariant-loop-i l = Clearing l.marks l.held l.n l.i
