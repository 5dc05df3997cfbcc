use Rattle.roomareas.proofs.Resting.{Putting}
use Rattle.roomareas.proofs.put_down.Given as goal

abbrev pub invariant-loop-i : goal.invariant-loop-i
invariant-loop-i l = Putting l.initial.work l.verdicts l.work l.i
