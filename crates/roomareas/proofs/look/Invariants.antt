use Rattle.roomareas.proofs.Resting.{Looking}
use Rattle.roomareas.proofs.look.Given as goal

abbrev pub invariant-loop-i : goal.invariant-loop-i
invariant-loop-i l = Looking l.work l.initial.verdicts l.verdicts l.i
