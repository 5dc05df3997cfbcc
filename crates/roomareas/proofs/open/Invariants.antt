use Rattle.roomareas.proofs.Resting.{Opening}
use Rattle.roomareas.proofs.open.Given as goal

abbrev pub invariant-loop-i : goal.invariant-loop-i
invariant-loop-i l = Opening l.initial.work l.initial.verdicts l.work l.verdicts l.i
