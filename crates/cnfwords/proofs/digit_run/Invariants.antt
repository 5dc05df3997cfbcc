use Rattle.cnfwords.proofs.Runs.{Running}
use Rattle.cnfwords.proofs.digit_run.Given as goal

abbrev pub invariant-loop-i : goal.invariant-loop-i
invariant-loop-i l = Running l.text l.at l.value l.i
