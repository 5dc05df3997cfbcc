use Rattle.granting.proofs.Opposites.{Looking}
use Rattle.granting.proofs.opposed.Given as goal

abbrev pub invariant-loop-m : goal.invariant-loop-m
invariant-loop-m l = Looking l.q l.l l.found l.m-index
