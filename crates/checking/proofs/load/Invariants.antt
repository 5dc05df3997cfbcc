use Rattle.checking.specs.Nodes.{Placed, Loaded}
use Rattle.checking.proofs.load.Given as goal

abbrev pub invariant-loop-m : goal.invariant-loop-m
invariant-loop-m l = Placed l.m l.at × Loaded l.t l.m l.x
