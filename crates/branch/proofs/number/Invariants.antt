use Prim.Native.Nat.{suc, ◌+◌}
use Rattle.area.specs.Area.{bases_from}
use Rattle.branch.specs.Clauses.{Filled}
use Rattle.branch.proofs.number.Given as goal

abbrev pub invariant-loop-k : goal.invariant-loop-k
invariant-loop-k l = Filled (bases_from + 1) l.k suc l.initial.work l.work
