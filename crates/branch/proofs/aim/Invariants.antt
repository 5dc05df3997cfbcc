use lib.ListN.{get_or}
use Rattle.area.specs.Area.{slots_from}
use Rattle.branch.specs.Clauses.{Filled}
use Rattle.branch.proofs.aim.Given as goal

abbrev pub invariant-loop-k : goal.invariant-loop-k
invariant-loop-k l = Filled slots_from l.k (λ i. get_or l.goals i 0) l.initial.work l.work
