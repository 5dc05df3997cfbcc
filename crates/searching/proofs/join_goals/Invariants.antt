use Rattle.index.specs.Index.{index_node}
use Rattle.searching.proofs.Begins.{Begins}
use Rattle.searching.proofs.join_goals.Given as goal

abbrev pub invariant-loop-k : goal.invariant-loop-k
invariant-loop-k l = Begins (index_node l.x) l.n l.goals l.initial.work l.initial.masks l.work l.masks l.k
