use Rattle.index.specs.Index.{index_node}
use Rattle.state.specs.Picked.{Picks}
use Rattle.replaying.proofs.Standings.{Running}
use Rattle.replaying.proofs.run.Given as goal

abbrev pub invariant-loop-k : goal.invariant-loop-k
invariant-loop-k l = Running (index_node l.x) l.n l.goals l.initial.work l.initial.masks l.initial.opens l.work l.masks l.opens l.k × Picks l.work l.masks l.u
