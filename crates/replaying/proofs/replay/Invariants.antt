use Prim.Native.Nat.{◌≤◌}
use Rattle.index.specs.Index.{index_node}
use Rattle.state.specs.Picked.{Picks}
use Rattle.replaying.proofs.Standings.{Going}
use Rattle.replaying.proofs.replay.Given as goal

abbrev pub invariant-loop-l : goal.invariant-loop-l
invariant-loop-l l = (l.l-index ≤ l.held) × Going (index_node l.x) l.n l.goals l.literals l.initial.work l.initial.masks l.initial.opens l.work l.masks
    l.opens l.l-index × Picks l.work l.masks l.u
