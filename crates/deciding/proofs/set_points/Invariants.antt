use Prim.Native.Nat.{◌≤◌}
use Rattle.scope.specs.Table.{list_from}
use Rattle.index.specs.Index.{index_node}
use Rattle.state.specs.Work.{tail, trail}
use Rattle.deciding.proofs.Settings.{Filled}
use Rattle.deciding.proofs.set_points.Given as goal

abbrev pub invariant-loop-q : goal.invariant-loop-q
invariant-loop-q l = (l.q ≤ l.held) × Filled (list_from (index_node l.x) 0 l.n) (trail l.q (tail l.work)) l.initial.settings l.settings
