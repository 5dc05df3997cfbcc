use mathlib.Core.Path.{◌≡◌}
use Prim.Native.Nat.{◌+◌, ◌*◌, ◌-◌}
use Rattle.scope.specs.Table.{node_at, list_from}
use Rattle.scope.specs.Calls.{index_of}
use Rattle.lookup.proofs.find.Given as goal

abbrev pub invariant-loop-j : goal.invariant-loop-j
invariant-loop-j l =
    63 * l.j + index_of l.x (list_from (node_at l.t) (63 * l.j) (l.nodes - 63 * l.j)) ≡ index_of l.x (list_from (node_at l.t) 0 l.nodes)
