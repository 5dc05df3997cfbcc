use mathlib.Core.Path.{◌≡◌}
use Prim.Native.Nat.{◌+◌, ◌*◌, ◌-◌}
use Rattle.scope.specs.Table.{node_at, list_from}
use Rattle.scope.specs.Calls.{index_of}
use Rattle.lookup.proofs.find_in.Given as goal

abbrev pub invariant-loop-i : goal.invariant-loop-i
invariant-loop-i l =
    63 * l.j + l.i + index_of l.x (list_from (node_at l.t) (63 * l.j + l.i) (63 * l.j + l.count - (63 * l.j + l.i)))
    ≡ 63 * l.j + index_of l.x (list_from (node_at l.t) (63 * l.j) l.count)
