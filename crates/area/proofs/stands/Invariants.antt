use mathlib.Core.Bool.{not}
use mathlib.Core.Path.{◌≡◌}
use Prim.Native.Nat.{◌-◌, ◌≤◌}
use Rattle.area.specs.Area.{most_slots, stands_in, whole_in}
use Rattle.area.proofs.stands.Given as goal

abbrev pub invariant-loop-s : goal.invariant-loop-s
invariant-loop-s l = (l.end ≤ most_slots) × (stands_in l.work l.k ≡ not (whole_in l.work l.s (l.end - l.s)))
