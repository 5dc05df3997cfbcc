use mathlib.Core.Path.{◌≡◌}
use Prim.Native.Nat.{◌-◌, ◌≤◌}
use Rattle.area.specs.Area.{most_slots, empty_in}
use Rattle.area.proofs.Remains.{bare}
use Rattle.area.proofs.emptied.Given as goal

abbrev pub invariant-loop-s : goal.invariant-loop-s
invariant-loop-s l = (l.end ≤ most_slots) × (empty_in l.work l.k ≡ bare l.work l.s (l.end - l.s))
