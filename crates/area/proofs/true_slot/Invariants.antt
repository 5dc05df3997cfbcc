use mathlib.Core.Path.{◌≡◌}
use Prim.Native.Nat.{◌-◌, ◌≤◌}
use Rattle.area.specs.Area.{most_slots, base_at, length_at, true_from}
use Rattle.area.proofs.true_slot.Given as goal

abbrev pub invariant-loop-s : goal.invariant-loop-s
invariant-loop-s l = (l.end ≤ most_slots) × (true_from l.work (base_at l.work l.k) (length_at l.work l.k) ≡ true_from l.work l.s (l.end - l.s))
