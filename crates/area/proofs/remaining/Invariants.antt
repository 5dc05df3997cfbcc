use mathlib.Core.Path.{◌≡◌}
use Prim.Native.Nat.{◌+◌, ◌-◌, ◌≤◌}
use Rattle.area.specs.Area.{most_slots, base_at, free_from, left_of}
use Rattle.area.proofs.remaining.Given as goal

abbrev pub invariant-loop-s : goal.invariant-loop-s
invariant-loop-s l = (l.start ≤ l.s) × (l.s ≤ base_at l.work (l.k + 1)) × (base_at l.work (l.k + 1) ≤ most_slots)
    × (l.left ≡ left_of (free_from l.work l.s (base_at l.work (l.k + 1) - l.s)))
