use Prim.Native.Nat.{◌+◌, ◌≤◌}
use Rattle.area.specs.Area.{most_slots, base_at}
use Rattle.seen.proofs.States.{Summed}
use Rattle.seen.proofs.clause_state.Given as goal

abbrev pub invariant-loop-s : goal.invariant-loop-s
invariant-loop-s l = (l.start ≤ l.s) × (l.s ≤ base_at l.work (l.k + 1)) × (base_at l.work (l.k + 1) ≤ most_slots) × Summed l.work l.s
    (base_at l.work (l.k + 1)) l.sum l.first
