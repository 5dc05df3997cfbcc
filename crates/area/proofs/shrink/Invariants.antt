use Prim.Native.Nat.{◌≤◌}
use Rattle.area.specs.Area.{trail_at, Shrunk}
use Rattle.area.proofs.shrink.Given as goal

abbrev pub invariant-loop-work : goal.invariant-loop-work
invariant-loop-work l = (l.c ≤ trail_at l.work 0) × Shrunk l.n (trail_at l.work 0) l.initial.work l.work

abbrev pub decreases-loop-work : goal.decreases-loop-work
decreases-loop-work l = trail_at l.work 0
