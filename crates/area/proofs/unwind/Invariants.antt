use Rattle.area.specs.Area.{newest}
use Rattle.area.proofs.Strikes.{Unwinding}
use Rattle.area.proofs.unwind.Given as goal

abbrev pub invariant-loop-work : goal.invariant-loop-work
invariant-loop-work l = Unwinding l.head l.initial.work l.work

abbrev pub decreases-loop-work : goal.decreases-loop-work
decreases-loop-work l = newest l.work
