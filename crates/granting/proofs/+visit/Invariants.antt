use Prim.Native.Nat.{◌-◌}
use lib.ListN.{length}
use Rattle.std.proofs.Common.{Continue}
use Rattle.rests.specs.Words.{Sets}
use Rattle.granting.proofs.Laws.{Visiting}
use Rattle.granting.proofs.+visit.Given as goal

abbrev pub decreases-visit : goal.decreases-visit
decreases-visit l = l.s

abbrev pub invariant-loop-i : goal.invariant-loop-i
invariant-loop-i l = Sets l.rests × Visiting l.x l.n l.g l.wishes l.initial.list l.initial.work l.lo l.s l.at (Continue l.initial.mid) l.list l.work (Continue l.mid) l.i

abbrev pub decreases-loop-i : goal.decreases-loop-i
decreases-loop-i l = length l.wishes - l.i
