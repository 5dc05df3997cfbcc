use Prim.Native.Nat.{◌-◌}
use lib.ListN.{length}
use Rattle.cnfread.proofs.Words.{Partly}
use Rattle.cnfread.proofs.gather.Given as goal

abbrev pub invariant-loop-next : goal.invariant-loop-next
invariant-loop-next l = Partly l.vars l.text l.at l.i l.marks l.held l.count l.both l.under

abbrev pub decreases-loop-next : goal.decreases-loop-next
decreases-loop-next l = length l.text - l.i
