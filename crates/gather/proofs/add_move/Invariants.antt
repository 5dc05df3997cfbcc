use Rattle.gather.specs.Kept.{lent}
use Rattle.gather.proofs.Removes.{Removing}
use Rattle.gather.proofs.add_move.Given as goal

abbrev pub invariant-loop-left : goal.invariant-loop-left
invariant-loop-left l = Removing l.k l.removed l.initial.out (lent l.initial.block l.initial.at) l.out (lent l.block l.at) l.i l.left

abbrev pub decreases-loop-left : goal.decreases-loop-left
decreases-loop-left l = l.left
