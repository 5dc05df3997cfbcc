use Prim.Native.Nat.{◌≤◌}
use lib.ListN.{length}
use Rattle.index.specs.Index.{index_node}
use Rattle.roomareas.proofs.Sitting.{Taking}
use Rattle.roomareas.proofs.take_up_all.Given as goal

abbrev pub invariant-loop-i : goal.invariant-loop-i
invariant-loop-i l = (l.i ≤ length l.questions) × Taking (index_node l.x) l.n l.questions l.initial.work l.initial.masks l.initial.opens l.initial.verdicts
    l.work l.masks l.opens l.verdicts l.i
