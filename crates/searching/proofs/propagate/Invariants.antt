use Rattle.searching.proofs.Jumps.{Rested}
use Rattle.state.specs.Work.{g_of}
use Rattle.state.specs.Picked.{Leads}
use Rattle.index.specs.Index.{index_node}
use lib.ListN.{length}
use Prim.Native.Nat.{◌-◌}
use Rattle.searching.proofs.propagate.Given as goal

abbrev pub invariant-loop-work : goal.invariant-loop-work
invariant-loop-work l = Rested (index_node l.x) l.n l.goals l.initial.work l.initial.masks l.initial.rests l.work l.masks l.rests × Leads l.work l.masks l.u

abbrev pub decreases-loop-work : goal.decreases-loop-work
decreases-loop-work l = l.n - length (g_of l.work)
