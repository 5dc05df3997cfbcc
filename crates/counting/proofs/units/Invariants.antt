use Prim.Native.Nat.{◌-◌}
use lib.ListN.{length}
use Rattle.index.specs.Index.{index_node}
use Rattle.state.specs.Work.{g_of}
use Rattle.state.specs.Picked.{Picks}
use Rattle.counting.proofs.Counts.{Counting}
use Rattle.counting.proofs.units.Given as goal

abbrev pub invariant-loop-u : goal.invariant-loop-u
invariant-loop-u l = Counting l.version (index_node l.x) l.n l.goals l.initial.work l.initial.masks l.work l.masks l.cap l.s l.count × Picks l.work l.masks l.u

abbrev pub decreases-loop-u : goal.decreases-loop-u
decreases-loop-u l = l.n - length (g_of l.work)
