use Rattle.searching.specs.Jumps.{blank}
use Rattle.searching.proofs.Jumps.{Rested}
use Rattle.state.specs.Work.{g_of}
use Rattle.state.specs.Picked.{Picks}
use Rattle.index.specs.Index.{index_node}
use lib.ListN.{length}
use Prim.Native.Nat.{◌-◌}
use Rattle.searching.proofs.first_units.Given as goal

abbrev pub invariant-loop-u : goal.invariant-loop-u
invariant-loop-u l = Rested (index_node l.x) l.n l.goals l.initial.work l.initial.masks blank l.work l.masks blank × Picks l.work l.masks l.u

abbrev pub decreases-loop-u : goal.decreases-loop-u
decreases-loop-u l = l.n - length (g_of l.work)
