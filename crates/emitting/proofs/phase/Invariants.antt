use Prim.Native.Nat.{◌-◌}
use lib.ListN.{length}
use Rattle.index.specs.Index.{index_node}
use Rattle.state.specs.Work.{g_of}
use Rattle.state.specs.Picked.{Picks}
use Rattle.gather.specs.Kept.{lent}
use Rattle.emitting.proofs.Runs.{Run}
use Rattle.emitting.proofs.phase.Given as goal

abbrev pub invariant-loop-u : goal.invariant-loop-u
invariant-loop-u l = Run l.version (index_node l.x) l.n l.goals l.initial.work l.initial.masks l.work l.masks l.initial.out l.out (lent l.initial.block l.initial.at) (lent l.block l.at) × Picks l.work l.masks l.u

abbrev pub decreases-loop-u : goal.decreases-loop-u
decreases-loop-u l = l.n - length (g_of l.work)
