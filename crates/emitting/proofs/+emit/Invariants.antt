use Prim.Native.Nat.{◌-◌}
use lib.ListN.{length}
use Rattle.state.specs.Work.{g_of}
use Rattle.emitting.proofs.+emit.Given as goal

abbrev pub decreases-emit : goal.decreases-emit
decreases-emit l = l.n - length (g_of l.work.now)
