use Prim.Native.Nat.{◌-◌}
use lib.ListN.{length}
use Rattle.state.specs.Work.{g_of}
use Rattle.counting.proofs.+count.Given as goal

abbrev pub decreases-count : goal.decreases-count
decreases-count l = l.n - length (g_of l.work.now)
