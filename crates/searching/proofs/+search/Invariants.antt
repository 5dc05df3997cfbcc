use Prim.Native.Nat.{◌-◌}
use lib.ListN.{length}
use Rattle.state.specs.Work.{g_of}
use Rattle.searching.proofs.+search.Given as goal

abbrev pub decreases-search : goal.decreases-search
decreases-search l = l.n - length (g_of l.work.now)
