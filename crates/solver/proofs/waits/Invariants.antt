use mathlib.Core.Path.{◌≡◌}
use Prim.Native.Nat.{ℕ, ◌<◌}
use lib.ListN.{get_or}
use Rattle.calculus.specs.Order.{holds, value_of}
use Rattle.state.specs.Work.{g_of}
use Rattle.solver.proofs.waits.Given as goal

abbrev pub invariant-loop-k : goal.invariant-loop-k
invariant-loop-k l = (i : ℕ) → i < l.k → value_of (g_of l.work) (get_or l.goals i 0) ≡ holds
