use mathlib.Core.Path.{◌≡◌}
use Prim.Native.Nat.{ℕ, ◌<◌}
use lib.ListN.{get_or}
use Rattle.calculus.specs.Order.{value_of}
use Rattle.state.specs.Work.{g_of, value_code}
use Rattle.moves.proofs.goal_of.Given as goal

abbrev pub invariant-loop-k : goal.invariant-loop-k
invariant-loop-k l = (i : ℕ) → i < l.k → value_code (value_of (g_of l.work) (get_or l.goals i 0)) ≡ l.v → ⊥
