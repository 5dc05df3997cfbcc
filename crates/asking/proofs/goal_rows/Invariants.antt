use mathlib.Core.Path.{◌≡◌}
use Prim.Native.Nat.{◌≤◌, ◌-◌}
use lib.ListN.{length}
use Rattle.scope.specs.Outcome.{first}
use Rattle.calculus.specs.Decide.{goal_row, goals_test}
use Rattle.asking.proofs.goal_rows.Given as goal

abbrev pub invariant-loop-i : goal.invariant-loop-i
invariant-loop-i l = (l.i ≤ length l.goals) × (first (goal_row l.nodes l.goals) l.i (length l.goals - l.i) ≡ goals_test l.nodes l.goals)
