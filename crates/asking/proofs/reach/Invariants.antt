use Rattle.asking.proofs.Reaches.{Reaching}
use Rattle.asking.proofs.reach.Given as goal

abbrev pub invariant-loop-goal : goal.invariant-loop-goal
invariant-loop-goal l = Reaching l.goals l.top l.goal-index
