use Rattle.gather.proofs.Names.{Naming}
use Rattle.gather.proofs.push_goals.Given as goal

abbrev pub invariant-loop-goal : goal.invariant-loop-goal
invariant-loop-goal l = Naming l.goals l.initial.out l.initial.w l.out l.w l.goal-index
