use Rattle.rounds.proofs.Climbing.{Seen}
use Rattle.rounds.proofs.after.Given as goal

abbrev pub invariant-loop-w : goal.invariant-loop-w
invariant-loop-w l = Seen l.first l.turns l.w l.next l.most
