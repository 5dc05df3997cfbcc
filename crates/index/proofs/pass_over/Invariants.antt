-- The invariant of the loop of `index::pass_over`: no node from p on is marked.
use Rattle.index.specs.Marks.{Unmarked}
use Rattle.index.proofs.pass_over.Given as goal

abbrev pub invariant-loop-p : goal.invariant-loop-p
invariant-loop-p l = Unmarked l.p l.end l.x
