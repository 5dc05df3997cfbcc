use Rattle.calculus.specs.Expansion.{expand}
use Rattle.index.specs.Index.{index_node}
use Rattle.roomareas.specs.Areas.{search_in}
use Rattle.rounds.specs.Spent.{Spent}
use Rattle.rounds.proofs.spend_few.Given as goal

abbrev pub invariant-loop-spent : goal.invariant-loop-spent
invariant-loop-spent l = Spent (index_node l.x) l.n l.questions l.initial.settings l.initial.verdicts
    (search_in (expand (index_node l.x)) l.questions l.initial.work) l.first l.spent l.settings l.verdicts l.turns
    (search_in (expand (index_node l.x)) l.questions l.work) l.next
