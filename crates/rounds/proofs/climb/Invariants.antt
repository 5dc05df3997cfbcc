use Rattle.index.specs.Index.{index_node}
use Rattle.roomareas.specs.Changes.{search_at, Sits}
use Rattle.rounds.proofs.Spending.{Long}
use Rattle.rounds.proofs.Climbing.{Climbing}
use Rattle.rounds.proofs.climb.Given as goal

abbrev pub invariant-loop-i : goal.invariant-loop-i
invariant-loop-i l = Climbing (index_node l.x) l.n l.questions l.initial.settings l.initial.verdicts
    (search_at l.initial.work l.initial.verdicts) l.first l.laps l.i l.settings l.verdicts l.turns (search_at l.work l.verdicts) l.spent
    × Sits (index_node l.x) l.n l.questions l.work l.masks l.opens l.verdicts
    × Long l.initial.settings l.initial.work l.initial.masks l.initial.opens l.initial.verdicts l.initial.turns l.settings l.work l.masks l.opens l.verdicts
    l.turns
