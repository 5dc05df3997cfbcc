use mathlib.Core.List.{List}
use Prim.Native.Nat.{ℕ}
use Rattle.turns.specs.Turn.{Search}
use Rattle.index.specs.Index.{index_node}
use Rattle.rounds.proofs.Spending.{Long}
use Rattle.roomareas.specs.Changes.{search_at, Sits}
use Rattle.rounds.specs.Spent.{Spent}
use Rattle.rounds.proofs.spend.Given as goal

-- what the call has come to, from any start that had come to what stood before the loop
abbrev pub invariant-loop-k : goal.invariant-loop-k
invariant-loop-k l = ((s v : List ℕ) (before : ℕ → Search) (up : ℕ)
    → Spent (index_node l.x) l.n l.questions s v before up l.spent l.initial.settings l.initial.verdicts l.initial.turns
    (search_at l.initial.work l.initial.verdicts) l.initial.next
    → Spent (index_node l.x) l.n l.questions s v before up l.k l.settings l.verdicts l.turns (search_at l.work l.verdicts) l.next)
    × Sits (index_node l.x) l.n l.questions l.work l.masks l.opens l.verdicts
    × Long l.initial.settings l.initial.work l.initial.masks l.initial.opens l.initial.verdicts l.initial.turns l.settings l.work l.masks l.opens l.verdicts
    l.turns
