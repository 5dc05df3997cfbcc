use mathlib.Core.Path.{◌≡◌}
use Prim.Native.Nat.{◌+◌, ◌-◌, ◌*◌, ◌≤◌}
use lib.ListN.{length}
use Rattle.calculus.specs.Model.{most_goals}
use Rattle.index.specs.Index.{index_node}
use Rattle.state.specs.Work.{Ready}
use Rattle.rests.specs.Words.{Sets}
use Rattle.questions.specs.Asking.{asks}
use Rattle.clashing.specs.Clash.{clashes}
use Rattle.clashing.proofs.Turns.{Narrowing}
use Rattle.clashing.proofs.narrow.Given as goal

abbrev pub invariant-loop-i : goal.invariant-loop-i
invariant-loop-i l = ((Ready l.n l.work × Sets l.rests) × (length l.work ≡ length l.initial.work))
    × (Narrowing (clashes (asks (index_node l.x) l.n) l.goals) l.goals l.kept l.first l.list l.i l.floor × ((l.i ≤ l.from) × (l.from ≤ most_goals)))

abbrev pub decreases-loop-i : goal.decreases-loop-i
decreases-loop-i l = 65 * l.i + (most_goals - l.floor)
