use mathlib.Core.Path.{◌≡◌}
use lib.ListN.{length}
use Rattle.index.specs.Index.{index_node}
use Rattle.state.specs.Work.{Ready}
use Rattle.rests.specs.Words.{Sets}
use Rattle.questions.specs.Asking.{asks}
use Rattle.overview.proofs.Puts.{Putting}
use Rattle.overview.proofs.put_each.Given as goal

abbrev pub invariant-loop-i : goal.invariant-loop-i
invariant-loop-i l = ((Ready l.n l.work × Sets l.rests) × (length l.work ≡ length l.initial.work)) × Putting (asks (index_node l.x) l.n) l.goals l.initial.answers l.i l.answers
