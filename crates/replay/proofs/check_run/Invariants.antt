use mathlib.Core.Path.{◌≡◌}
use mathlib.Core.List.{[]}
use Prim.Native.Nat.{◌-◌}
use lib.ListN.{length}
use Rattle.index.specs.Index.{index_node}
use Rattle.scope.specs.Table.{list_from}
use Rattle.calculus.specs.Expansion.{expand}
use Rattle.rules.specs.Steps.{step_at}
use Rattle.rules.specs.Rules.{run, running, root}
use Rattle.steps.specs.Opened.{place_of}
use Rattle.replay.proofs.Runs.{Going}
use Rattle.replay.proofs.check_run.Given as goal

abbrev pub invariant-loop-i : goal.invariant-loop-i
invariant-loop-i l = (length l.work ≡ length l.initial.work)
    × Going l.version (index_node l.x) l.n l.goals (step_at l.d) l.count
    (run l.version (expand (index_node l.x)) l.goals l.n l.from (list_from (step_at l.d) l.from (l.count - l.from)) (running root [])) l.work l.i
    × (l.at ≡ place_of l.i)
