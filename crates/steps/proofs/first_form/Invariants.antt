-- `steps::first_form` meets its contract: what is left of the steps at k is the answer. Assumes nothing.
use mathlib.Core.Path.{◌≡◌}
use Prim.Native.Nat.{◌-◌}
use Rattle.scope.specs.Outcome.{first}
use Rattle.steps.specs.Opened.{step_row}
use Rattle.steps.proofs.first_form.Given as goal

abbrev pub invariant-loop-k : goal.invariant-loop-k
invariant-loop-k l = first (step_row l.d) l.k (l.steps - l.k) ≡ first (step_row l.d) 0 l.steps
