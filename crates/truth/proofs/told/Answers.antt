-- `truth::told` meets its contract. Assumes nothing.
use native.Mathlib.Omega.{arith}
use Rattle.truth.proofs.Levels.{truth_high}
use Rattle.truth.proofs.told.Goals as goal

pub returns-in_default : goal.returns-in_default
returns-in_default c = truth_high _ (λ q. omega arith) (λ q. omega arith)
