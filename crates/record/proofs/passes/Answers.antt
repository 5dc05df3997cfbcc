-- `record::passes` meets its contract: the kinds are told apart. Assumes nothing.
use mathlib.Core.Bool.{false≢true}
use Rattle.record.proofs.passes.Goals as goal

pub returns-then-kind-gt2 : goal.returns-then-kind-gt2
returns-then-kind-gt2 c = λ e. absurd (false≢true e)
