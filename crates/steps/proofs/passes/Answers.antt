-- `steps::passes` meets its contract. The tests are those of `quick_passes`. Assumes nothing.
use native.Mathlib.Omega.{arith}
use mathlib.Core.Path.{◌∙◌, sym}
use denote.Enum.Bare.{same_true}
use borrow.Author.Rules.{rules}
use Rattle.rules.specs.contracts.Version.{the_type}
use Rattle.steps.proofs.Quick.{quick_passes}
use Rattle.steps.proofs.passes.Goals as goal

pub returns : goal.returns
returns c = quick_passes c.args.s (omega arith) c.args.version c.eq.result (λ e. same_true the_type (search rules) _ _ (sym c.eq.ensures ∙ e))
