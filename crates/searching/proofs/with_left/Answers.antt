-- `searching::with_left` meets its contract. Assumes nothing.
use Rattle.searching.specs.declared.Ended.TheVariants.{Model, Closed}
use mathlib.Core.Path.{ap, ◌∙◌}
use Rattle.searching.proofs.with_left.Goals as goal

pub returns-in-Model : goal.returns-in-Model
returns-in-Model c = ap Model c.one_more.ensures ∙ rw c.in-Model.is

pub returns-in-Closed : goal.returns-in-Closed
returns-in-Closed c = ap Closed c.one_more-in-Closed.ensures ∙ rw c.in-Closed.is
