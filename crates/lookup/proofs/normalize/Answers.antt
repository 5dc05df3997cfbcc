-- `lookup::normalize` meets its contract. Assumes nothing.
use mathlib.Core.Path.{◌∙◌, ap}
use Rattle.scope.specs.Calls.{ordered, turned, normalized}
use Rattle.lookup.proofs.normalize.Goals as goal

pub returns : goal.returns
unfolding normalized
returns c = rw (c.order-x.ensures ∙ ap ordered (c.turn.ensures ∙ ap turned c.fields.ensures))
