-- `clause::templates` meets its contract: TEMPLATES are computed of the calculus' templates. Assumes nothing.
use mathlib.Core.Path.{refl}
use Rattle.scope.specs.Table.{list_from}
use Rattle.calculus.specs.Expansion.{templates}
use Rattle.clause.specs.Templates.{rows}
use Rattle.clause.proofs.templates.Goals as goal

pub returns : goal.returns
unfolding list_from rows templates
returns c = refl
