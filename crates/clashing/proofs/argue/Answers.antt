-- `clashing::argue` meets its contract: 63 where the search of all goals finds a model, else the walk. Assumes nothing.
use mathlib.Core.Path.{ap, ◌∙◌}
use Rattle.std.specs.Prelude.{Ok}
use Rattle.rests.proofs.Held.{sets_blank}
use Rattle.clashing.proofs.Turns.{together, argued_model, argued_closed}
use Rattle.clashing.proofs.argue.Goals as goal

pub solve-found-requires : goal.solve-found-requires
solve-found-requires c = record {
  indexed = c.requires.indexed;
  goals = together c.requires.passed;
  ready = (c.blank.ensures.ready, sets_blank);
}

pub narrow-requires : goal.narrow-requires
narrow-requires c = record {
  indexed = c.requires.indexed;
  passed = c.requires.passed;
  grows = c.requires.grows;
  ready = (c.solve-found.ensures.solved.ready, c.solve-found.ensures.sets);
}

pub returns-in-Model : goal.returns-in-Model
returns-in-Model c = argued_model c.solve-found.ensures.solved c.in-Model.is

pub returns-in-Closed : goal.returns-in-Closed
returns-in-Closed c = ap Ok c.narrow.ensures ∙ argued_closed c.solve-found.ensures.solved c.in-Closed.is
