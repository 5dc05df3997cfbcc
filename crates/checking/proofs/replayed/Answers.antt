-- `checking::replayed` meets its contract: a refusal is the form's, and else the steps decide. Assumes nothing.
use mathlib.Core.Path.{ap, sym, ◌∙◌}
use Rattle.steps.specs.Opened.{opened_of}
use Rattle.checking.proofs.Answers.{form_refused, steps_within, steps_end}
use Rattle.checking.proofs.replayed.Goals as goal

pub judged-requires : goal.judged-requires
judged-requires c = record {
  indexed = c.requires.indexed;
  goals = c.requires.goals;
  area_size_in_bounds = c.requires.area_size_in_bounds;
  by_index = steps_within _ (sym c.count.ensures ∙ ap opened_of c.in_ok-count.was);
}

pub returns-in_err-count : goal.returns-in_err-count
returns-in_err-count c = form_refused _ _ _ _ _ _ (sym c.count.ensures ∙ ap opened_of c.in_err-count.was) c.from_residual.ensures.1

pub returns : goal.returns
returns c = steps_end _ (sym c.count.ensures ∙ ap opened_of c.in_ok-count.was) c.judged.ensures
