-- `rounds::serve` meets its contract: by whether the turn finds a model. Assumes nothing.
use mathlib.Core.Path.{ap}
use native.Mathlib.Omega.{arith}
use Rattle.replaying.specs.Standing.{number_by}
use Rattle.replaying.proofs.Standings.{by_one}
use Rattle.roomareas.proofs.Sitting.{goal_below}
use Rattle.rounds.proofs.Serving.{served_found, served_else}
use Rattle.rounds.proofs.serve.Goals as goal

pub run_at-ran-requires : goal.run_at-ran-requires
run_at-ran-requires c = record {
  indexed = c.requires.indexed;
  goal_bound = goal_below c.requires.goals c.requires.i_in_bounds.0;
  lendable = c.requires.lendable;
  stands = c.requires.stands;
}

pub mark-requires : goal.mark-requires
mark-requires c = let h = c.requires.lendable in
    record {
      indexed = c.requires.indexed;
      pointed = c.requires.pointed;
      i_lt_most_questions = (h.few, omega (arith, h.work, c.run_at-ran.auto.work), c.requires.i_in_bounds.1);
      ready = c.run_at-ran.ensures.ready;
    }

pub returns-in-Possible : goal.returns-in-Possible
returns-in-Possible c = served_found c.args.questions.now c.args.settings.now c.run_at-ran.ensures.made_at c.run_at-ran.ensures.turned
    (ap number_by c.in-Possible.is) c.mark.ensures

pub returns-in_default : goal.returns-in_default
returns-in_default c = served_else c.args.questions.now c.args.settings.now c.run_at-ran.ensures.made_at c.run_at-ran.ensures.turned
    (λ e. c.in_default.not-Possible (by_one _ e))
