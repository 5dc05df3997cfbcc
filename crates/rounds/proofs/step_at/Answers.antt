-- `rounds::step_at` meets its contract: question i's area and setting bytes are lent, and come back. Assumes nothing.
use mathlib.Core.Path.{refl}
use native.Mathlib.Omega.{arith}
use Rattle.roomareas.proofs.Lends.{lent_length}
use Rattle.rounds.proofs.Serving.{stepped_at}
use Rattle.rounds.proofs.step_at.Goals as goal

pub step-requires : goal.step-requires
step-requires c = record {
  indexed = c.requires.indexed;
  pointed = c.requires.pointed;
  goals = record { most = omega arith; below = (c.requires.goal_bound, tt) };
  goals_len = (
    refl,
    lent_length 32768 c.args.i c.args.work.now (omega (arith, c.requires.i_lt_most_questions.1)),
    lent_length 1024 c.args.i c.args.settings.now (omega (arith, c.requires.i_lt_most_questions.2)),
  );
}

pub returns : goal.returns
returns c = stepped_at c.args.i c.args.settings.now c.args.work.now c.requires.i_lt_most_questions.2 c.requires.i_lt_most_questions.1 c.step.auto.settings
    c.step.auto.work c.step.ensures
