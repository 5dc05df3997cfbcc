-- `rounds::mark` meets its contract: question i's setting bytes are lent, and come back. Assumes nothing.
use native.Mathlib.Omega.{arith}
use Rattle.roomareas.proofs.Lends.{lent_length}
use Rattle.roomareas.proofs.Parts.{lent}
use Rattle.rounds.proofs.Serving.{marked-at}
use Rattle.rounds.proofs.mark.Goals as goal

pub set_points-requires : goal.set_points-requires
set_points-requires c = let h = c.requires.i_lt_most_questions.2 in
    record {
      indexed = c.requires.indexed;
      points = c.requires.pointed;
      ready = rw (lent 32768 c.args.i c.args.work.now) c.requires.ready;
      room = omega (arith, lent_length 1024 c.args.i c.args.settings.now (omega (arith, h)));
    }

pub returns : goal.returns
returns c = marked-at c.args.i c.args.work.now c.args.settings.now c.requires.i_lt_most_questions.2 c.set_points.auto.settings c.set_points.ensures
