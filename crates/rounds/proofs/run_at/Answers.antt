-- `rounds::run_at` meets its contract: question i's parts are lent, and come back. Assumes nothing.
use mathlib.Core.Path.{◌∙◌}
use native.Mathlib.Omega.{arith}
use Rattle.roomareas.proofs.Lends.{lent_work, made_at}
use Rattle.roomareas.proofs.Parts.{lent, part_back}
use Rattle.rounds.proofs.run_at.Goals as goal

pub run-requires : goal.run-requires
run-requires c = record {
  indexed = c.requires.indexed;
  goals = record { most = omega arith; below = (c.requires.goal_bound, tt) };
  stands = rw (lent 32768 c.args.i c.args.work.now, lent 33 c.args.i c.args.masks.now, lent 2017 c.args.i c.args.opens.now) c.requires.stands;
}

pub returns : goal.returns
returns c = let h = c.requires.lendable in
    let w = c.args.work.now in record {
      made_at = rw (← lent 32768 c.args.i w)
          (made_at h c.run.auto.work c.run.auto.masks c.run.auto.opens c.run.ensures.made);
      turned = rw (← lent 32768 c.args.i w) c.run.ensures.turned;
      ready = rw (part_back 32768 c.args.i w _ (omega (arith, h.work)) (c.run.auto.work ∙ lent_work h)) c.run.ensures.ready;
    }
