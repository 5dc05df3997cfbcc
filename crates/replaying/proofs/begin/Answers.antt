-- `replaying::begin` meets its contract: nothing is held, so nothing is open. Assumes nothing.
use Rattle.replaying.proofs.Standings.{stands_none}
use Rattle.replaying.proofs.begin.Goals as goal

pub returns : goal.returns
returns c = record {
  stands = stands_none c.args.opens.now c.start.ensures.holds c.start.ensures.work_after c.requires.area_in_bounds.2;
  work_after = c.start.ensures.work_after;
}
