-- `solver::enlist` meets its contract. Assumes nothing.
use Rattle.solver.proofs.Goals.{goal_joins}
use Rattle.solver.proofs.enlist.Goals as goal

pub returns : goal.returns
returns c = let w = goal_joins c.requires.indexed c.requires.fresh c.attach.ensures c.requires.stands in
    record {
      stands_2 = w.0;
      work_after = w.1;
    }
