-- `solver::leave` meets its contract. The invariant: what is held begins with the first literals, and each is as it was. Assumes nothing.
use Rattle.solver.proofs.Settles.{held-some, held-few, newest-few, leaving-goes, leaving_ends}
use borrow.Author.Rules.{rules}
use Rattle.solver.proofs.leave.Goals as goal

pub pop-requires : goal.pop-requires
pop-requires c = record {
  ready = search (rules, held-some, held-few, newest-few);
  n_le_most_nodes = search (rules, held-some, held-few, newest-few);
  work_bound = search (rules, held-some, held-few, newest-few);
}

pub loop-work-preserved : goal.loop-work-preserved
loop-work-preserved c = search (rules, leaving-goes)

pub returns : goal.returns
returns c = search (rules, leaving_ends)
