-- `solver::restart` meets its contract. Assumes nothing.
use Rattle.solver.proofs.Undoes.{started, started_list, rebased}
use borrow.Author.Rules.{rules}
use Rattle.solver.proofs.restart.Goals as goal

pub returns : goal.returns
returns c = record {
  holds = search (rules, started, started_list, rebased);
  work_after = search (rules, started, started_list, rebased);
}
