-- `solver::wait` meets its contract. Assumes nothing.
use Rattle.solver.proofs.Settles.{awaited_apart}
use borrow.Author.Rules.{rules}
use Rattle.solver.proofs.wait.Goals as goal

pub returns-else-denies : goal.returns-else-denies
returns-else-denies c = search (rules, awaited_apart, c.denies.ensures)
