-- `solver::visit` meets its contract. Assumes nothing.
use Rattle.index.specs.Index.{index_node}
use Rattle.solver.proofs.Marks.{visited, visited-idle, at-coded}
use Rattle.solver.proofs.Fronts.{onward_same}
use borrow.Author.Rules.{rules}
use Rattle.solver.proofs.visit.Goals as goal

pub enter-requires-clause-coded : goal.enter-requires-clause-coded
enter-requires-clause-coded c =
    at-coded c.requires.ready.0 c.requires.p_lt_n.0 c.entry-e.ensures c.if-e-eq0.false (index_node c.args.x.now) c.code_of_three-code.ensures

pub returns-then-code-ne0-clause-visited : goal.returns-then-code-ne0-clause-visited
returns-then-code-ne0-clause-visited c = search (rules, visited)

pub returns-clause-visited : goal.returns-clause-visited
returns-clause-visited c = search (rules, visited-idle, onward_same)
