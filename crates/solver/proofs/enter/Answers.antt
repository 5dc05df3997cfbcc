-- `solver::enter` meets its contract. Assumes nothing.
use Rattle.index.specs.Index.{index_node}
use Rattle.solver.proofs.Marks.{held_low, code-small, coded_empty, coded-unit, coded_same}
use Rattle.solver.proofs.Fronts.{onward_same, onward_lowered, onward_flagged}
use native.Mathlib.Omega.{arith}
use borrow.Author.Rules.{rules}
use Rattle.solver.proofs.enter.Goals as goal

pub conflict-requires : goal.conflict-requires
conflict-requires c = search (rules, held_low)

pub returns-then-code-eq1 : goal.returns-then-code-eq1
returns-then-code-eq1 c = record {
  renewed = search (rules, coded_empty, onward_lowered);
  onward = search (rules, coded_empty, onward_lowered);
}

pub overflow_add-kept : goal.overflow_add-kept
overflow_add-kept c = omega (
  arith,
  code-small (index_node c.args.x.now) c.requires.indexed.table c.requires.indexed.few c.requires.ready.0 c.requires.q_bound.0 c.requires.q_bound.2
      c.requires.coded
      c.if-code-eq1-2.true c.choose-l.ensures,
)

pub unit-requires-clause-area_in_bounds : goal.unit-requires-clause-area_in_bounds
unit-requires-clause-area_in_bounds c = search (rules, held_low)

pub earlier-requires : goal.earlier-requires
earlier-requires c = search (rules, held_low)

pub returns-then-code-eq1-2 : goal.returns-then-code-eq1-2
returns-then-code-eq1-2 c = let small = code-small (index_node c.args.x.now) c.requires.indexed.table c.requires.indexed.few c.requires.ready.0
    c.requires.q_bound.0 c.requires.q_bound.2 c.requires.coded
    c.if-code-eq1-2.true c.choose-l.ensures in
    record {
      renewed = search (rules, coded-unit);
      onward = onward_flagged c.requires.indexed.few c.requires.ready.0 c.requires.q_bound.0 c.unit.ensures (omega (arith, small)) c.earlier.ensures;
    }

pub returns-clause-renewed : goal.returns-clause-renewed
returns-clause-renewed c = search (rules, coded_same, onward_same)
