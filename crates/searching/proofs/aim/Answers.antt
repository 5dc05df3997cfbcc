-- `searching::aim` meets its contract. Assumes nothing.
use native.Mathlib.Omega.{arith}
use Rattle.moves.proofs.Moves.{without, on_few}
use Rattle.searching.proofs.Jumps.{aimed_unit, aimed_free, aimed_conflict}
use borrow.Author.Rules.{rules}
use Rattle.searching.proofs.aim.Goals as goal

pub returns-then-u-ne-NO_UNIT : goal.returns-then-u-ne-NO_UNIT
returns-then-u-ne-NO_UNIT c = aimed_unit c.if-u-ne-NO_UNIT.true

pub returns-then-c-ge-NONE : goal.returns-then-c-ge-NONE
returns-then-c-ge-NONE c = search (rules, aimed_free)

pub conflict_clause-j-requires-clause-q_value : goal.conflict_clause-j-requires-clause-q_value
conflict_clause-j-requires-clause-q_value c = let (H, e) = c.requires.holds in
    (c.conflict-c.ensures, omega (arith, c.if-c-ge-NONE.false), without c.requires.indexed.few c.requires.goals H e)

pub overflow_cast-result-2 : goal.overflow_cast-result-2
overflow_cast-result-2 c = omega (arith, on_few c.conflict_clause-j.ensures)

pub overflow_mul-result-2 : goal.overflow_mul-result-2
overflow_mul-result-2 c = omega (arith, on_few c.conflict_clause-j.ensures)

pub overflow_add-result : goal.overflow_add-result
overflow_add-result c = omega (arith, c.if-c-ge-NONE.false, on_few c.conflict_clause-j.ensures)

pub returns : goal.returns
returns c = aimed_conflict c.if-u-ne-NO_UNIT.false (omega (arith, c.if-c-ge-NONE.false)) c.conflict_clause-j.ensures
