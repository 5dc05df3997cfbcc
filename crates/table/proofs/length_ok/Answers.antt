-- `table::length_ok` meets its contract. Assumes nothing.
use borrow.Author.Tests.{eq-eqb, ne_eqb}
use Rattle.scope.specs.Table.{length_ok}
use Rattle.table.proofs.length_ok.Goals as goal

pub returns-then-n-eq0 : goal.returns-then-n-eq0
unfolding length_ok
returns-then-n-eq0 c = simp (eq-eqb _ _ c.if-n-eq0.true)

pub returns-then-n-ne0 : goal.returns-then-n-ne0
unfolding length_ok
returns-then-n-ne0 c = simp (ne_eqb _ _ c.if-n-eq0.false, ne_eqb _ _ c.if-n-ne0.true)

pub returns : goal.returns
unfolding length_ok
returns c = simp (ne_eqb _ _ c.if-n-eq0.false, eq-eqb _ _ c.if-n-ne0.false)
