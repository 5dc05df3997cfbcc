-- `record::leaf_ok` meets its contract: TRUE or ATOM. Assumes nothing.
use mathlib.Core.Bool.{false≢true}
use borrow.Author.Tests.{ltb-true}
use Rattle.record.proofs.Halves.{passes_true, passes_atom}
use Rattle.record.proofs.leaf_ok.Goals as goal

pub returns-then-high-ne0 : goal.returns-then-high-ne0
returns-then-high-ne0 c = λ e. absurd (false≢true e)

pub returns-then-low-eq1 : goal.returns-then-low-eq1
returns-then-low-eq1 c = λ _. passes_true _ _ _ c.if-low-eq1.true c.if-high-ne0.false

pub returns-then-low-ne2 : goal.returns-then-low-ne2
returns-then-low-ne2 c = λ e. absurd (false≢true e)

pub returns : goal.returns
returns c = λ e. passes_atom _ _ _ c.if-low-ne2.false (ltb-true _ _ e) c.if-high-ne0.false
