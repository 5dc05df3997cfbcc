-- `record::three_ok` meets its contract: the operands rise. Assumes nothing.
use mathlib.Core.Bool.{false≢true}
use borrow.Author.Tests.{ltb-true}
use Rattle.record.proofs.Halves.{passes_three}
use Rattle.record.proofs.three_ok.Goals as goal

pub returns-then-b-low : goal.returns-then-b-low
returns-then-b-low c = λ e. absurd (false≢true e)

pub returns-then-c-b : goal.returns-then-c-b
returns-then-c-b c = λ e. absurd (false≢true e)

pub returns : goal.returns
returns c = λ e. passes_three _ _ _ c.requires.0 c.requires.1 c.if-b-low.false c.if-c-b.false (ltb-true _ _ e)
