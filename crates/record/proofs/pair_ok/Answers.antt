-- `record::pair_ok` meets its contract: the operands rise, or it is an implication and they fall. Assumes nothing.
use mathlib.Core.Bool.{false≢true}
use native.Mathlib.Omega.{arith}
use borrow.Author.Tests.{ltb-true}
use Rattle.record.proofs.Halves.{passes-rising, passes-falling}
use Rattle.record.proofs.pair_ok.Goals as goal

pub returns-then-a-b : goal.returns-then-a-b
returns-then-a-b c = λ e. passes-rising _ _ _ c.requires.0 c.requires.1 c.requires.2 c.if-a-b.true (ltb-true _ _ e)

pub returns-then-low-ne5 : goal.returns-then-low-ne5
returns-then-low-ne5 c = λ e. absurd (false≢true e)

pub returns-then-a-b-2 : goal.returns-then-a-b-2
returns-then-a-b-2 c = λ e. absurd (false≢true e)

pub returns : goal.returns
returns c = λ e. passes-falling _ _ _ c.requires.0 c.requires.1 c.requires.2 c.if-low-ne5.false (omega (arith, c.if-a-b-2.false, c.if-a-b.false)) (ltb-true _ _ e)
