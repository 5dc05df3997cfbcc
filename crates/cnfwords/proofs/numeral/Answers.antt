-- `cnfwords::numeral` meets its contract: n is the value of the digits passed. Assumes nothing.
use mathlib.Core.Path.{◌∙◌, sym}
use borrow.Author.Tests.{eqb-true, eqb-false}
use Rattle.cnfwords.proofs.Numbers.{none_said, long_said, digit_more, value_more, other_said, all_said, ten_more}
use native.Mathlib.Omega.{arith}
use Rattle.cnfwords.proofs.numeral.Goals as goal

pub returns-then-is_empty : goal.returns-then-is_empty
returns-then-is_empty c = none_said _ (eqb-true _ 0 (sym c.if-is_empty.ensures))

pub returns-then-w-gt9 : goal.returns-then-w-gt9
returns-then-w-gt9 c = long_said _ c.if-w-gt9.true

pub returns-then-not-is_ascii_digit : goal.returns-then-not-is_ascii_digit
returns-then-not-is_ascii_digit c = other_said _ _ c.loop-b.n c.loop-b-test.true (sym c.if-not-is_ascii_digit.ensures.value) c.loop-b.invariant.1

pub loop-b-preserved : goal.loop-b-preserved
loop-b-preserved c = let inv = c.loop-b.invariant in
    let h = c.loop-b-test.true in (
      ten_more _ _ _ inv.0 (omega (arith, c.if-not-is_ascii_digit.ensures.cases)),
      sym (digit_more _ _ c.loop-b.n h (sym c.if-not-is_ascii_digit.ensures.value)) ∙ inv.1,
      sym (value_more _ _ _ h) ∙ inv.2,
    )

pub returns : goal.returns
returns c = all_said _ _ _
    (omega (arith, eqb-false _ 0 (sym c.if-is_empty.ensures)))
    (omega (arith, c.if-w-gt9.false)) c.loop-b-test.false c.loop-b.invariant.1 c.loop-b.invariant.2
