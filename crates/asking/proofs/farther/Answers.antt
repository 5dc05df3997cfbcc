-- `asking::farther` meets its contract. Assumes nothing.
use native.Mathlib.Omega.{arith}
use Rattle.asking.proofs.farther.Goals as goal

pub returns-then-top-end : goal.returns-then-top-end
returns-then-top-end c = record {
  from = omega (arith, c.if-top-end.true, c.wide-end.ensures);
  over = omega (arith, c.if-top-end.true, c.wide-end.ensures);
  least = λ n a b. omega (arith, c.if-top-end.true, c.wide-end.ensures);
}

pub returns-else-top-end : goal.returns-else-top-end
returns-else-top-end c = record {
  from = omega (arith, c.if-top-end.false, c.wide-end.ensures);
  over = omega (arith, c.if-top-end.false, c.wide-end.ensures);
  least = λ n a b. omega (arith, c.if-top-end.false, c.wide-end.ensures);
}
