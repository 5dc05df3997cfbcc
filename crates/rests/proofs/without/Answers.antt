-- `rests::without` meets its contract. Assumes nothing.
use Rattle.rests.proofs.Words.{without_past, without_bit}
use native.Mathlib.Omega.{arith}
use Rattle.rests.proofs.without.Goals as goal

pub returns-then-d-ge128 : goal.returns-then-d-ge128
returns-then-d-ge128 c = without_past _ c.args.q c.args.d c.if-d-ge128.true

pub returns : goal.returns
returns c = without_bit c.args.m.now c.args.q c.args.d (omega (arith, c.if-d-ge128.false))
