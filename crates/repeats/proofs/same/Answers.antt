-- `repeats::same` meets its contract: the first numbers differ, or the second ones tell. Assumes nothing.
use native.Mathlib.Omega.{arith}
use Rattle.repeats.proofs.Keys.{other_low, by_high}
use Rattle.repeats.proofs.same.Goals as goal

pub returns-then-double-low : goal.returns-then-double-low
returns-then-double-low c = by_high c.args.t.now c.args.m c.args.low c.args.high c.place-at.ensures c.double.ensures
    c.double-then-double-low.ensures
    c.if-double-low.true

pub returns-else-double-low : goal.returns-else-double-low
returns-else-double-low c = other_low c.args.t.now c.args.m c.args.low c.args.high c.place-at.ensures c.double.ensures
    (λ i. (c.type_inv.t i).fits)
    (omega arith)
    c.if-double-low.false
