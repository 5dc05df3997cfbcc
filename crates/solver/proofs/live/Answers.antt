-- `solver::live` meets its contract. The loop drops the first position while it forces a decided literal; the measure is the size of the set. Assumes nothing.
use Rattle.units.proofs.Sizes.{first-less}
use Rattle.solver.proofs.Lives.{front-is, forced_at, dropped_goes}
use native.Mathlib.Omega.{arith}
use Rattle.solver.proofs.live.Goals as goal

pub front-u-requires-clause-units : goal.front-u-requires-clause-units
front-u-requires-clause-units c = let inv = c.loop-u.invariant in
    let d = dropped_goes inv.0 inv.1 c.loop-u-test.true c.value.ensures c.if-value-eq0.false c.leave.ensures in
    (d.units, forced_at c.args.n c.requires.units.1 d)

pub loop-u-smaller : goal.loop-u-smaller
loop-u-smaller c = let inv = c.loop-u.invariant in
    first-less (front-is inv.0 inv.1 c.loop-u-test.true) c.leave.ensures

pub loop-u-preserved : goal.loop-u-preserved
loop-u-preserved c = let inv = c.loop-u.invariant in
    (dropped_goes inv.0 inv.1 c.loop-u-test.true c.value.ensures c.if-value-eq0.false c.leave.ensures, c.front-u.ensures, omega arith)
