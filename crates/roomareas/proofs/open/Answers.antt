-- `roomareas::open` meets its contract: before each turn the areas passed are set up. Assumes nothing.
use native.Mathlib.Omega.{arith}
use Rattle.roomareas.proofs.Resting.{opening-none, opening_more, opening_all}
use Rattle.roomareas.proofs.open.Goals as goal

pub loop-i-init : goal.loop-i-init
loop-i-init c = opening-none _ _

pub loop-i-preserved : goal.loop-i-preserved
loop-i-preserved c = let k = c.loop-i.invariant in
    opening_more k _ c.requires.2 c.loop-i-test.true (omega (arith, c.requires.3))

pub returns : goal.returns
returns c = opening_all c.loop-i.invariant _ c.requires.2 (omega (arith, c.loop-i-test.false, c.loop-i.auto.i-end)) c.requires.0
