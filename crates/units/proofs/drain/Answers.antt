-- `units::drain` meets its contract. The loop's invariant: the bits of the local sum tell which words are not 0 yet. Assumes nothing.
use Rattle.units.specs.Units.{blocks}
use Rattle.units.proofs.Drains.{draining_starts, block-low, draining-goes, drained}
use native.Mathlib.Omega.{arith}
use Rattle.units.proofs.drain.Goals as goal

pub loop-sum-init : goal.loop-sum-init
loop-sum-init c = draining_starts c.requires (c.type_inv.m blocks).fits

pub bounds-m-b : goal.bounds-m-b
bounds-m-b c = omega (arith, block-low c.loop-sum.invariant c.loop-sum-test.true, c.loop-sum.invariant.size)

pub loop-sum-preserved : goal.loop-sum-preserved
loop-sum-preserved c = draining-goes c.loop-sum.invariant c.loop-sum-test.true

pub returns : goal.returns
returns c = drained c.loop-sum.invariant c.loop-sum-test.false
