-- `gather::add_move` meets its contract: before each turn the removals of the positions looked at are pushed. The measure is the bits
-- left. Assumes nothing.
use Rattle.gather.proofs.Removes.{removing-space, removing-goes, last-space, removing-ends}
use native.Mathlib.Omega.{arith}
use Rattle.gather.proofs.add_move.Goals as goal

pub add_removal-at-requires : goal.add_removal-at-requires
add_removal-at-requires c = removing-space c.loop-left.invariant c.requires (omega (arith, c.loop-left-test.true))

pub loop-left-preserved : goal.loop-left-preserved
loop-left-preserved c = removing-goes c.loop-left.invariant c.requires (omega (arith, c.loop-left-test.true)) c.add_removal-at.ensures

pub add-requires : goal.add-requires
add-requires c = last-space c.loop-left.invariant c.requires (λ h. omega (arith, h, c.loop-left-test.false))

pub returns : goal.returns
returns c = removing-ends c.loop-left.invariant c.requires (λ h. omega (arith, h, c.loop-left-test.false)) c.add.ensures
