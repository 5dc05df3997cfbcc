-- `units::clear` meets its contract. The loop's invariant: the words passed are 0. Assumes nothing.
use Rattle.units.proofs.Sets.{cleared}
use native.Mathlib.Omega.{arith}
use Rattle.units.proofs.clear.Goals as goal

pub returns : goal.returns
returns c = cleared c.loop-i.m (omega arith) (λ i h. c.loop-i.invariant i (omega arith))
