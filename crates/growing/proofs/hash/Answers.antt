-- `growing::hash` meets its contract: twelve bits of the product. Assumes nothing.
use mathlib.Core.Path.{refl}
use Rattle.growing.specs.Chains.{hash_of}
use native.Mathlib.Omega.{arith}
use Rattle.growing.proofs.hash.Goals as goal

pub returns : goal.returns
unfolding hash_of
returns c = (refl, omega arith)
