-- `growing::insert` meets its contract: a store for the number, one for its link, one for the head. Assumes nothing.
use mathlib.Core.Path.{refl}
use Rattle.growing.proofs.Chains.{inserted}
use Rattle.growing.proofs.insert.Goals as goal

pub returns : goal.returns
returns c = (refl, rw c.requires.2 (inserted c.requires.0 c.args.k c.requires.1))
