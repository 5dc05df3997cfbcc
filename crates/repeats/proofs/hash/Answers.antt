-- `repeats::hash` meets its contract: the halves of the joint number are those given. Assumes nothing.
use native.Mathlib.Omega.{arith}
use Rattle.repeats.proofs.Keys.{hash_joint}
use Rattle.repeats.proofs.hash.Goals as goal

pub returns : goal.returns
returns c = (hash_joint _ _ (omega arith), omega arith)
