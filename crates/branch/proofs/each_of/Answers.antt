-- `branch::each_of` meets its contract. The first clause leaves room for the second. Assumes nothing.
use native.Mathlib.Omega.{arith}
use Rattle.branch.specs.Clauses.{flat}
use Rattle.branch.proofs.Appends.{room_left, each_is}
use Rattle.branch.proofs.each_of.Goals as goal

pub put_one-requires-2 : goal.put_one-requires-2
unfolding flat
put_one-requires-2 c = room_left (omega arith) (omega arith) c.requires.room c.put_one.ensures

pub returns : goal.returns
returns c = each_is c.choose-p.ensures c.choose-q.ensures c.put_one.ensures c.put_one-2.ensures
