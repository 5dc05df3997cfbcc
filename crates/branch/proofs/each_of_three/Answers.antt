-- `branch::each_of_three` meets its contract. Each clause leaves room for the next. Assumes nothing.
use native.Mathlib.Omega.{arith}
use Rattle.branch.specs.Clauses.{flat}
use Rattle.branch.proofs.Appends.{room_left, appended_both, each_three-is}
use Rattle.branch.proofs.each_of_three.Goals as goal

pub put_one-requires-2 : goal.put_one-requires-2
unfolding flat
put_one-requires-2 c = room_left (omega arith) (omega arith) c.requires.room c.put_one.ensures

pub put_one-requires-3 : goal.put_one-requires-3
unfolding flat
put_one-requires-3 c = room_left (omega arith) (omega arith) c.requires.room (appended_both c.put_one.ensures c.put_one-2.ensures)

pub returns : goal.returns
returns c = each_three-is c.choose-p.ensures c.choose-q.ensures c.choose-r.ensures
    c.put_one.ensures c.put_one-2.ensures c.put_one-3.ensures
