-- `branch::same_or_not` meets its contract. The first clause leaves room for the second. Assumes nothing.
use mathlib.Core.Path.{refl}
use Rattle.branch.proofs.Appends.{pairs_is, pairs_ready}
use Rattle.branch.proofs.same_or_not.Goals as goal

pub put_two-requires-2 : goal.put_two-requires-2
put_two-requires-2 c = pairs_ready c.requires.room refl refl c.put_two.ensures

pub returns : goal.returns
returns c = pairs_is c.choose-p.ensures c.choose-q.ensures c.choose-r.ensures c.choose-s.ensures c.put_two.ensures c.put_two-2.ensures
