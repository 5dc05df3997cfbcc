-- `granting::count_of` meets its contract: COUNTS are computed of the definition. Assumes nothing.
use Rattle.scope.specs.Table.{list_from}
use Rattle.granting.specs.Counts.{choose, counts}
use Rattle.granting.proofs.Refusals.{counted}
use Rattle.granting.proofs.count_of.Goals as goal

pub returns : goal.returns
unfolding list_from choose counts
returns c = counted c.args.m c.args.s c.requires.0 c.requires.1
