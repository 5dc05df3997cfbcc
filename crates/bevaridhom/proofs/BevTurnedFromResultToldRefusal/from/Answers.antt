-- What a host is told of rooms is the same of either case: of a refusal eight zeros twice. Assumes nothing.
use Rattle.scope.specs.Table.{list_from}
use Rattle.bevaridhom.proofs.BevTurnedFromResultToldRefusal.from.Goals as goal

pub returns-in-Err : goal.returns-in-Err
unfolding list_from
returns-in-Err c = rw c.in-Err.is
