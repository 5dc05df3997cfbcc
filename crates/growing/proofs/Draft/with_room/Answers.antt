-- `growing::Draft::with_room` meets its contract: no number, and no chain. Assumes nothing.
use Rattle.growing.proofs.Nodes.{none-under}
use Rattle.growing.proofs.Draft.with_room.Goals as goal

pub invariant_of-result : goal.invariant_of-result
invariant_of-result c = none-under c.args.room c.requires
