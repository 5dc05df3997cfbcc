-- `growing::Draft::new` meets its contract: there is room for no more nodes than a table may have. Assumes nothing.
use native.Mathlib.Omega.{arith}
use Rattle.growing.proofs.Nodes.{room_low}
use Rattle.growing.proofs.Draft.new.Goals as goal

pub with_room-requires : goal.with_room-requires
with_room-requires c = omega (arith, c.room_of.ensures, room_low c.args.len)
