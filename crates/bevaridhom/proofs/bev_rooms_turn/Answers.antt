-- `bevaridhom::bev_rooms_turn` meets its contract: the answer of `rooms::turn`, whatever case it is. Assumes nothing.
use Rattle.bevaridhom.proofs.bev_rooms_turn.Goals as goal

pub returns : goal.returns
returns c = rw c.from.ensures c.turn.ensures
