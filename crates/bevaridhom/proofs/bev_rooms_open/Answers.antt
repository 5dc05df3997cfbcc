-- `bevaridhom::bev_rooms_open` meets its contract: the answer of `rooms::open`, whatever case it is. Assumes nothing.
use Rattle.bevaridhom.proofs.bev_rooms_open.Goals as goal

pub returns : goal.returns
returns c = rw c.from.ensures c.open.ensures
