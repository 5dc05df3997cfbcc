-- `index::link` meets its contract: counting, placing and filling keep the nodes. Assumes nothing.
use Rattle.index.proofs.Wholes.{linked_on}
use Rattle.index.proofs.link.Goals as goal

pub returns : goal.returns
returns c = linked_on _ c.count.new.x c.place.new.x _ c.count.ensures.1 c.place.ensures.1 c.fill.ensures
