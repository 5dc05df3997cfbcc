-- `repeats::enter` meets its contract: both halves take the record of node n. Assumes nothing.
use Rattle.repeats.proofs.enter.Goals as goal

pub seen-found-requires : goal.seen-found-requires
seen-found-requires c = c.requires

pub insert-requires : goal.insert-requires
insert-requires c = (c.requires.0, c.requires.2, c.requires.3, c.requires.4)
