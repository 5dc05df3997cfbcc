-- `gather::flush` meets its contract: the part of the buffer from the block's place on is lent, and comes back with the block at its
-- start. Assumes nothing.
use Rattle.gather.proofs.Keeps.{block_back}
use Rattle.gather.proofs.flush.Goals as goal

pub returns : goal.returns
returns c = block_back _ c.args.out.now c.args.block.now c.args.count c.args.index c.requires.3 c.write_block.ensures
