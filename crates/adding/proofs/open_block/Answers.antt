-- `adding::open_block` meets its contract: the part from the used length on is lent, and comes back with a block at its start.
-- Assumes nothing.
use Rattle.scope.specs.Block.{block_of}
use Rattle.writer.proofs.Parts.{part_back}
use native.Mathlib.Omega.{arith}
use Rattle.adding.proofs.open_block.Goals as goal

pub returns : goal.returns
returns c = part_back c.args.buf.now (block_of 70 1 c.args.index c.args.r) c.args.used 512 (omega (arith, c.requires.0)) c.write_block.ensures
