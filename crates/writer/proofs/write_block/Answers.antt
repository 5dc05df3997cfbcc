-- `writer::write_block` meets its contract: a copy of the block over the start. Assumes nothing.
use mathlib.Core.Path.{◌≡◌, ◌∙◌}
use lib.ListN.{length}
use borrow.Author.Rules.{rules}
use Rattle.writer.proofs.Copies.{copy_front}
use Rattle.writer.proofs.write_block.Goals as goal

pub returns : goal.returns
returns c = let n : length c.block_of-block.result ≡ 512 = search rules in
    c.copy_at.ensures ∙ copy_front _ c.block_of-block.ensures n
