-- `block::check_ok` meets its contract: it compares the check of the bytes with the one that stands there. Assumes nothing.
use Rattle.scope.specs.Block.{check_ok}
use Rattle.block.proofs.check_ok.Goals as goal

pub returns : goal.returns
unfolding check_ok
returns c = simp (c.check_of-c.ensures, c.word-d.ensures)
