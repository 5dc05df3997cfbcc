-- `clashing::copy` meets its contract: the goals stand in the list, behind 64 places. Assumes nothing.
use Rattle.clashing.proofs.Copies.{copied}
use Rattle.clashing.proofs.copy.Goals as goal

pub returns : goal.returns
returns c = copied _ c.requires.1 c.copy_from_slice.ensures.after
