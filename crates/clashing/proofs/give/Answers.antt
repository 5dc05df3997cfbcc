-- `clashing::give` meets its contract: the indices stand at the front, and 0 behind them. Assumes nothing.
use Rattle.clashing.proofs.Copies.{given}
use Rattle.clashing.proofs.give.Goals as goal

pub returns : goal.returns
returns c = given c.requires c.copy_from_slice.ensures.after
