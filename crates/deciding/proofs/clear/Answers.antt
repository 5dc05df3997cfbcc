-- `deciding::clear` meets its contract: the first 1,024 points may go either way, and the bytes behind them stay. Assumes nothing.
use Rattle.deciding.proofs.Settings.{cleared_filled}
use Rattle.deciding.proofs.clear.Goals as goal

pub returns : goal.returns
returns c = cleared_filled c.requires (c.fill.ensures.after (λ y e. e))
