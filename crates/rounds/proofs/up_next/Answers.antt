-- `rounds::up_next` meets its contract: the first look, or else the second. Assumes nothing.
use Rattle.rounds.proofs.Spending.{sought_early, sought_late}
use Rattle.rounds.proofs.up_next.Goals as goal

pub returns-in-Some : goal.returns-in-Some
returns-in-Some c = sought_early _ _ _ c.in-Some.ensures

pub returns : goal.returns
returns c = sought_late _ _ _ c.in_default.ensures _ c.seek-2.ensures
