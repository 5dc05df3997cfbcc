-- `area::counted` meets its contract. A slot with a strike is not counted. Assumes nothing.
use Rattle.area.proofs.Remains.{more_struck, more_free}
use Rattle.area.proofs.counted.Goals as goal

pub returns-then-strike-ne0 : goal.returns-then-strike-ne0
returns-then-strike-ne0 c = more_struck c.args.left c.args.s c.args.strike c.if-strike-ne0.true

pub returns : goal.returns
returns c = more_free c.args.left c.args.s c.args.strike c.if-strike-ne0.false
