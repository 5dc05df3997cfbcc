-- `lookup::turn` meets its contract. Assumes nothing.
use mathlib.Core.Path.{sym}
use Rattle.codec.proofs.Normal.{turned-five, turned_other}
use Rattle.lookup.proofs.turn.Goals as goal

pub returns-then-x-ne5 : goal.returns-then-x-ne5
returns-then-x-ne5 c = sym (turned_other c.args.x c.if-x-ne5.true)

pub returns : goal.returns
returns c = rw (turned-five c.args.x c.if-x-ne5.false, c.negation.ensures)
