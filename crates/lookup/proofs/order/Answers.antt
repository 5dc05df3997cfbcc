-- `lookup::order` meets its contract. Assumes nothing.
use mathlib.Core.Path.{◌∙◌, sym}
use Rattle.codec.proofs.Normal.{ordered-none, ordered_steps}
use Rattle.lookup.proofs.order.Goals as goal

pub returns-then-x-lt3 : goal.returns-then-x-lt3
returns-then-x-lt3 c = sym (ordered-none c.args.x c.if-x-lt3.true)

pub returns : goal.returns
returns c = let x = c.args.x in
    c.place_first.ensures ∙ sym (ordered_steps x c.if-x-lt7.false c.order_last.result c.order_last.ensures)
