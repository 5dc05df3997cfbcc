-- `asking::list_row` meets its contract. Assumes nothing.
use mathlib.Core.Path.{◌∙◌, sym}
use Rattle.asking.proofs.list_row.Goals as goal

pub returns-then-list_size : goal.returns-then-list_size
returns-then-list_size c = simp (sym c.list_size.ensures ∙ c.if-list_size.true)

pub returns : goal.returns
returns c = simp (sym c.list_size.ensures ∙ c.if-list_size.false)
