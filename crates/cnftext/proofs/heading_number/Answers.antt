-- `cnftext::heading_number` meets its contract: the digits, then the byte behind them. Assumes nothing.
use mathlib.Core.Path.{◌∙◌, sym}
use Rattle.cnftext.proofs.Headings.{no_number, nothing-follows, other-follows, this-follows}
use Rattle.cnftext.proofs.heading_number.Goals as goal

pub returns-in_err-v : goal.returns-in_err-v
returns-in_err-v c = rw c.from_residual.ensures (no_number _ c.digits_end-end.ensures (sym c.numeral.ensures ∙ c.in_err-v.was))

pub returns-then-text-end : goal.returns-then-text-end
returns-then-text-end c = nothing-follows _ c.digits_end-end.ensures (sym c.numeral.ensures ∙ c.in_ok-v.was) c.if-text-end.true

pub returns-then-text-end-2 : goal.returns-then-text-end-2
returns-then-text-end-2 c = other-follows _ c.digits_end-end.ensures (sym c.numeral.ensures ∙ c.in_ok-v.was) c.if-text-end.false c.if-text-end-2.true

pub returns : goal.returns
returns c = this-follows _ c.digits_end-end.ensures (sym c.numeral.ensures ∙ c.in_ok-v.was) c.if-text-end.false c.if-text-end-2.false
