-- `record::read_record` meets its contract: it ends at the row at which `read_record` does. Assumes nothing.
use mathlib.Core.Path.{◌∙◌, sym}
use Rattle.record.proofs.Rows.{row_14, row_15, row_16, no_row}
use Rattle.record.proofs.read_record.Goals as goal

pub returns-then-not-form_ok : goal.returns-then-not-form_ok
returns-then-not-form_ok c = row_14 _ _
    c.fields-x.ensures
    (sym c.form_ok.ensures ∙ c.if-not-form_ok.true)

pub returns-then-not-range_ok : goal.returns-then-not-range_ok
returns-then-not-range_ok c = row_15 _ _
    c.fields-x.ensures
    (sym c.form_ok.ensures ∙ c.if-not-form_ok.false)
    (sym c.range_ok.ensures ∙ c.if-not-range_ok.true)

pub returns-then-not-order_ok : goal.returns-then-not-order_ok
returns-then-not-order_ok c = row_16 _ _
    c.fields-x.ensures
    (sym c.form_ok.ensures ∙ c.if-not-form_ok.false)
    (sym c.range_ok.ensures ∙ c.if-not-range_ok.false)
    (sym c.order_ok.ensures ∙ c.if-not-order_ok.true)

pub returns : goal.returns
returns c = no_row _ _
    c.fields-x.ensures
    (sym c.form_ok.ensures ∙ c.if-not-form_ok.false)
    (sym c.range_ok.ensures ∙ c.if-not-range_ok.false)
    (sym c.order_ok.ensures ∙ c.if-not-order_ok.false)
