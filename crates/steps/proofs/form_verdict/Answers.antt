-- `steps::form_verdict` meets its contract: the length, then all blocks, then all steps. Assumes nothing.
use mathlib.Core.Path.{◌∙◌, sym}
use native.Mathlib.Omega.{arith}
use Rattle.steps.proofs.Form.{whole-blocks, steps_fit}
use Rattle.steps.proofs.form_verdict.Goals as goal

pub stated-requires : goal.stated-requires
stated-requires c = (whole-blocks _ (sym c.size_ok.ensures ∙ c.if-not-size_ok.false)).0

pub forms_verdict-requires : goal.forms_verdict-requires
forms_verdict-requires c =
    let most = steps_fit _ (whole-blocks _ (sym c.size_ok.ensures ∙ c.if-not-size_ok.false)).0 (sym c.in_ok-blocks_verdict.ensures) in
    omega (arith, most, c.stated.ensures)
