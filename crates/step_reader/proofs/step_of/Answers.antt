-- `step_reader::step_of` meets its contract: row 40, the rows of one block, the step. Assumes nothing.
use mathlib.Core.Path.{◌∙◌, ap, sym}
use native.Mathlib.Omega.{arith}
use Rattle.steps.specs.Opened.{block_row}
use Rattle.steps.proofs.Form.{whole-blocks}
use Rattle.step_reader.proofs.Steps.{within}
use Rattle.step_reader.proofs.step_of.Goals as goal

pub block_of-requires : goal.block_of-requires
block_of-requires c = (whole-blocks _ (sym c.size_ok.ensures ∙ c.if-not-size_ok.false)).0

pub block_verdict-requires : goal.block_verdict-requires
block_verdict-requires c = omega (arith, c.block_of.ensures, (whole-blocks _ (sym c.size_ok.ensures ∙ c.if-not-size_ok.false)).0)

pub counted_step-requires : goal.counted_step-requires
counted_step-requires c =
    let size = sym c.size_ok.ensures ∙ c.if-not-size_ok.false in
    record {
      nonzero = (whole-blocks _ size).0;
      at_in_bounds = within _ _ size (ap (block_row _) (sym c.block_of.ensures) ∙ sym c.in_ok-block_verdict.ensures);
    }
