-- `table::count_by` meets its contract: the last block's count, and all the others are full. Assumes nothing.
use mathlib.Core.Path.{◌∙◌, ap, sym}
use Rattle.scope.specs.Outcome.{answer}
use Rattle.scope.specs.Table.{tables}
use Rattle.scope.proofs.Tests.{handed_on}
use Rattle.scope.proofs.Records.{count_parts}
use Rattle.codec.proofs.Tables.{length_ok_lem}
use Rattle.table.proofs.Rows.{count_refused, count-fine}
use native.Mathlib.Omega.{arith}
use Rattle.table.proofs.count_by.Goals as goal

pub overflow_sub-full : goal.overflow_sub-full
overflow_sub-full c = omega (arith, length_ok_lem _ (λ i. (c.type_inv.t i).fits) (sym c.in_ok-verdict.ensures))

pub bounds-t-full : goal.bounds-t-full
bounds-t-full c = omega (arith, length_ok_lem _ (λ i. (c.type_inv.t i).fits) (sym c.in_ok-verdict.ensures))

pub returns : goal.returns
returns c = sym (count-fine _ (sym c.in_ok-verdict.ensures) ∙ ap answer (count_parts tables _))

pub returns-in_err-verdict : goal.returns-in_err-verdict
returns-in_err-verdict c = handed_on (λ n. n) _ c.from_residual.ensures.1 ∙ sym (count_refused _ (sym c.in_err-verdict.ensures))
