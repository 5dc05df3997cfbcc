-- `asking::rows` meets its contract: the row on the list, then rows 20, 21 and 23. Assumes nothing.
use mathlib.Core.Path.{◌∙◌, ap, sym}
use Rattle.scope.specs.Outcome.{verdict_of}
use Rattle.scope.proofs.Tests.{handed_on}
use Rattle.asking.proofs.Answers.{row_list, row-goals, row-lent}
use Rattle.asking.proofs.rows.Goals as goal

pub returns-in_err-listed : goal.returns-in_err-listed
returns-in_err-listed c = handed_on (λ u. u) _ c.from_residual.ensures.1 ∙ sym (row_list _ _ _ _ _ _ (ap verdict_of c.in_err-listed.was))

pub returns-in_err-goal_rows : goal.returns-in_err-goal_rows
returns-in_err-goal_rows c =
    handed_on (λ u. u) _ c.from_residual-in_err-goal_rows.ensures.1
    ∙ sym (row-goals _ _ _ _ _ _ (ap verdict_of c.in_ok-listed.was) (sym c.in_err-goal_rows.ensures))

pub returns : goal.returns
returns c = c.lent_rows.ensures ∙ sym (row-lent _ _ _ _ _ _ (ap verdict_of c.in_ok-listed.was) (sym c.in_ok-goal_rows.ensures))
