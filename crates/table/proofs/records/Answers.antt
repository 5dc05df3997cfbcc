-- `table::records` meets its contract: what is left of the tests at n is the answer, and the nodes below n are in the chains.
-- Assumes nothing.
use mathlib.Core.Path.{◌≡◌, ◌∙◌, ap, sym}
use Rattle.scope.specs.Outcome.{verdict_of}
use Rattle.scope.specs.Table.{record_test}
use Rattle.scope.proofs.First.{stops, goes, done}
use Rattle.scope.proofs.Tests.{handed_on}
use Rattle.table.proofs.Rows.{refuses}
use native.Mathlib.Omega.{arith}
use Rattle.table.proofs.records.Goals as goal

pub returns-in_err-record_verdict : goal.returns-in_err-record_verdict
returns-in_err-record_verdict c =
    refuses _ _ _ _ _ (handed_on (λ u. u) _ c.from_residual.ensures.1)
    (sym c.loop-n.invariant.left
    ∙ stops _ _ _ _ _ c.loop-n-test.true (sym c.in_err-record_verdict.ensures.verdict))

pub loop-n-preserved : goal.loop-n-preserved
loop-n-preserved c = let v = c.record_verdict.ensures in
    let told = ap verdict_of c.in_ok-record_verdict.was in
    record { chained = v.entered told; left = sym (goes _ _ _ c.loop-n-test.true (sym v.verdict ∙ told)) ∙ c.loop-n.invariant.left }

pub returns : goal.returns
returns c = let inv = c.loop-n.invariant in
    let all = sym (done (record_test _) _ _ c.loop-n-test.false) ∙ inv.left in
    let e : c.args.end ≡ c.loop-n.n = omega (arith, c.requires.base_value, c.loop-n-test.false) in
    record { verdict = all; entered = λ _. rw e inv.chained }
