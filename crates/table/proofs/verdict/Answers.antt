-- `table::verdict` meets its contract: what is left of the blocks at j is the answer, and the nodes before block j are in the chains.
-- Assumes nothing.
use mathlib.Core.Path.{◌∙◌, ap, sym}
use native.Mathlib.Nat.{sub-zero}
use Rattle.scope.specs.Outcome.{verdict_of}
use Rattle.scope.proofs.First.{stops, goes, done}
use Rattle.scope.proofs.Tests.{handed_on}
use Rattle.codec.proofs.Tables.{whole-blocks}
use Rattle.repeats.proofs.Chains.{no_chains}
use Rattle.table.proofs.Rows.{next_block, table_refused, table_rows}
use native.Mathlib.Omega.{arith}
use Rattle.table.proofs.verdict.Goals as goal

pub returns-then-not-length_ok : goal.returns-then-not-length_ok
returns-then-not-length_ok c = sym (table_refused _ (sym c.length_ok.ensures ∙ c.if-not-length_ok.true))

pub loop-j-init : goal.loop-j-init
loop-j-init c = record { chained = λ _. no_chains _ c.requires; left = simp sub-zero }

pub block_rows-requires : goal.block_rows-requires
block_rows-requires c =
    let size = whole-blocks _ (sym c.length_ok.ensures ∙ c.if-not-length_ok.false) in
    (omega (arith, size.2), omega (arith, size.1), c.loop-j.invariant.chained c.loop-j-test.true)

pub returns-in_err-block_rows : goal.returns-in_err-block_rows
returns-in_err-block_rows c = let inv = c.loop-j.invariant in
    handed_on (λ u. u) _ c.from_residual.ensures.1
    ∙ sym (stops _ _ _ _ _ c.loop-j-test.true (sym c.in_err-block_rows.ensures.verdict))
    ∙ inv.left
    ∙ sym (table_rows _ (sym c.length_ok.ensures ∙ c.if-not-length_ok.false))

pub loop-j-preserved : goal.loop-j-preserved
loop-j-preserved c = let inv = c.loop-j.invariant in
    let v = c.block_rows.ensures in
    let told = ap verdict_of c.in_ok-block_rows.was in
    let row = sym v.verdict ∙ told in
    record {
      chained = λ l. next_block _ _ _ row (v.entered told) l;
      left = sym (goes _ _ _ c.loop-j-test.true row) ∙ inv.left;
    }

pub returns : goal.returns
returns c = let inv = c.loop-j.invariant in
    sym (done _ _ _ c.loop-j-test.false) ∙ inv.left ∙ sym (table_rows _ (sym c.length_ok.ensures ∙ c.if-not-length_ok.false))
