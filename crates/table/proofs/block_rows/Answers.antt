-- `table::block_rows` meets its contract: the block's own test, then its records. Assumes nothing.
use mathlib.Core.Path.{sym, refl}
use Rattle.scope.specs.Table.{tables}
use Rattle.scope.proofs.Tests.{handed_on}
use Rattle.scope.proofs.Records.{block_tested}
use Rattle.table.proofs.Rows.{refuses, count_most, within, block_refused, block_entered}
use native.Mathlib.Omega.{arith}
use Rattle.table.proofs.block_rows.Goals as goal

pub returns-in_err-test : goal.returns-in_err-test
returns-in_err-test c =
    refuses _ _ _ _ _ (handed_on (λ u. u) _ c.from_residual.ensures.1)
    (block_refused c.args.t.now c.args.j (sym (block_tested _ tables c.args.t.now c.args.j _ c.tables.ensures c.in_err-test.ensures)))

pub records-requires : goal.records-requires
records-requires c =
    let passes = sym (block_tested _ tables c.args.t.now c.args.j _ c.tables.ensures c.in_ok-test.ensures) in
    let most = count_most c.args.t.now c.args.j passes in
    record {
      base_value = (omega arith, omega arith, omega (arith, most), omega (arith, c.requires.0, most));
      by_index = (λ n h. within c.args.t.now c.args.j n c.requires.1 (omega (arith, h, most)), c.requires.2);
    }

pub returns : goal.returns
returns c =
    let passes = sym (block_tested _ tables c.args.t.now c.args.j _ c.tables.ensures c.in_ok-test.ensures) in
    block_entered c.args.t.now c.args.j _ _ _ passes refl c.records.ensures
