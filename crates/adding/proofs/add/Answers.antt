-- `adding::add` meets its contract: row 9, the rows of the used part, then the record. Assumes nothing.
use mathlib.Core.Path.{sym, refl}
use Rattle.std.specs.Prelude.{Err}
use Rattle.scope.proofs.Tests.{handed_on}
use Rattle.adding.proofs.Rows.{refuses, row_9, used-rows}
use Rattle.adding.proofs.add.Goals as goal

pub returns-then-buf-used : goal.returns-then-buf-used
returns-then-buf-used c =
    let done = refuses c.args.buf.now _ _ (Err (record { number = 9; place = 0 })) refl (row_9 _ _ _ c.if-buf-used.true) in
    record { answered = done.0; bytes = done.1 }

pub returns-in_err-nodes : goal.returns-in_err-nodes
returns-in_err-nodes c =
    let done = refuses c.args.buf.now _ _ c.from_residual.result (handed_on (λ m. m) _ c.from_residual.ensures.1)
    (used-rows _ _ _ c.if-buf-used.false (sym c.in_err-nodes.ensures)) in
    record { answered = done.0; bytes = done.1 }

pub add_record-requires : goal.add_record-requires
add_record-requires c = (c.if-buf-used.false, sym c.in_ok-nodes.ensures)
