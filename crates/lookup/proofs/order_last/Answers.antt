-- `lookup::order_last` meets its contract. Assumes nothing.
use Prim.Native.Nat.{◌/◌}
use borrow.Author.Tests.{lt-ltb, le-ltb}
use Rattle.scope.specs.Table.{with_operands}
use Rattle.scope.specs.Calls.{placed}
use Rattle.lookup.proofs.order_last.Goals as goal

pub returns-then-x : goal.returns-then-x
unfolding with_operands placed
returns-then-x c = let x = c.args.x in
    rw (le-ltb (x.c / 2) (x.b / 2) c.if-x.true)

pub returns : goal.returns
unfolding with_operands placed
returns c = let x = c.args.x in
    rw (lt-ltb (x.c / 2) (x.b / 2) c.if-x.false)
