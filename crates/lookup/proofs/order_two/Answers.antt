-- `lookup::order_two` meets its contract. Assumes nothing.
use Prim.Native.Nat.{◌/◌}
use borrow.Author.Tests.{lt-ltb, le-ltb}
use Rattle.codec.proofs.Normal.{ordered-two}
use Rattle.lookup.proofs.order_two.Goals as goal

pub returns-then-x : goal.returns-then-x
returns-then-x c = let x = c.args.x in
    rw (ordered-two x c.requires.0 c.requires.1, le-ltb (x.b / 2) (x.a / 2) c.if-x.true)

pub returns : goal.returns
returns c = let x = c.args.x in
    rw (ordered-two x c.requires.0 c.requires.1, lt-ltb (x.b / 2) (x.a / 2) c.if-x.false)
