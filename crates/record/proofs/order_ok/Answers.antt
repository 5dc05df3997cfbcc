-- `record::order_ok` meets its contract: each way through the code is a case of `order_ok`. Assumes nothing.
use Rattle.record.proofs.Cases.{order_leaf, order_imp, order-two, order-ab, order-bc}
use Rattle.record.proofs.order_ok.Goals as goal

pub returns-then-x-lt3 : goal.returns-then-x-lt3
returns-then-x-lt3 c = order_leaf _ c.if-x-lt3.true

pub returns-then-x-eq5 : goal.returns-then-x-eq5
returns-then-x-eq5 c = order_imp _ c.if-x-eq5.true

pub returns-then-x-lt7 : goal.returns-then-x-lt7
returns-then-x-lt7 c = order-two _ c.if-x-lt3.false c.if-x-eq5.false c.if-x-lt7.true

pub returns-then-x : goal.returns-then-x
returns-then-x c = order-ab _ c.if-x-lt3.false c.if-x-eq5.false c.if-x-lt7.false c.if-x.true

pub returns : goal.returns
returns c = order-bc _ c.if-x-lt3.false c.if-x-eq5.false c.if-x-lt7.false c.if-x.false
