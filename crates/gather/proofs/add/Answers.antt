-- `gather::add` meets its contract: the step gathers, and a block that it fills is written. Assumes nothing.
use Rattle.gather.specs.Kept.{lent}
use Rattle.gather.proofs.Pushes.{push_more, push-full}
use native.Mathlib.Omega.{arith}
use Rattle.gather.proofs.add.Goals as goal

pub returns-then-count-lt125 : goal.returns-then-count-lt125
returns-then-count-lt125 c =
    push_more c.args.out.now (lent c.args.block.now c.args.at) c.args.s c.requires c.put.new.block c.put.ensures (omega (arith, c.if-count-lt125.true))

pub returns : goal.returns
returns c =
    push-full c.args.out.now (lent c.args.block.now c.args.at) c.args.s c.requires c.put.new.block c.flush.new.out c.put.ensures
    (omega (arith, c.if-count-lt125.false)) c.flush.ensures c.flush.auto.out
