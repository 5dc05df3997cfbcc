-- `deriver::produce` meets its contract: the laws of Produces say what counting and writing came to. Assumes nothing.
use native.Mathlib.Omega.{arith}
use Rattle.deriver.proofs.Produces.{produced-open, produced-over, produced-steps}
use Rattle.deriver.proofs.produce.Goals as goal

pub returns-then-most-steps : goal.returns-then-most-steps
returns-then-most-steps c = produced-over _ _ _ _ _ c.start.ensures.work_after c.room-most.ensures c.count-counted.ensures c.in-Some.is (omega arith)

pub returns-in_default : goal.returns-in_default
returns-in_default c = produced-open _ _ _ _ _ c.start.ensures.work_after c.room-most.ensures c.count-counted.ensures c.in_default.is

pub returns : goal.returns
returns c =
    produced-steps _ _ _ _ _ c.start.ensures.work_after c.room-most.ensures c.count-counted.ensures c.in-Some.is (omega (arith, c.if-most-steps.false))
    c.start-2.new.work c.start-2.ensures.work_after c.write.ensures
