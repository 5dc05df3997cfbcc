-- `roomareas::take_up_all` meets its contract: before each turn the searches passed are taken up. Assumes nothing.
use native.Mathlib.Omega.{arith}
use Rattle.roomareas.proofs.Lends.{lendable}
use Rattle.roomareas.proofs.Sitting.{goal_below, taking_none, taking_more, taking_all}
use Rattle.roomareas.proofs.take_up_all.Goals as goal

pub loop-i-init : goal.loop-i-init
loop-i-init c = (omega arith, taking_none _ _ _ _ _ _ _)

pub take_up_at-requires : goal.take_up_at-requires
take_up_at-requires c = let k = c.loop-i.invariant.1 in
    let h = c.loop-i-test.true in
    record {
      indexed = c.requires.indexed;
      goal_bound = goal_below c.requires.goals h;
      lendable = lendable _ _ _ _ c.requires.roomy h k.work k.masks k.stacks;
    }

pub loop-i-preserved : goal.loop-i-preserved
loop-i-preserved c = let h = c.loop-i-test.true in (
  omega (arith, h),
  rw c.number.ensures (taking_more c.loop-i.invariant.1
      (omega (arith, h, c.requires.roomy.few, c.requires.roomy.verdicts)) c.take_up_at.ensures),
)

pub returns : goal.returns
returns c = taking_all c.loop-i.invariant.1 (omega (arith, c.loop-i-test.false, c.loop-i.invariant.0))
