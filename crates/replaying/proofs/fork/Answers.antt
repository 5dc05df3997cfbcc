-- `replaying::fork` meets its contract: its literal joins, and the split is one more. Assumes nothing.
use Rattle.replaying.proofs.Standings.{joins-fresh, stack-room, left-follows, stands-forked}
use Rattle.replaying.proofs.fork.Goals as goal

pub push-requires : goal.push-requires
push-requires c = let s = c.requires.stands in
    (s.size, stack-room s c.requires.indexed.table c.requires.goals.below _ (left-follows s c.requires.work_value) c.requires.indexed.few)

pub assume-requires : goal.assume-requires
assume-requires c = let s = c.requires.stands in
    record {
      indexed = c.requires.indexed;
      goals = c.requires.goals;
      holds = s.holds;
      fresh = joins-fresh s c.requires.indexed.table c.requires.goals.below _ (left-follows s c.requires.work_value);
    }

pub returns : goal.returns
returns c = record {
  stands_2 = stands-forked c.requires.stands c.assume.ensures.holds_2 c.assume.ensures.work_after c.requires.work_value c.count-held.ensures
      c.push.auto.opens c.push.ensures;
  work_after = c.assume.ensures.work_after;
}
