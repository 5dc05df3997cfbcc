-- `replaying::replay` meets its contract: before each turn the literals passed are held. Assumes nothing.
use mathlib.Core.Path.{refl}
use native.Mathlib.Omega.{arith}
use Rattle.moves.proofs.Moves.{picked_next}
use Rattle.replaying.proofs.Standings.{going_none, going_more, replay-stops, replay_ends, strayed-unit, went_picked}
use Rattle.replaying.proofs.Stacks.{oldest-first}
use Rattle.replaying.proofs.replay.Goals as goal

pub pick-u-requires : goal.pick-u-requires
pick-u-requires c = let H = c.requires.stands.holds in
    (H.ready.size, H.units)

pub loop-l-init : goal.loop-l-init
loop-l-init c = (omega arith, going_none c.requires.stands c.requires.work_value, c.pick-u.ensures.picks)

pub returns-then-u-l : goal.returns-then-u-l
returns-then-u-l c = let g = c.loop-l.invariant.1 in
    let e = (picked_next c.requires.indexed.few c.requires.goals g.stands.holds (c.loop-l.invariant.2 c.if-u.true)).1 in
    replay-stops g (oldest-first _ _ _ c.loop-l-test.true) (strayed-unit g.stands e c.if-u-l.true) (omega (arith, c.loop-l-test.true)) refl

pub join-u-requires : goal.join-u-requires
join-u-requires c = record {
  indexed = c.requires.indexed;
  goals = c.requires.goals;
  holds = c.loop-l.invariant.1.stands.holds;
  picked = c.loop-l.invariant.2 c.if-u.true;
}

pub loop-l-preserved-then-u : goal.loop-l-preserved-then-u
loop-l-preserved-then-u c = let g = c.loop-l.invariant.1 in
    let e = (picked_next c.requires.indexed.few c.requires.goals g.stands.holds (c.loop-l.invariant.2 c.if-u.true)).1 in
    let f = went_picked g.stands e c.if-u-l.false c.join-u.ensures.holds_2 c.join-u.ensures.work_after in (
      omega (arith, c.loop-l-test.true),
      going_more g (oldest-first _ _ _ c.loop-l-test.true) f refl c.join-u.auto.work c.join-u.auto.masks refl,
      c.join-u.ensures.leads.picks,
    )

pub follow-requires : goal.follow-requires
follow-requires c = record {
  indexed = c.requires.indexed;
  goals = c.requires.goals;
  stands = c.loop-l.invariant.1.stands;
}

pub returns-then-not-follow : goal.returns-then-not-follow
returns-then-not-follow c = replay-stops c.loop-l.invariant.1 (oldest-first _ _ _ c.loop-l-test.true) c.follow.ensures
    (omega (arith, c.loop-l-test.true)) c.if-not-follow.true

pub pick-u-requires-in-loop-l : goal.pick-u-requires-in-loop-l
pick-u-requires-in-loop-l c = let H = (c.follow.ensures.stands c.if-not-follow.false).holds in
    (H.ready.size, H.units)

pub loop-l-preserved : goal.loop-l-preserved
loop-l-preserved c = (
  omega (arith, c.loop-l-test.true),
  going_more c.loop-l.invariant.1
      (oldest-first _ _ _ c.loop-l-test.true) c.follow.ensures c.if-not-follow.false c.follow.auto.work c.follow.auto.masks c.follow.auto.opens,
  c.pick-u-in-loop-l.ensures.picks,
)

pub returns : goal.returns
returns c = replay_ends c.loop-l.invariant.1 (omega (arith, c.loop-l-test.false, c.loop-l.invariant.0))
