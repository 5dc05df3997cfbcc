-- `replaying::run` meets its contract: before each turn the search still runs, after as many turns. Assumes nothing.
use mathlib.Core.Path.{◌≡◌, refl, ap}
use native.Mathlib.Omega.{arith}
use Rattle.moves.proofs.Moves.{picked_next}
use Rattle.replaying.specs.Standing.{number_by}
use Rattle.replaying.proofs.Standings.{by-two, running_none, running_more, made_unit, made-over, turned-over, made_whole, turned-whole, made_stands}
use Rattle.replaying.proofs.run.Goals as goal

pub pick-u-requires : goal.pick-u-requires
pick-u-requires c = let H = c.requires.stands.holds in
    (H.ready.size, H.units)

pub loop-k-init : goal.loop-k-init
loop-k-init c = (running_none c.requires.stands, c.pick-u.ensures.picks)

pub join-u-requires : goal.join-u-requires
join-u-requires c = record {
  indexed = c.requires.indexed;
  goals = c.requires.goals;
  holds = c.loop-k.invariant.0.stands.holds;
  picked = c.loop-k.invariant.1 c.if-u.true;
}

pub loop-k-preserved-then-u : goal.loop-k-preserved-then-u
loop-k-preserved-then-u c = let g = c.loop-k.invariant.0 in
    let e = (picked_next c.requires.indexed.few c.requires.goals g.stands.holds (c.loop-k.invariant.1 c.if-u.true)).1 in
    let a = made_unit g.stands refl e c.join-u.ensures.holds_2 c.join-u.ensures.work_after in
    (running_more g a refl c.join-u.auto.work c.join-u.auto.masks refl, c.join-u.ensures.leads.picks)

pub turn-requires : goal.turn-requires
turn-requires c = record {
  indexed = c.requires.indexed;
  goals = c.requires.goals;
  stands = c.loop-k.invariant.0.stands;
}

pub returns-in_default : goal.returns-in_default
returns-in_default c = let g = c.loop-k.invariant.0 in
    let a = c.turn.ensures.made in
    record {
      made = made-over g a;
      turned = turned-over g a (λ e. c.in_default.not-Unfinished (by-two _ e)) c.loop-k-test.true;
      ready = c.turn.ensures.ready;
    }

pub pick-u-requires-in-Unfinished : goal.pick-u-requires-in-Unfinished
pick-u-requires-in-Unfinished c = let H = (made_stands _ c.turn.ensures.made (ap number_by c.in-Unfinished.is)).holds in
    (H.ready.size, H.units)

pub loop-k-preserved : goal.loop-k-preserved
loop-k-preserved c = let g = c.loop-k.invariant.0 in (
  running_more g c.turn.ensures.made (ap number_by c.in-Unfinished.is) c.turn.auto.work c.turn.auto.masks c.turn.auto.opens,
  c.pick-u-in-Unfinished.ensures.picks,
)

pub returns : goal.returns
returns c = let g = c.loop-k.invariant.0 in
    let e : c.loop-k.k ≡ c.args.most = omega (arith, c.loop-k.auto.k-end, c.loop-k-test.false) in
    record {
      made = rw e at (made_whole g);
      turned = rw e at (turned-whole g e);
      ready = g.stands.holds.ready;
    }
