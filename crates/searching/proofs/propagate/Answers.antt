-- `searching::propagate` meets its contract: before each turn the jumping search from here is that from the start, and the unit that is
-- the next move, if any, is at hand. The measure is the number of undecided nodes. Assumes nothing.
use Rattle.searching.proofs.Jumps.{rested_starts, aimed_none, rested_concluded, aimed-grounded, aimed-closed, aimed-stepped, rested_stepped}
use Rattle.moves.proofs.Moves.{unit_on}
use Rattle.searching.proofs.Searches.{run_room}
use lib.ListN.{length}
use Prim.Native.Nat.{suc}
use native.Mathlib.Numerals.{add-one}
use mathlib.Core.Path.{ap, ◌∙◌}
use native.Mathlib.Omega.{arith}
use Rattle.searching.proofs.propagate.Goals as goal

pub loop-work-init : goal.loop-work-init
loop-work-init c = (rested_starts c.requires.holds c.requires.slots.0, c.requires.slots.1)

pub conclude-requires-clause-work_value : goal.conclude-requires-clause-work_value
conclude-requires-clause-work_value c = let (r, L) = c.loop-work.invariant in
    let A = c.aim-on.ensures in
    let f = aimed_none A c.if-on.true in
    (L.idle, f.1, L.none f.0 f.1)

pub returns-then-on : goal.returns-then-on
returns-then-on c = rested_concluded c.loop-work.invariant.0 c.conclude.result c.conclude.ensures c.conclude.auto.work

pub put_clause-requires : goal.put_clause-requires
put_clause-requires c = let (r, L) = c.loop-work.invariant in
    let H = r.run.holds in
    let to = add-one c.count.result ∙ ap suc c.count.ensures in
    record {
      indexed = c.requires.indexed;
      ready = (H.ready, H.numbered);
      grounded = aimed-grounded r c.requires.indexed.few c.requires.goals L.picks c.aim-on.ensures c.if-on.false to;
    }

pub returns-then-u : goal.returns-then-u
returns-then-u c = let (r, L) = c.loop-work.invariant in
    let to = add-one c.count.result ∙ ap suc c.count.ensures in
    aimed-closed r c.requires.indexed.few c.requires.goals L.picks c.aim-on.ensures c.if-on.false to c.put_clause.ensures c.if-u.true

pub loop-work-smaller : goal.loop-work-smaller
loop-work-smaller c = let (r, L) = c.loop-work.invariant in
    let e = (unit_on c.requires.indexed.few c.requires.goals r.run.holds (L.picks c.if-u.false)).next in
    omega (arith, run_room r.run c.requires.indexed.table c.requires.goals.below e, ap length c.join-u.ensures.work_after)

pub loop-work-preserved : goal.loop-work-preserved
loop-work-preserved c = let (r, L) = c.loop-work.invariant in
    let to = add-one c.count.result ∙ ap suc c.count.ensures in
    let S = aimed-stepped r c.requires.indexed.few c.requires.goals L.picks c.aim-on.ensures c.if-on.false to c.put_clause.ensures
    c.if-u.false c.join-u.ensures.holds_2 c.join-u.ensures.work_after in
    (rested_stepped r c.requires.indexed.table c.requires.goals.below S c.join-u.auto.work c.join-u.auto.masks, c.join-u.ensures.leads)
