-- `searching::first_units` meets its contract: as `propagate`, over sets that stay empty. Assumes nothing.
use Rattle.searching.proofs.Jumps.{rested_starts, rested_looked, rested_conflict, stepped_blank, rested_stepped, conflict_blank, rested_done, rested_split}
use Rattle.searching.proofs.Searches.{looked, run-fresh, run_room}
use Rattle.moves.proofs.Moves.{picked_next}
use Rattle.rests.specs.Words.{sets_size}
use Rattle.rests.proofs.Held.{slots_zero}
use lib.ListN.{length}
use mathlib.Core.Path.{ap}
use native.Mathlib.Omega.{arith}
use Rattle.searching.proofs.first_units.Goals as goal

pub loop-u-init : goal.loop-u-init
loop-u-init c = (rested_starts c.requires.holds (slots_zero _ sets_size (omega (arith, c.requires.indexed.few))), c.pick-u.ensures.picks)

pub loop-u-smaller-then-u : goal.loop-u-smaller-then-u
loop-u-smaller-then-u c = let r = c.loop-u.invariant.0 in
    let e = (picked_next c.requires.indexed.few c.requires.goals r.run.holds (c.loop-u.invariant.1 c.if-u.true)).1 in
    omega (arith, run_room r.run c.requires.indexed.table c.requires.goals.below e, ap length c.join-u.ensures.work_after)

pub loop-u-preserved-then-u : goal.loop-u-preserved-then-u
loop-u-preserved-then-u c = let r = c.loop-u.invariant.0 in
    let e = (picked_next c.requires.indexed.few c.requires.goals r.run.holds (c.loop-u.invariant.1 c.if-u.true)).1 in
    let S = stepped_blank c.requires.indexed.few r.run.holds e c.join-u.ensures.holds_2 c.join-u.ensures.work_after in
    (rested_stepped r c.requires.indexed.table c.requires.goals.below S c.join-u.auto.work c.join-u.auto.masks, c.join-u.ensures.leads.picks)

pub returns-in-Conflict : goal.returns-in-Conflict
returns-in-Conflict c = let r = rested_looked c.loop-u.invariant.0 c.next_move-m.ensures.holds_2 c.next_move-m.ensures.work_unchanged c.next_move-m.auto.work in
    let e = looked r.run.holds c.next_move-m.ensures.value c.next_move-m.ensures.work_unchanged c.in-Conflict.is in
    rested_conflict r e (conflict_blank c.requires.indexed.few r.run.holds _)

pub assume-requires : goal.assume-requires
assume-requires c = let r = rested_looked c.loop-u.invariant.0 c.next_move-m.ensures.holds_2 c.next_move-m.ensures.work_unchanged c.next_move-m.auto.work in
    let g = c.in-Unit.is in
    let e = looked r.run.holds c.next_move-m.ensures.value c.next_move-m.ensures.work_unchanged g in
    record {
      indexed = c.requires.indexed;
      goals = c.requires.goals;
      holds = r.run.holds;
      fresh = run-fresh r.run c.requires.indexed.table c.requires.goals.below e;
    }

pub loop-u-smaller : goal.loop-u-smaller
loop-u-smaller c = let r = rested_looked c.loop-u.invariant.0 c.next_move-m.ensures.holds_2 c.next_move-m.ensures.work_unchanged c.next_move-m.auto.work in
    let g = c.in-Unit.is in
    let e = looked r.run.holds c.next_move-m.ensures.value c.next_move-m.ensures.work_unchanged g in
    omega (
      arith,
      run_room r.run c.requires.indexed.table c.requires.goals.below e,
      ap length c.assume.ensures.work_after,
      ap length
          c.next_move-m.ensures.work_unchanged,
    )

pub loop-u-preserved : goal.loop-u-preserved
loop-u-preserved c = let r = rested_looked c.loop-u.invariant.0 c.next_move-m.ensures.holds_2 c.next_move-m.ensures.work_unchanged c.next_move-m.auto.work in
    let g = c.in-Unit.is in
    let e = looked r.run.holds c.next_move-m.ensures.value c.next_move-m.ensures.work_unchanged g in
    let S = stepped_blank c.requires.indexed.few r.run.holds e c.assume.ensures.holds_2 c.assume.ensures.work_after in
    (rested_stepped r c.requires.indexed.table c.requires.goals.below S c.assume.auto.work c.assume.auto.masks, c.pick-u-in-Unit.ensures.picks)

pub returns-in-Done : goal.returns-in-Done
returns-in-Done c = let r = rested_looked c.loop-u.invariant.0 c.next_move-m.ensures.holds_2 c.next_move-m.ensures.work_unchanged c.next_move-m.auto.work in
    rested_done r (looked r.run.holds c.next_move-m.ensures.value c.next_move-m.ensures.work_unchanged c.in-Done.is)

pub returns-in-Split : goal.returns-in-Split
returns-in-Split c = let r = rested_looked c.loop-u.invariant.0 c.next_move-m.ensures.holds_2 c.next_move-m.ensures.work_unchanged c.next_move-m.auto.work in
    rested_split r (looked r.run.holds c.next_move-m.ensures.value c.next_move-m.ensures.work_unchanged c.in-Split.is)
