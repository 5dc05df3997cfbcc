-- `emitting::phase` meets its contract: before each turn the steps pushed and those that are due are the search's, and the unit picked is
-- the next move. The measure is the number of undecided nodes. Assumes nothing.
use mathlib.Core.Path.{refl, ap}
use lib.ListN.{length}
use Rattle.calculus.specs.declared.Move.TheVariants.{Unit as Single}
use Rattle.searching.proofs.Searches.{looked}
use Rattle.emitting.proofs.Runs.{run_starts, run_looked, conflict-space, run_conflict, run_done, run-fresh, run_room, unit-space, run-unit, split-space, run_split}
use native.Mathlib.Omega.{arith}
use Rattle.emitting.proofs.phase.Goals as goal

pub loop-u-init : goal.loop-u-init
loop-u-init c = (run_starts c.requires.holds c.requires.due, c.requires.picks)

pub on_clause-at-requires : goal.on_clause-at-requires
on_clause-at-requires c = let r = run_looked c.loop-u.invariant.0 c.unit_move-f.ensures.moved.holds_on c.unit_move-f.ensures.moved.list
    c.unit_move-f.auto.work in
    let e = looked r.holds c.unit_move-f.ensures.moved.is c.unit_move-f.ensures.moved.list refl in
    record {
      forms_value = c.requires.forms_value;
      indexed = c.requires.indexed;
      goals = c.requires.goals;
      ready = (r.holds.ready, r.holds.numbered);
      placed = c.unit_move-f.ensures.moved.kept;
      space = unit-space r c.requires.indexed.table c.requires.goals.below e;
    }

pub loop-u-smaller-then-u : goal.loop-u-smaller-then-u
loop-u-smaller-then-u c = let r = run_looked c.loop-u.invariant.0 c.unit_move-f.ensures.moved.holds_on c.unit_move-f.ensures.moved.list
    c.unit_move-f.auto.work in
    let e = looked r.holds c.unit_move-f.ensures.moved.is c.unit_move-f.ensures.moved.list refl in
    omega (
      arith,
      run_room r c.requires.indexed.table c.requires.goals.below e,
      ap length c.join-u.ensures.work_after,
      ap length
          c.unit_move-f.ensures.moved.list,
    )

pub loop-u-preserved-then-u : goal.loop-u-preserved-then-u
loop-u-preserved-then-u c = let r = run_looked c.loop-u.invariant.0 c.unit_move-f.ensures.moved.holds_on c.unit_move-f.ensures.moved.list
    c.unit_move-f.auto.work in
    let e = looked r.holds c.unit_move-f.ensures.moved.is c.unit_move-f.ensures.moved.list
    (ap (Single c.unit_move-f.result.number) c.unit_move-f.ensures.literal_value) in (
      run-unit r c.requires.indexed.table c.requires.goals.below e c.on_clause-at.ensures c.join-u.ensures.holds_2 c.join-u.ensures.work_after
          c.join-u.auto.work c.join-u.auto.masks,
      c.join-u.ensures.leads.picks,
    )

pub on_clause-at-requires-in-Conflict : goal.on_clause-at-requires-in-Conflict
on_clause-at-requires-in-Conflict c = let r = run_looked c.loop-u.invariant.0 c.next_move-m.ensures.holds_2 c.next_move-m.ensures.work_unchanged
    c.next_move-m.auto.work in
    let e = looked r.holds c.next_move-m.ensures.value c.next_move-m.ensures.work_unchanged c.in-Conflict.is in
    let k = rw c.in-Conflict.is at c.next_move-m.ensures.kept in
    record {
      forms_value = c.requires.forms_value;
      indexed = c.requires.indexed;
      goals = c.requires.goals;
      ready = (r.holds.ready, r.holds.numbered);
      placed = k;
      space = conflict-space r e;
    }

pub returns-in-Conflict : goal.returns-in-Conflict
returns-in-Conflict c = let r = run_looked c.loop-u.invariant.0 c.next_move-m.ensures.holds_2 c.next_move-m.ensures.work_unchanged c.next_move-m.auto.work in
    let e = looked r.holds c.next_move-m.ensures.value c.next_move-m.ensures.work_unchanged c.in-Conflict.is in
    run_conflict r e c.on_clause-at-in-Conflict.ensures

pub on_clause-at-requires-in-Unit : goal.on_clause-at-requires-in-Unit
on_clause-at-requires-in-Unit c = let r = run_looked c.loop-u.invariant.0 c.next_move-m.ensures.holds_2 c.next_move-m.ensures.work_unchanged
    c.next_move-m.auto.work in
    let e = looked r.holds c.next_move-m.ensures.value c.next_move-m.ensures.work_unchanged c.in-Unit.is in
    let k = rw c.in-Unit.is at c.next_move-m.ensures.kept in
    record {
      forms_value = c.requires.forms_value;
      indexed = c.requires.indexed;
      goals = c.requires.goals;
      ready = (r.holds.ready, r.holds.numbered);
      placed = k;
      space = unit-space r c.requires.indexed.table c.requires.goals.below e;
    }

pub assume-requires : goal.assume-requires
assume-requires c = let r = run_looked c.loop-u.invariant.0 c.next_move-m.ensures.holds_2 c.next_move-m.ensures.work_unchanged c.next_move-m.auto.work in
    let e = looked r.holds c.next_move-m.ensures.value c.next_move-m.ensures.work_unchanged c.in-Unit.is in
    record {
      indexed = c.requires.indexed;
      goals = c.requires.goals;
      holds = r.holds;
      fresh = run-fresh r c.requires.indexed.table c.requires.goals.below e;
    }

pub loop-u-smaller : goal.loop-u-smaller
loop-u-smaller c = let r = run_looked c.loop-u.invariant.0 c.next_move-m.ensures.holds_2 c.next_move-m.ensures.work_unchanged c.next_move-m.auto.work in
    let e = looked r.holds c.next_move-m.ensures.value c.next_move-m.ensures.work_unchanged c.in-Unit.is in
    omega (
      arith,
      run_room r c.requires.indexed.table c.requires.goals.below e,
      ap length c.assume.ensures.work_after,
      ap length
          c.next_move-m.ensures.work_unchanged,
    )

pub loop-u-preserved : goal.loop-u-preserved
loop-u-preserved c = let r = run_looked c.loop-u.invariant.0 c.next_move-m.ensures.holds_2 c.next_move-m.ensures.work_unchanged c.next_move-m.auto.work in
    let e = looked r.holds c.next_move-m.ensures.value c.next_move-m.ensures.work_unchanged c.in-Unit.is in (
      run-unit r c.requires.indexed.table c.requires.goals.below e c.on_clause-at-in-Unit.ensures c.assume.ensures.holds_2 c.assume.ensures.work_after
          c.assume.auto.work c.assume.auto.masks,
      c.pick-u.ensures.picks,
    )

pub returns-in-Done : goal.returns-in-Done
returns-in-Done c = let r = run_looked c.loop-u.invariant.0 c.next_move-m.ensures.holds_2 c.next_move-m.ensures.work_unchanged c.next_move-m.auto.work in
    absurd (run_done r (looked r.holds c.next_move-m.ensures.value c.next_move-m.ensures.work_unchanged c.in-Done.is))

pub on_split-at-requires : goal.on_split-at-requires
on_split-at-requires c = let r = run_looked c.loop-u.invariant.0 c.next_move-m.ensures.holds_2 c.next_move-m.ensures.work_unchanged c.next_move-m.auto.work in
    let e = looked r.holds c.next_move-m.ensures.value c.next_move-m.ensures.work_unchanged c.in-Split.is in
    split-space r c.requires.indexed.table c.requires.goals.below e

pub returns-in-Split : goal.returns-in-Split
returns-in-Split c = let r = run_looked c.loop-u.invariant.0 c.next_move-m.ensures.holds_2 c.next_move-m.ensures.work_unchanged c.next_move-m.auto.work in
    let e = looked r.holds c.next_move-m.ensures.value c.next_move-m.ensures.work_unchanged c.in-Split.is in
    run_split r c.requires.indexed.table c.requires.goals.below e c.on_split-at.ensures
