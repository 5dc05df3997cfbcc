-- `counting::units` meets its contract: before each turn the search and the count go on as from the start, and the unit picked is the next
-- move. The measure is the number of undecided nodes. Assumes nothing.
use mathlib.Core.Path.{refl, ap}
use native.Mathlib.Omega.{arith}
use lib.ListN.{length}
use Rattle.calculus.specs.declared.Move.TheVariants.{Unit as Single}
use Rattle.searching.proofs.Searches.{placed_there, looked, run-fresh, run_room}
use Rattle.counting.proofs.Counts.{counting_starts, counting_looked, counting_conflict, counting_done, counting-split, counting-unit}
use Rattle.counting.proofs.Sizes.{sized_on}
use Rattle.counting.proofs.units.Goals as goal

pub loop-u-init : goal.loop-u-init
loop-u-init c = (counting_starts c.requires.holds c.requires.s_le_cap, c.requires.picks)

pub size_in-size-requires-clause-placed : goal.size_in-size-requires-clause-placed
size_in-size-requires-clause-placed c = let v = c.unit_move.ensures.moved in
    placed_there v.kept

pub loop-u-smaller-then-u : goal.loop-u-smaller-then-u
loop-u-smaller-then-u c = let r = counting_looked c.loop-u.invariant.0 c.unit_move.ensures.moved.holds_on c.unit_move.ensures.moved.list
    c.unit_move.auto.work in
    let e = looked r.run.holds c.unit_move.ensures.moved.is c.unit_move.ensures.moved.list refl in
    omega (
      arith,
      run_room r.run c.requires.indexed.table c.requires.goals.below e,
      ap length c.join-u.ensures.work_after,
      ap length
          c.unit_move.ensures.moved.list,
    )

pub loop-u-preserved-then-u : goal.loop-u-preserved-then-u
loop-u-preserved-then-u c = let r = counting_looked c.loop-u.invariant.0 c.unit_move.ensures.moved.holds_on c.unit_move.ensures.moved.list
    c.unit_move.auto.work in
    let e = looked r.run.holds c.unit_move.ensures.moved.is c.unit_move.ensures.moved.list
    (ap (Single c.unit_move.result.number) c.unit_move.ensures.literal_value) in
    let z = sized_on c.unit_move.ensures.moved.kept c.size_in-size.ensures in (
      counting-unit r c.requires.indexed.table c.requires.goals.below e z c.capped-count.ensures c.join-u.ensures.holds_2 c.join-u.ensures.work_after
          c.join-u.auto.work c.join-u.auto.masks,
      c.join-u.ensures.leads.picks,
    )

pub size_in-size-requires-in-Conflict : goal.size_in-size-requires-in-Conflict
size_in-size-requires-in-Conflict c = let k = rw c.in-Conflict.is at c.next_move-m.ensures.kept in
    record {
      indexed = c.requires.indexed;
      ready = (c.next_move-m.ensures.holds_2.ready, c.next_move-m.ensures.holds_2.numbered);
      placed = placed_there k;
      free_bound = omega arith;
    }

pub returns-in-Conflict : goal.returns-in-Conflict
returns-in-Conflict c = let r = counting_looked c.loop-u.invariant.0 c.next_move-m.ensures.holds_2 c.next_move-m.ensures.work_unchanged
    c.next_move-m.auto.work in
    let e = looked r.run.holds c.next_move-m.ensures.value c.next_move-m.ensures.work_unchanged c.in-Conflict.is in
    let k = rw c.in-Conflict.is at c.next_move-m.ensures.kept in
    counting_conflict r e (sized_on k c.size_in-size-in-Conflict.ensures) c.capped-count-in-Conflict.ensures

pub size_in-size-requires-in-Unit : goal.size_in-size-requires-in-Unit
size_in-size-requires-in-Unit c = let k = rw c.in-Unit.is at c.next_move-m.ensures.kept in
    record {
      indexed = c.requires.indexed;
      ready = (c.next_move-m.ensures.holds_2.ready, c.next_move-m.ensures.holds_2.numbered);
      placed = placed_there k;
      free_bound = omega arith;
    }

pub assume-requires : goal.assume-requires
assume-requires c = let r = counting_looked c.loop-u.invariant.0 c.next_move-m.ensures.holds_2 c.next_move-m.ensures.work_unchanged c.next_move-m.auto.work in
    let e = looked r.run.holds c.next_move-m.ensures.value c.next_move-m.ensures.work_unchanged c.in-Unit.is in
    record {
      indexed = c.requires.indexed;
      goals = c.requires.goals;
      holds = r.run.holds;
      fresh = run-fresh r.run c.requires.indexed.table c.requires.goals.below e;
    }

pub loop-u-smaller : goal.loop-u-smaller
loop-u-smaller c = let r = counting_looked c.loop-u.invariant.0 c.next_move-m.ensures.holds_2 c.next_move-m.ensures.work_unchanged c.next_move-m.auto.work in
    let e = looked r.run.holds c.next_move-m.ensures.value c.next_move-m.ensures.work_unchanged c.in-Unit.is in
    omega (
      arith,
      run_room r.run c.requires.indexed.table c.requires.goals.below e,
      ap length c.assume.ensures.work_after,
      ap length
          c.next_move-m.ensures.work_unchanged,
    )

pub loop-u-preserved : goal.loop-u-preserved
loop-u-preserved c = let r = counting_looked c.loop-u.invariant.0 c.next_move-m.ensures.holds_2 c.next_move-m.ensures.work_unchanged c.next_move-m.auto.work in
    let e = looked r.run.holds c.next_move-m.ensures.value c.next_move-m.ensures.work_unchanged c.in-Unit.is in
    let k = rw c.in-Unit.is at c.next_move-m.ensures.kept in
    let z = sized_on k c.size_in-size-in-Unit.ensures in (
      counting-unit r c.requires.indexed.table c.requires.goals.below e z c.capped-count-in-Unit.ensures c.assume.ensures.holds_2
          c.assume.ensures.work_after c.assume.auto.work c.assume.auto.masks,
      c.pick-u.ensures.picks,
    )

pub returns-in-Done : goal.returns-in-Done
returns-in-Done c = let r = counting_looked c.loop-u.invariant.0 c.next_move-m.ensures.holds_2 c.next_move-m.ensures.work_unchanged c.next_move-m.auto.work in
    counting_done r (looked r.run.holds c.next_move-m.ensures.value c.next_move-m.ensures.work_unchanged c.in-Done.is)

pub returns-in-Split : goal.returns-in-Split
returns-in-Split c = let r = counting_looked c.loop-u.invariant.0 c.next_move-m.ensures.holds_2 c.next_move-m.ensures.work_unchanged c.next_move-m.auto.work in
    let e = looked r.run.holds c.next_move-m.ensures.value c.next_move-m.ensures.work_unchanged c.in-Split.is in
    counting-split r c.requires.indexed.table c.requires.goals.below e c.capped-count-in-Split.ensures
