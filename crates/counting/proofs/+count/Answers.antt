-- `counting::count` meets its contract: at each return the laws of Counts say what the search and its count came to.
-- The measure is the number of undecided nodes. Assumes nothing.
use native.Mathlib.Omega.{arith}
use Rattle.state.proofs.Idle.{split_idle}
use Rattle.searching.proofs.Searches.{fork_fresh, fork_less, undo-less, undo-splits, right-fresh, right-list, forked}
use Rattle.counting.proofs.Counts.{ended_closed, ended_open, left_open, left-low, right-tallied}
use Rattle.counting.proofs.+count.Goals as goal

pub fork-a-requires-clause-fresh : goal.fork-a-requires-clause-fresh
fork-a-requires-clause-fresh t c = let f = forked c.units-told.ensures.settled c.requires.indexed.table c.requires.goals.below c.in-Fork.is in
    let H = c.units-told.ensures.settled.holds in
    (fork_fresh f, split_idle H (_, f.splits))

pub count-requires : goal.count-requires
count-requires t c = let f = forked c.units-told.ensures.settled c.requires.indexed.table c.requires.goals.below c.in-Fork.is in (
  omega (arith, fork_less f c.fork-a.ensures.work_after),
  (
    c.requires.indexed,
    (c.requires.goals, (c.fork-a.ensures.holds_2, (c.units-told.ensures.low, c.fork-a.ensures.leads.picks))),
  ),
)

pub undo_to-requires : goal.undo_to-requires
undo_to-requires t c = let f = forked c.units-told.ensures.settled c.requires.indexed.table c.requires.goals.below c.in-Fork.is in
    let h = c.count-held.ensures in
    let q = c.fork-a.ensures.work_after in
    let x = c.count.ensures.searched.grows in
    record {
      indexed = c.requires.indexed;
      goals = c.requires.goals;
      holds = c.count.ensures.searched.holds;
      held_in_bounds = undo-less f h q x;
      splits = undo-splits f h q x;
    }

pub negated-requires : goal.negated-requires
negated-requires t c = let f = forked c.units-told.ensures.settled c.requires.indexed.table c.requires.goals.below c.in-Fork.is in
    omega (arith, (fork_fresh f).0, c.requires.indexed.few)

pub fork-b-requires-clause-fresh : goal.fork-b-requires-clause-fresh
fork-b-requires-clause-fresh t c = let f = forked c.units-told.ensures.settled c.requires.indexed.table c.requires.goals.below c.in-Fork.is in
    let x = c.count.ensures.searched.grows in
    let h = c.count-held.ensures in
    let q = c.fork-a.ensures.work_after in (
      right-fresh f h q x c.undo_to.ensures.work_after c.negated.ensures,
      split_idle c.undo_to.ensures.holds_2
          (rw c.undo_to.ensures.work_after (undo-splits f h q x)),
    )

pub count-requires-in-Fork : goal.count-requires-in-Fork
count-requires-in-Fork t c = let f = forked c.units-told.ensures.settled c.requires.indexed.table c.requires.goals.below c.in-Fork.is in
    let x = c.count.ensures.searched.grows in
    let d = right-list f c.count-held.ensures c.fork-a.ensures.work_after x c.undo_to.ensures.work_after c.negated.ensures
    c.fork-b.ensures.work_after in
    let low = left-low c.units-told.ensures c.requires.indexed.table c.requires.goals.below c.in-Fork.is c.fork-a.ensures.work_after c.count.ensures
    c.in_ok-left-in-Fork.was in
    (omega (arith, fork_less f d), (c.requires.indexed, (c.requires.goals, (c.fork-b.ensures.holds_2, (low, c.fork-b.ensures.leads.picks)))))

pub returns-in-Closed : goal.returns-in-Closed
returns-in-Closed t c = ended_closed c.units-told.ensures c.in-Closed.is

pub returns-in-Model : goal.returns-in-Model
returns-in-Model t c = ended_open c.units-told.ensures c.in-Model.is

pub returns-in_err-left-in-Fork : goal.returns-in_err-left-in-Fork
returns-in_err-left-in-Fork t c = rw c.from_residual.ensures (left_open c.units-told.ensures c.requires.indexed.table c.requires.goals.below
    c.in-Fork.is c.fork-a.ensures.work_after c.count.ensures c.in_err-left-in-Fork.was)

pub returns-in_ok-left-in-Fork : goal.returns-in_ok-left-in-Fork
returns-in_ok-left-in-Fork t c = let f = forked c.units-told.ensures.settled c.requires.indexed.table c.requires.goals.below c.in-Fork.is in
    let x = c.count.ensures.searched.grows in
    let d = right-list f c.count-held.ensures c.fork-a.ensures.work_after x c.undo_to.ensures.work_after c.negated.ensures
    c.fork-b.ensures.work_after in
    let a = c.units-told.ensures in
    let e = c.in-Fork.is in
    right-tallied a c.requires.indexed.table c.requires.goals.below e c.fork-a.ensures.work_after c.count.ensures c.in_ok-left-in-Fork.was d
    c.count-in-Fork.ensures
