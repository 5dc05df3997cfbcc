-- `emitting::emit` meets its contract: the steps of a phase, then those of the left branch and of the right. The measure is the number
-- of undecided nodes. Assumes nothing.
use native.Mathlib.Omega.{arith}
use Rattle.state.proofs.Idle.{split_idle}
use Rattle.searching.proofs.Searches.{fork_fresh, fork_less, undo-less, undo-splits, right-fresh, right-list}
use Rattle.emitting.proofs.Runs.{emitted_closed, forked, left-due, right-due, emitted-fork}
use Rattle.emitting.proofs.+emit.Goals as goal

pub fork-v-requires-clause-fresh : goal.fork-v-requires-clause-fresh
fork-v-requires-clause-fresh t c = let r = c.phase-a.ensures in
    let e = c.in-Some.is in
    let f = forked r c.requires.indexed.table c.requires.goals.below e in
    (fork_fresh f, split_idle r.holds (_, f.splits))

pub emit-b-requires : goal.emit-b-requires
emit-b-requires t c = let r = c.phase-a.ensures in
    let e = c.in-Some.is in
    let f = forked r c.requires.indexed.table c.requires.goals.below e in
    let q = c.fork-v.ensures.work_after in
    let d = left-due r c.requires.indexed.table c.requires.goals.below e c.requires.due.space q in (
      omega (arith, fork_less f q),
      (
        c.requires.forms_value,
        (
          c.requires.indexed,
          (c.requires.goals, (c.fork-v.ensures.holds_2, (d, c.fork-v.ensures.leads.picks))),
        ),
      ),
    )

pub undo_to-requires : goal.undo_to-requires
undo_to-requires t c = let r = c.phase-a.ensures in
    let e = c.in-Some.is in
    let f = forked r c.requires.indexed.table c.requires.goals.below e in
    let h = c.count-held.ensures in
    let q = c.fork-v.ensures.work_after in
    let x = c.emit-b.ensures.grows in
    record {
      indexed = c.requires.indexed;
      goals = c.requires.goals;
      holds = c.emit-b.ensures.holds;
      held_in_bounds = undo-less f h q x;
      splits = undo-splits f h q x;
    }

pub negated-requires : goal.negated-requires
negated-requires t c = let r = c.phase-a.ensures in
    let e = c.in-Some.is in
    let f = forked r c.requires.indexed.table c.requires.goals.below e in
    omega (arith, (fork_fresh f).0, c.requires.indexed.few)

pub fork-w-requires-clause-fresh : goal.fork-w-requires-clause-fresh
fork-w-requires-clause-fresh t c = let r = c.phase-a.ensures in
    let e = c.in-Some.is in
    let f = forked r c.requires.indexed.table c.requires.goals.below e in
    let h = c.count-held.ensures in
    let q = c.fork-v.ensures.work_after in
    let x = c.emit-b.ensures.grows in (
      right-fresh f h q x c.undo_to.ensures.work_after c.negated.ensures,
      split_idle c.undo_to.ensures.holds_2
          (rw c.undo_to.ensures.work_after (undo-splits f h q x)),
    )

pub emit-requires : goal.emit-requires
emit-requires t c = let r = c.phase-a.ensures in
    let e = c.in-Some.is in
    let f = forked r c.requires.indexed.table c.requires.goals.below e in
    let q = c.fork-v.ensures.work_after in
    let a = c.emit-b.ensures in
    let y = right-list f c.count-held.ensures q a.grows c.undo_to.ensures.work_after c.negated.ensures c.fork-w.ensures.work_after in
    let d = right-due r c.requires.indexed.table c.requires.goals.below e c.requires.due.space q a y in (
      omega (arith, fork_less f y),
      (
        c.requires.forms_value,
        (
          c.requires.indexed,
          (c.requires.goals, (c.fork-w.ensures.holds_2, (d, c.fork-w.ensures.leads.picks))),
        ),
      ),
    )

pub returns-in_default : goal.returns-in_default
returns-in_default t c = emitted_closed c.phase-a.ensures c.in_default.is

pub returns : goal.returns
returns t c = let r = c.phase-a.ensures in
    let e = c.in-Some.is in
    let f = forked r c.requires.indexed.table c.requires.goals.below e in
    let q = c.fork-v.ensures.work_after in
    let a = c.emit-b.ensures in
    let y = right-list f c.count-held.ensures q a.grows c.undo_to.ensures.work_after c.negated.ensures c.fork-w.ensures.work_after in
    emitted-fork r c.requires.indexed.table c.requires.goals.below e c.requires.due.space q a y c.emit.ensures
