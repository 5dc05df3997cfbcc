-- `searching::search` meets its contract: at each return the laws of Jumps say what the search came to.
-- The measure is the number of undecided nodes. Assumes nothing.
use mathlib.Core.Path.{sym, ap, ◌∙◌}
use Prim.Native.Nat.{suc}
use native.Mathlib.Numerals.{add-one}
use native.Mathlib.Omega.{arith}
use lib.ListN.{length}
use Rattle.state.proofs.Idle.{split_idle}
use Rattle.searching.proofs.Searches.{fork_fresh, fork_room, fork_less, undo-less, undo-splits, right-fresh, right-list}
use Rattle.searching.proofs.Jumps.{jump_forked, slot_there, closed_there, left-sets, right-sets, rests_on, jumps_closed, jumps_model, left-found, left-skips, right-jumps}
use Rattle.searching.proofs.+search.Goals as goal

pub put_only-requires : goal.put_only-requires
put_only-requires t c = let f = jump_forked c.propagate-stop.ensures c.args.d c.requires.indexed.table c.requires.goals.below c.in-Fork.is in
    let h = add-one c.count-held.result ∙ ap suc c.count-held.ensures in
    slot_there f c.propagate-stop.ensures.sets h

pub fork-first-requires-clause-fresh : goal.fork-first-requires-clause-fresh
fork-first-requires-clause-fresh t c = let f = jump_forked c.propagate-stop.ensures c.args.d c.requires.indexed.table c.requires.goals.below c.in-Fork.is in
    let H = c.propagate-stop.ensures.holds in
    (fork_fresh f, split_idle H (_, f.splits))

pub overflow_add-d : goal.overflow_add-d
overflow_add-d t c = let f = jump_forked c.propagate-stop.ensures c.args.d c.requires.indexed.table c.requires.goals.below c.in-Fork.is in
    omega (arith, c.requires.slots.1, f.grows.more, fork_room f, c.requires.indexed.few)

pub search-left-requires : goal.search-left-requires
search-left-requires t c = let f = jump_forked c.propagate-stop.ensures c.args.d c.requires.indexed.table c.requires.goals.below c.in-Fork.is in
    let h = add-one c.count-held.result ∙ ap suc c.count-held.ensures in
    let q = c.fork-first.ensures.work_after in
    let m = left-sets c.propagate-stop.ensures c.args.d f h c.put_only.ensures in (
      omega (arith, fork_less f q),
      (
        c.requires.indexed,
        (
          c.requires.goals,
          (c.fork-first.ensures.holds_2, (m, omega (arith, c.requires.slots.1, f.grows.more, ap length q), c.fork-first.ensures.leads)),
        ),
      ),
    )

pub without-requires : goal.without-requires
without-requires t c = closed_there c.search-left.ensures (add-one c.count.result ∙ ap suc c.count.ensures)

pub returns-then-without : goal.returns-then-without
returns-then-without t c = let f = jump_forked c.propagate-stop.ensures c.args.d c.requires.indexed.table c.requires.goals.below c.in-Fork.is in
    let h = add-one c.count-held.result ∙ ap suc c.count-held.ensures in
    let h₃ = add-one c.count.result ∙ ap suc c.count.ensures in
    left-skips c.propagate-stop.ensures c.args.d f h c.put_only.ensures (add-one c.args.d) c.fork-first.ensures.work_after c.search-left.ensures
    c.in-Closed-left.is h₃ (sym c.without.ensures ∙ c.if-without.true) c.one_more-then-without.ensures

pub undo_to-requires : goal.undo_to-requires
undo_to-requires t c = let f = jump_forked c.propagate-stop.ensures c.args.d c.requires.indexed.table c.requires.goals.below c.in-Fork.is in
    let a = c.search-left.ensures in
    let q = c.fork-first.ensures.work_after in
    record {
      indexed = c.requires.indexed;
      goals = c.requires.goals;
      holds = a.holds;
      held_in_bounds = undo-less f c.count-held.ensures q a.grows;
      splits = undo-splits f c.count-held.ensures q a.grows;
    }

pub put_less-requires : goal.put_less-requires
put_less-requires t c = let f = jump_forked c.propagate-stop.ensures c.args.d c.requires.indexed.table c.requires.goals.below c.in-Fork.is in
    let h = add-one c.count-held.result ∙ ap suc c.count-held.ensures in
    let h₃ = add-one c.count.result ∙ ap suc c.count.ensures in
    let a = c.search-left.ensures in
    record {
      there = (slot_there f a.sets h, closed_there a h₃);
      d_value = rests_on c.args.d _ (sym c.without.ensures ∙ c.if-without.false);
    }

pub negated-requires : goal.negated-requires
negated-requires t c = let f = jump_forked c.propagate-stop.ensures c.args.d c.requires.indexed.table c.requires.goals.below c.in-Fork.is in
    omega (arith, (fork_fresh f).0, c.requires.indexed.few)

pub fork-second-requires-clause-fresh : goal.fork-second-requires-clause-fresh
fork-second-requires-clause-fresh t c = let f = jump_forked c.propagate-stop.ensures c.args.d c.requires.indexed.table c.requires.goals.below c.in-Fork.is in
    let q = c.fork-first.ensures.work_after in
    let x = c.search-left.ensures.grows in
    let (l, e) = undo-splits f c.count-held.ensures q x in (
      right-fresh f c.count-held.ensures q x c.undo_to.ensures.work_after c.negated.ensures,
      split_idle c.undo_to.ensures.holds_2
          (l, rw c.undo_to.ensures.work_after e),
    )

pub overflow_add-d-in-Closed-left : goal.overflow_add-d-in-Closed-left
overflow_add-d-in-Closed-left t c = let f = jump_forked c.propagate-stop.ensures c.args.d c.requires.indexed.table c.requires.goals.below c.in-Fork.is in
    omega (arith, c.requires.slots.1, f.grows.more, fork_room f, c.requires.indexed.few)

pub search-right-requires : goal.search-right-requires
search-right-requires t c = let f = jump_forked c.propagate-stop.ensures c.args.d c.requires.indexed.table c.requires.goals.below c.in-Fork.is in
    let h = add-one c.count-held.result ∙ ap suc c.count-held.ensures in
    let h₃ = add-one c.count.result ∙ ap suc c.count.ensures in
    let a = c.search-left.ensures in
    let q = c.fork-first.ensures.work_after in
    let b = right-list f c.count-held.ensures q a.grows c.undo_to.ensures.work_after c.negated.ensures c.fork-second.ensures.work_after in
    let z = sym c.without.ensures ∙ c.if-without.false in
    let m = right-sets c.propagate-stop.ensures c.args.d f h c.put_only.ensures (add-one c.args.d) q a c.in-Closed-left.is h₃ z c.put_less.ensures in (
      omega (arith, fork_less f b),
      (
        c.requires.indexed,
        (
          c.requires.goals,
          (c.fork-second.ensures.holds_2, (m, omega (arith, c.requires.slots.1, f.grows.more, ap length b), c.fork-second.ensures.leads)),
        ),
      ),
    )

pub returns-in-Closed : goal.returns-in-Closed
returns-in-Closed t c = jumps_closed c.propagate-stop.ensures c.args.d c.in-Closed.is

pub returns-in-Model : goal.returns-in-Model
returns-in-Model t c = jumps_model c.propagate-stop.ensures c.args.d c.in-Model.is

pub returns-in-Model-left : goal.returns-in-Model-left
returns-in-Model-left t c = let f = jump_forked c.propagate-stop.ensures c.args.d c.requires.indexed.table c.requires.goals.below c.in-Fork.is in
    let h = add-one c.count-held.result ∙ ap suc c.count-held.ensures in
    left-found c.propagate-stop.ensures c.args.d f h c.put_only.ensures (add-one c.args.d) c.fork-first.ensures.work_after c.search-left.ensures
    c.in-Model-left.is c.one_more.ensures

pub returns-else-without : goal.returns-else-without
returns-else-without t c = let f = jump_forked c.propagate-stop.ensures c.args.d c.requires.indexed.table c.requires.goals.below c.in-Fork.is in
    let h = add-one c.count-held.result ∙ ap suc c.count-held.ensures in
    let h₃ = add-one c.count.result ∙ ap suc c.count.ensures in
    let a = c.search-left.ensures in
    let q = c.fork-first.ensures.work_after in
    let b = right-list f c.count-held.ensures q a.grows c.undo_to.ensures.work_after c.negated.ensures c.fork-second.ensures.work_after in
    let z = sym c.without.ensures ∙ c.if-without.false in
    rw c.with_left.ensures
    (right-jumps c.propagate-stop.ensures c.args.d f h c.put_only.ensures (add-one c.args.d) q a c.in-Closed-left.is h₃ z c.put_less.ensures b
    c.search-right.ensures)
