-- `clashing::narrow` meets its contract: before each turn, what is left of the walk gives what all of it does. Assumes nothing.
use mathlib.Core.Path.{refl, sym, ap, ◌∙◌}
use Prim.Native.Nat.{◌+◌, ◌<◌, ◌≤◌}
use native.Mathlib.Omega.{arith}
use lib.ListN.{length}
use Rattle.calculus.specs.Model.{most_goals}
use Rattle.index.specs.Index.{index_node}
use Rattle.questions.specs.Asking.{asks}
use Rattle.clashing.specs.Clashes.{counted_kept}
use Rattle.clashing.proofs.Turns.{narrowing_none, ends-in, asking, tested, turn-passes, turn-waits, turn-room, turn-keeps, turn-none}
use borrow.Author.Rules.{rules}
use Rattle.clashing.proofs.narrow.Goals as goal

pub copy-requires : goal.copy-requires
copy-requires c = (c.requires.passed.most, search rules)

pub hint-enough-requires : goal.hint-enough-requires
hint-enough-requires c = record {
  area_in_bounds = c.requires.ready.0.size;
  kept_le_most_goals = (omega arith, c.requires.passed.most);
}

pub loop-i-init : goal.loop-i-init
loop-i-init c = ((c.requires.ready, refl), (narrowing_none _ _ _ (search rules) c.copy.ensures, (omega arith, c.requires.passed.most)))

pub guess-m-requires : goal.guess-m-requires
guess-m-requires c = (c.if-floor-i.true, c.loop-i.invariant.1.1.0, c.loop-i.invariant.1.1.1)

pub slice_bounds-refute-start : goal.slice_bounds-refute-start
slice_bounds-refute-start c =
    let within : (c.loop-i.first ≤ most_goals + c.guess-m.result) × (most_goals + c.guess-m.result ≤ length c.loop-i.list) = ends-in c.requires.passed c.loop-i.invariant.1.0.walked c.guess-m.ensures.1 in
    omega (arith, within.0)

pub slice_bounds-refute-end : goal.slice_bounds-refute-end
slice_bounds-refute-end c =
    let within : (c.loop-i.first ≤ most_goals + c.guess-m.result) × (most_goals + c.guess-m.result ≤ length c.loop-i.list) = ends-in c.requires.passed c.loop-i.invariant.1.0.walked c.guess-m.ensures.1 in
    omega (arith, within.1)

pub refute-still-requires : goal.refute-still-requires
refute-still-requires c = let i = c.loop-i.invariant in
    record {
      indexed = c.requires.indexed;
      goals = asking c.requires.passed i.1.0.walked c.guess-m.ensures.1;
      ready = i.0.0;
    }

pub overflow_sub-first : goal.overflow_sub-first
overflow_sub-first c = omega (arith, c.loop-i.invariant.1.0.walked.held.within)

pub hint-enough-requires-then-still : goal.hint-enough-requires-then-still
hint-enough-requires-then-still c = let t = c.loop-i.invariant.1 in
    record {
      area_in_bounds = c.refute-still.ensures.ready_2.0.size;
      kept_le_most_goals = (omega arith, omega (arith, c.guess-m.ensures.1, t.1.0, t.1.1));
    }

pub loop-i-smaller-then-still : goal.loop-i-smaller-then-still
loop-i-smaller-then-still c = omega (arith, c.guess-m.ensures.1, c.loop-i.invariant.1.0.low)

pub loop-i-preserved-then-still : goal.loop-i-preserved-then-still
loop-i-preserved-then-still c = let t = c.loop-i.invariant.1 in
    let h = c.guess-m.ensures in (
      (c.refute-still.ensures.ready_2, search rules),
      (
        turn-passes c.requires.passed t.0 c.requires.grows h.1 h.0 (tested c.requires.passed t.0.walked h.1 (asks (index_node c.args.x.now) c.args.n) (sym c.if-still.true ∙ c.refute-still.ensures.value)),
        (omega (arith, t.1.0, h.1), t.1.1),
      ),
    )

pub loop-i-smaller-else-still : goal.loop-i-smaller-else-still
loop-i-smaller-else-still c = let h = c.guess-m.ensures in
    omega (arith, h.0, h.1, c.loop-i.invariant.1.0.low)

pub loop-i-preserved-else-still : goal.loop-i-preserved-else-still
loop-i-preserved-else-still c = let t = c.loop-i.invariant.1 in
    let h = c.guess-m.ensures in (
      (c.refute-still.ensures.ready_2, search rules),
      (
        turn-waits c.requires.passed t.0 c.requires.grows h.1 (tested c.requires.passed t.0.walked h.1 (asks (index_node c.args.x.now) c.args.n) (sym c.if-still.false ∙ c.refute-still.ensures.value)),
        t.1,
      ),
    )

pub overflow_sub-first-else-floor-i : goal.overflow_sub-first-else-floor-i
overflow_sub-first-else-floor-i c =
    let room : (0 < c.loop-i.first) × (c.loop-i.first ≤ most_goals) × (c.loop-i.i ≤ most_goals) = turn-room c.requires.passed c.loop-i.invariant.1.0 c.loop-i-test.true in
    omega (arith, room.0)

pub overflow_cast-kept : goal.overflow_cast-kept
overflow_cast-kept c =
    let room : (0 < c.loop-i.first) × (c.loop-i.first ≤ most_goals) × (c.loop-i.i ≤ most_goals) = turn-room c.requires.passed c.loop-i.invariant.1.0 c.loop-i-test.true in
    omega (arith, room.2)

pub bounds-kept-first : goal.bounds-kept-first
bounds-kept-first c =
    let room : (0 < c.loop-i.first) × (c.loop-i.first ≤ most_goals) × (c.loop-i.i ≤ most_goals) = turn-room c.requires.passed c.loop-i.invariant.1.0 c.loop-i-test.true in
    omega (arith, room.0, room.1)

pub bounds-goals-i : goal.bounds-goals-i
bounds-goals-i c = omega (arith, c.loop-i.invariant.1.0.walked.within)

pub bounds-list-first : goal.bounds-list-first
bounds-list-first c =
    let room : (0 < c.loop-i.first) × (c.loop-i.first ≤ most_goals) × (c.loop-i.i ≤ most_goals) = turn-room c.requires.passed c.loop-i.invariant.1.0 c.loop-i-test.true in
    omega (arith, room.0, room.1)

pub loop-i-smaller : goal.loop-i-smaller
loop-i-smaller c =
    let room : (0 < c.loop-i.first) × (c.loop-i.first ≤ most_goals) × (c.loop-i.i ≤ most_goals) = turn-room c.requires.passed c.loop-i.invariant.1.0 c.loop-i-test.true in
    omega (arith, room.2)

pub loop-i-preserved : goal.loop-i-preserved
loop-i-preserved c =
    let room : (0 < c.loop-i.first) × (c.loop-i.first ≤ most_goals) × (c.loop-i.i ≤ most_goals) = turn-room c.requires.passed c.loop-i.invariant.1.0 c.loop-i-test.true in
    let t = c.loop-i.invariant in
    let k = turn-keeps c.requires.passed t.1.0 c.loop-i-test.true (omega arith) in
    (t.0, (k, (omega arith, omega (arith, room.2))))

pub give-requires : goal.give-requires
give-requires c = c.loop-i.invariant.1.0.walked.held

pub shape_of-work : goal.shape_of-work
shape_of-work c = c.loop-i.invariant.0.1

pub returns : goal.returns
returns c = c.give.ensures ∙ ap counted_kept (turn-none (omega arith) c.loop-i.invariant.1.0)
