-- `area::emptied` meets its contract. The loop's invariant: what is left from slot s on is the answer. Assumes nothing.
use native.Mathlib.Omega.{arith}
use Rattle.area.proofs.Remains.{empty-not, empty_starts, empty-falls, empty-later, empty_ends}
use Rattle.area.proofs.emptied.Goals as goal

pub bounds-work-0 : goal.bounds-work-0
bounds-work-0 c = omega (arith, c.requires.size)

pub returns-then-work-k : goal.returns-then-work-k
returns-then-work-k c = empty-not c.args.work.now c.args.k c.if-work-k.true

pub overflow_add-k : goal.overflow_add-k
overflow_add-k c = omega (arith, c.requires.count, c.if-work-k.false)

pub base-end-requires : goal.base-end-requires
base-end-requires c = (c.requires.size, omega (arith, c.requires.count, c.if-work-k.false))

pub base-start-requires : goal.base-start-requires
base-start-requires c = (c.requires.size, omega (arith, c.requires.count, c.if-work-k.false))

pub loop-s-init : goal.loop-s-init
loop-s-init c = let w = c.args.work.now in
    let k = c.args.k in (
      omega (arith, c.base-end.ensures, c.requires.ends k (omega (arith, c.if-work-k.false))),
      empty_starts w k (omega (arith, c.if-work-k.false)) c.base-start.ensures
          c.base-end.ensures,
    )

pub strike_in-requires : goal.strike_in-requires
strike_in-requires c = (c.requires.size, omega (arith, c.loop-s.invariant.0, c.loop-s-test.true))

pub returns-then-strike_in-ne-NOTES : goal.returns-then-strike_in-ne-NOTES
returns-then-strike_in-ne-NOTES c = let w = c.args.work.now in
    let k = c.args.k in
    empty-falls w k c.loop-s.s c.base-end.result c.loop-s.invariant.1 c.loop-s-test.true c.strike_in.ensures c.if-strike_in-ne-NOTES.true

pub loop-s-preserved : goal.loop-s-preserved
loop-s-preserved c = let w = c.args.work.now in
    let k = c.args.k in (
      c.loop-s.invariant.0,
      empty-later w k c.loop-s.s c.base-end.result c.loop-s.invariant.1 c.loop-s-test.true c.strike_in.ensures
          c.if-strike_in-ne-NOTES.false,
    )

pub returns : goal.returns
returns c = let w = c.args.work.now in
    let k = c.args.k in
    empty_ends w k c.loop-s.s c.base-end.result c.loop-s.invariant.1 c.loop-s-test.false
