-- `area::stands` meets its contract. The loop's invariant: what is left from slot s on is the answer. Assumes nothing.
use native.Mathlib.Omega.{arith}
use Rattle.area.proofs.Remains.{stands_not, stands_starts, stands_falls, stands_later, stands_ends}
use Rattle.area.proofs.stands.Goals as goal

pub bounds-work-0 : goal.bounds-work-0
bounds-work-0 c = omega (arith, c.requires.size)

pub returns-then-work-k : goal.returns-then-work-k
returns-then-work-k c = stands_not c.args.work.now c.args.k c.if-work-k.true

pub overflow_add-k : goal.overflow_add-k
overflow_add-k c = omega (arith, c.requires.count, c.if-work-k.false)

pub base-end-requires : goal.base-end-requires
base-end-requires c = (c.requires.size, omega (arith, c.requires.count, c.if-work-k.false))

pub base-start-requires : goal.base-start-requires
base-start-requires c = (c.requires.size, omega (arith, c.requires.count, c.if-work-k.false))

pub loop-s-init : goal.loop-s-init
loop-s-init c = let w = c.args.work.now in
    let k = c.args.k in (
      omega (arith, c.base-end.ensures, c.requires.ends k (omega (arith, c.if-work-k.false))),
      stands_starts w k (omega (arith, c.if-work-k.false)) c.base-start.ensures
          c.base-end.ensures,
    )

pub strike_in-requires : goal.strike_in-requires
strike_in-requires c = (c.requires.size, omega (arith, c.loop-s.invariant.0, c.loop-s-test.true))

pub returns-then-strike_in-ge-WHOLE : goal.returns-then-strike_in-ge-WHOLE
returns-then-strike_in-ge-WHOLE c = let w = c.args.work.now in
    let k = c.args.k in
    stands_falls w k c.loop-s.s c.base-end.result c.loop-s.invariant.1 c.loop-s-test.true c.strike_in.ensures c.if-strike_in-ge-WHOLE.true

pub loop-s-preserved : goal.loop-s-preserved
loop-s-preserved c = let w = c.args.work.now in
    let k = c.args.k in (
      c.loop-s.invariant.0,
      stands_later w k c.loop-s.s c.base-end.result c.loop-s.invariant.1 c.loop-s-test.true c.strike_in.ensures
          (omega (arith, c.if-strike_in-ge-WHOLE.false)),
    )

pub returns : goal.returns
returns c = let w = c.args.work.now in
    let k = c.args.k in
    stands_ends w k c.loop-s.s c.base-end.result c.loop-s.invariant.1 c.loop-s-test.false
