-- `area::unwind` meets its contract. The loop's invariant: some of the strikes that are to go are left. The measure is how many strikes
-- there are. Assumes nothing.
use native.Mathlib.Omega.{arith}
use Rattle.area.proofs.Strikes.{unwinding_starts, unwinding_ahead, unwinding_less, unwinding_goes, unwinding_ends}
use Rattle.area.proofs.unwind.Goals as goal

pub loop-work-init : goal.loop-work-init
loop-work-init c = unwinding_starts c.args.head c.args.work.now

pub bounds-work-2 : goal.bounds-work-2
bounds-work-2 c = omega (arith, c.loop-work.invariant.size, c.requires.area_size_in_bounds)

pub bounds-work-i : goal.bounds-work-i
bounds-work-i c = omega (
  arith,
  unwinding_ahead c.args.head c.args.work.now c.loop-work.work
      c.requires.area_size_in_bounds c.requires.reaches c.loop-work.invariant c.loop-work-test.true,
)

pub bounds-work-m : goal.bounds-work-m
bounds-work-m c = omega (
  arith,
  unwinding_ahead c.args.head c.args.work.now c.loop-work.work
      c.requires.area_size_in_bounds c.requires.reaches c.loop-work.invariant c.loop-work-test.true,
)

pub bounds-work-m-in-loop-work : goal.bounds-work-m-in-loop-work
bounds-work-m-in-loop-work c = omega (
  arith,
  unwinding_ahead c.args.head c.args.work.now c.loop-work.work
      c.requires.area_size_in_bounds c.requires.reaches c.loop-work.invariant c.loop-work-test.true,
)

pub loop-work-smaller : goal.loop-work-smaller
loop-work-smaller c = unwinding_less c.args.head c.args.work.now c.loop-work.work
    c.requires.area_size_in_bounds c.requires.reaches c.loop-work.invariant c.loop-work-test.true

pub loop-work-preserved : goal.loop-work-preserved
loop-work-preserved c = unwinding_goes c.args.head c.args.work.now c.loop-work.work
    c.requires.area_size_in_bounds c.requires.reaches c.loop-work.invariant c.loop-work-test.true

pub shape_of-work : goal.shape_of-work
shape_of-work c = c.loop-work.invariant.size

pub returns : goal.returns
returns c = unwinding_ends c.args.head c.args.work.now c.loop-work.work
    c.requires.area_size_in_bounds c.requires.reaches c.loop-work.invariant c.loop-work-test.false
