-- `area::shrink` meets its contract. The loop's invariant: the literals held are the first ones, and no fewer than are to stay. The
-- measure is how many are held. Assumes nothing.
use native.Mathlib.Omega.{arith}
use Rattle.area.proofs.Stores.{shrink_starts, shrink_goes, shrink_ends}
use Rattle.area.proofs.shrink.Goals as goal

pub loop-work-init : goal.loop-work-init
loop-work-init c = shrink_starts c.requires.trail c.requires.area_size_in_bounds.2

pub bounds-work-28469 : goal.bounds-work-28469
bounds-work-28469 c = omega (arith, c.loop-work.invariant.1.size, c.requires.area_size_in_bounds.0)

pub pop-requires : goal.pop-requires
pop-requires c = record {
  area_size_in_bounds = (
    omega (arith, c.loop-work.invariant.1.size, c.requires.area_size_in_bounds.0),
    c.requires.area_size_in_bounds.1,
    omega
        (arith, c.loop-work-test.true),
  );
  trail = c.loop-work.invariant.1.trail;
}

pub loop-work-smaller : goal.loop-work-smaller
loop-work-smaller c = omega (arith, c.pop.ensures.count, c.loop-work-test.true)

pub loop-work-preserved : goal.loop-work-preserved
loop-work-preserved c = shrink_goes c.loop-work-test.true c.loop-work.invariant.1 c.pop.ensures

pub shape_of-work : goal.shape_of-work
shape_of-work c = c.loop-work.invariant.1.size

pub returns : goal.returns
returns c = shrink_ends c.loop-work-test.false c.loop-work.invariant.0 c.loop-work.invariant.1
