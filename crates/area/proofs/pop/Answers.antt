-- `area::pop` meets its contract. Two stores take the newest literal from the trail. Assumes nothing.
use native.Mathlib.Omega.{arith}
use Rattle.area.proofs.Trails.{poppable, popped}
use Rattle.area.proofs.pop.Goals as goal

pub bounds-work-h : goal.bounds-work-h
bounds-work-h c = omega (
  arith,
  poppable c.args.n c.args.work.now c.requires.area_size_in_bounds.0 c.requires.area_size_in_bounds.1 c.requires.trail
      c.requires.area_size_in_bounds.2,
)

pub bounds-work-l : goal.bounds-work-l
bounds-work-l c = omega (
  arith,
  poppable c.args.n c.args.work.now c.requires.area_size_in_bounds.0 c.requires.area_size_in_bounds.1 c.requires.trail
      c.requires.area_size_in_bounds.2,
)

pub returns : goal.returns
returns c = let n = c.args.n in
    let w = c.args.work.now in
    let H = c.requires.trail in
    popped n w c.requires.area_size_in_bounds.0 c.requires.area_size_in_bounds.1 H c.requires.area_size_in_bounds.2
