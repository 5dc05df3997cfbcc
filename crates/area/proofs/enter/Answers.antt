-- `area::enter` meets its contract. Three stores make a literal the newest of the trail; there is room, since it is fresh. Assumes nothing.
use native.Mathlib.Omega.{arith}
use lib.ListN.{length-set}
use Rattle.area.proofs.Trails.{room_left, is-entered}
use Rattle.area.proofs.enter.Goals as goal

pub overflow_mul-work : goal.overflow_mul-work
overflow_mul-work c = omega (arith, room_left c.args.n c.args.work.now c.args.l c.requires.trail.0 c.requires.trail.1)

pub overflow_add-work : goal.overflow_add-work
overflow_add-work c = omega (arith, room_left c.args.n c.args.work.now c.args.l c.requires.trail.0 c.requires.trail.1)

pub overflow_add-work-2 : goal.overflow_add-work-2
overflow_add-work-2 c = omega (arith, room_left c.args.n c.args.work.now c.args.l c.requires.trail.0 c.requires.trail.1)

pub overflow_add-work-7 : goal.overflow_add-work-7
overflow_add-work-7 c = omega (arith, room_left c.args.n c.args.work.now c.args.l c.requires.trail.0 c.requires.trail.1)

pub bounds-work-h : goal.bounds-work-h
bounds-work-h c = simp length-set (omega (arith, room_left c.args.n c.args.work.now c.args.l c.requires.trail.0 c.requires.trail.1))

pub returns : goal.returns
returns c = is-entered c.args.n c.args.work.now c.args.l c.requires.area_size_in_bounds.0 c.requires.area_size_in_bounds.1 c.requires.trail.0 c.requires.trail.1
