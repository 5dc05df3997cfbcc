-- `area::value` meets its contract. A literal's value is that of its node's entry. Assumes nothing.
use Prim.Native.Nat.{◌+◌, ◌/◌, ◌%◌}
use Rattle.calculus.specs.Order.{value_of}
use Rattle.area.specs.Area.{trail_at, g_of}
use Rattle.trail.proofs.Trails.{side-none, side-true, side-false}
use Rattle.area.proofs.value.Goals as goal

pub returns-then-e-eq0 : goal.returns-then-e-eq0
returns-then-e-eq0 c = let w = c.args.work.now in
    let l = c.args.l in
    side-none (trail_at w (2017 + c.args.l / 2)) (c.args.l % 2) (value_of (g_of w) l) c.if-e-eq0.true (c.requires.vals l c.requires.area_size_in_bounds.2)

pub returns-then-e-l : goal.returns-then-e-l
returns-then-e-l c = let w = c.args.work.now in
    let l = c.args.l in
    side-true (trail_at w (2017 + c.args.l / 2)) (c.args.l % 2) (value_of (g_of w) l) c.if-e-eq0.false c.if-e-l.true
    (c.requires.vals l c.requires.area_size_in_bounds.2)

pub returns-else-e-l : goal.returns-else-e-l
returns-else-e-l c = let w = c.args.work.now in
    let l = c.args.l in
    side-false (trail_at w (2017 + c.args.l / 2)) (c.args.l % 2) (value_of (g_of w) l) c.if-e-eq0.false c.if-e-l.false
    (c.requires.vals l c.requires.area_size_in_bounds.2)
