-- `moves::unit_move` meets its contract. Assumes nothing.
use Rattle.state.proofs.Areas.{count_most}
use Rattle.moves.proofs.Moves.{base_low, unit-low, unit-position}
use Prim.Native.Nat.{◌/◌}
use native.Mathlib.Omega.{arith}
use Rattle.moves.proofs.unit_move.Goals as goal

pub base-base-requires : goal.base-base-requires
base-base-requires c = let p = c.requires.picked in
    let b = unit-low c.requires.indexed.few c.requires.goals c.requires.holds p.free p.waiting p.first in
    (c.requires.holds.ready.size, omega (arith, b, count_most c.requires.holds.ready, c.requires.indexed.few))

pub overflow_add-result : goal.overflow_add-result
overflow_add-result c = let p = c.requires.picked in
    let b = unit-low c.requires.indexed.few c.requires.goals c.requires.holds p.free p.waiting p.first in
    omega (arith, c.base-base.ensures, base_low c.requires.indexed.few c.requires.goals c.requires.holds (c.args.u / 65536) (omega (arith, b)))

pub returns-clause-moved : goal.returns-clause-moved
returns-clause-moved c = let p = c.requires.picked in
    let z = c.keep.ensures in
    let k = p.kept in
    unit-position c.requires.indexed.few c.requires.goals c.requires.holds p.free p.waiting p.first (omega (arith, k)) (omega (arith, k)) z c.base-base.ensures
