-- `deciding::set_point` meets its contract, by the kind of the literal's node. Assumes nothing.
use Prim.Native.Nat.{◌+◌, ◌*◌, ◌/◌}
use lib.ListN.{get_or}
use Rattle.index.specs.Index.{index_node}
use native.Mathlib.Omega.{arith}
use borrow.Author.Tests.{eq-eqb, ne_eqb}
use Rattle.deciding.proofs.set_point.Goals as goal

pub returns-then-x-s-ne-ATOM : goal.returns-then-x-s-ne-ATOM
unfolding index_node
returns-then-x-s-ne-ATOM c = rw (ne_eqb (get_or c.args.x.now (4 * (c.args.l / 2)) 0 + 1) 2 (λ q. c.if-x-s-ne-ATOM.true (omega (arith, q))))

pub bounds-settings-point : goal.bounds-settings-point
unfolding index_node
bounds-settings-point c = c.requires.l_in_bounds (omega (arith, c.if-x-s-ne-ATOM.false))

pub returns : goal.returns
unfolding index_node
returns c = rw (eq-eqb (get_or c.args.x.now (4 * (c.args.l / 2)) 0 + 1) 2 (omega (arith, c.if-x-s-ne-ATOM.false)))
