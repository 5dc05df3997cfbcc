-- `branch::row_of` meets its contract. The row of a literal is below 18, by the kinds of a table. Assumes nothing.
use mathlib.Core.Path.{refl}
use Prim.Native.Nat.{◌/◌}
use native.Mathlib.Omega.{arith}
use Rattle.index.specs.Index.{index_node}
use Rattle.branch.proofs.row_of.Goals as goal

pub overflow_add-kind : goal.overflow_add-kind
unfolding index_node
overflow_add-kind c = omega (arith, (c.requires.indexed.table.kinds (c.args.l / 2) (omega arith)).1)

pub overflow_mul-result : goal.overflow_mul-result
unfolding index_node
overflow_mul-result c = omega (arith, (c.requires.indexed.table.kinds (c.args.l / 2) (omega arith)).1)

pub overflow_add-result : goal.overflow_add-result
unfolding index_node
overflow_add-result c = omega (arith, (c.requires.indexed.table.kinds (c.args.l / 2) (omega arith)).1)

pub returns : goal.returns
unfolding index_node
returns c = (refl, omega (arith, (c.requires.indexed.table.kinds (c.args.l / 2) (omega arith)).1))
