-- `counting::literal_size` meets its contract: the row's two bits. Assumes nothing.
use mathlib.Core.Path.{refl}
use Prim.Native.Nat.{◌+◌, ◌*◌, ◌/◌, ◌<◌}
use native.Mathlib.Omega.{arith}
use lib.ListN.{get_or}
use Rattle.index.specs.Index.{index_node}
use Rattle.counting.proofs.Sizes.{lengths_are}
use Rattle.counting.proofs.literal_size.Goals as goal

pub overflow_shr-result : goal.overflow_shr-result
unfolding index_node
overflow_shr-result c =
    let kind : get_or c.args.x.now (4 * (c.args.l / 2)) 0 + 1 < 9 = (c.requires.indexed.table.kinds (c.args.l / 2) (omega (arith, c.requires.l_bound))).1 in
    omega (arith, kind)

pub returns : goal.returns
unfolding index_node
returns c = lengths_are (index_node c.args.x.now) c.args.l refl
