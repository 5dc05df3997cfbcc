-- `growing::bytes_of` meets its contract: the fields of the node. Assumes nothing.
use mathlib.Core.Path.{refl}
use Rattle.scope.specs.Table.{node_bytes}
use Rattle.growing.specs.Growing.{node_in}
use Rattle.growing.proofs.bytes_of.Goals as goal

pub returns : goal.returns
unfolding node_bytes node_in
returns c = refl
