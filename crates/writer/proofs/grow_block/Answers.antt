-- `writer::grow_block` meets its contract: its three steps are those of `grown`. Assumes nothing.
use mathlib.Core.Path.{◌∙◌, ap}
use native.Mathlib.Omega.{arith}
use lib.ListN.{length-set}
use Rattle.scope.specs.Block.{seal}
use Rattle.writer.specs.Grown.{grown}
use Rattle.writer.proofs.grow_block.Goals as goal

pub copy_at-requires : goal.copy_at-requires
copy_at-requires c = simp length-set (omega arith)

pub set_check-requires : goal.set_check-requires
set_check-requires c = c.copy_at.auto.out ∙ simp length-set c.requires.0

pub shape_of-block : goal.shape_of-block
shape_of-block c = c.set_check.auto.block ∙ c.copy_at.auto.out ∙ simp length-set

pub returns : goal.returns
unfolding grown
returns c = c.set_check.ensures ∙ ap seal c.copy_at.ensures
