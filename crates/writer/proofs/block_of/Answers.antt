-- `writer::block_of` meets its contract: four stores and a copy into zeros, then the check. Assumes nothing.
use mathlib.Core.Path.{◌∙◌, ap}
use Rattle.scope.specs.Block.{seal}
use Rattle.writer.proofs.Seals.{seal_new}
use Rattle.writer.proofs.block_of.Goals as goal

pub returns : goal.returns
returns c = c.set_check.ensures
    ∙ ap seal c.copy_at.ensures
    ∙ seal_new c.args.letter c.args.count c.args.index c.args.body.now c.requires
