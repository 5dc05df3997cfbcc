-- `units::add` meets its contract: the word and the sum have the bit. Assumes nothing.
use Rattle.units.proofs.Sets.{added}
use Rattle.units.proofs.add.Goals as goal

pub returns : goal.returns
returns c = added c.args.m.now c.args.q c.requires.units c.requires.q_lt_positions
