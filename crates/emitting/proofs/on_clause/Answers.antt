-- `emitting::on_clause` meets its contract: the removals are those that the bits say, and the rule comes behind them. Assumes nothing.
use Rattle.searching.proofs.Searches.{placed_there}
use Rattle.emitting.proofs.on_clause.Goals as goal

pub removal_bits-bits-requires-clause-placed : goal.removal_bits-bits-requires-clause-placed
removal_bits-bits-requires-clause-placed c = placed_there c.requires.placed
