-- `state::pop` meets its contract. Assumes nothing.
use mathlib.Core.Path.{refl}
use Rattle.state.proofs.Joins.{popped}
use Rattle.state.proofs.pop.Goals as goal

pub returns : goal.returns
returns c = popped c.requires.n_le_most_nodes.0 c.requires.ready c.requires.n_le_most_nodes.1 refl c.clear_values.ensures refl
