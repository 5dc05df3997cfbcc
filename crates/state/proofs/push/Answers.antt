-- `state::push` meets its contract. Assumes nothing.
use mathlib.Core.Path.{refl}
use Rattle.state.proofs.Joins.{pushed}
use Rattle.state.proofs.push.Goals as goal

pub returns : goal.returns
returns c = pushed c.requires.n_le_most_nodes.0 c.requires.ready c.requires.n_le_most_nodes.1 c.set_values.ensures refl c.enter.ensures
