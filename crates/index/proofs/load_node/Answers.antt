-- `index::load_node` meets its contract: the node that the record holds is stored, and two counts. Assumes nothing.
use mathlib.Core.Path.{refl}
use Rattle.index.proofs.Nodes.{loaded_more}
use Rattle.index.proofs.load_node.Goals as goal

pub returns : goal.returns
returns c = rw c.store_node.ensures
    (loaded_more c.args.t.now c.args.x.now c.args.m _ c.requires.m_lt_most_nodes.0 c.requires.m_lt_most_nodes.2.1 refl c.requires.loaded)
