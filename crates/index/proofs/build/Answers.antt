-- `index::build` meets its contract: of the nodes loaded no edge is counted yet, and linking keeps them. Assumes nothing.
use Rattle.index.proofs.Wholes.{loaded_early, built}
use Rattle.index.proofs.build.Goals as goal

pub link-requires : goal.link-requires
link-requires c = let l = c.load.ensures in
    record {
      x_len = (l.size, c.requires.nodes_le_most_nodes.0, loaded_early _ _ _ l c.requires.nodes_le_most_nodes.2);
      blank = l.counts;
    }

pub returns : goal.returns
returns c = built c.args.nodes _ _ _ _ c.requires.nodes_le_most_nodes.0 c.link.ensures c.copy_tables.ensures.1 c.copy_tables.ensures.2 c.args.t.now
    c.load.ensures
