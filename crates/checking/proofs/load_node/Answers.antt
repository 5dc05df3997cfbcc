-- `checking::load_node` meets its contract: the four stores write the node that the record holds. Assumes nothing.
use mathlib.Core.Path.{◌∙◌, ap}
use Rattle.scope.specs.Table.{tables, node_of}
use Rattle.scope.proofs.Records.{part_record}
use Rattle.checking.proofs.Nodes.{loaded_more}
use Rattle.checking.proofs.load_node.Goals as goal

pub overflow_sub-x : goal.overflow_sub-x
overflow_sub-x c = let e = c.fields-node.ensures ∙ ap node_of (part_record tables _ _ _ c.requires.m_lt_most_nodes.1) in
    rw e c.requires.m_lt_most_nodes.2.1

pub returns : goal.returns
returns c = let e = c.fields-node.ensures ∙ ap node_of (part_record tables _ _ _ c.requires.m_lt_most_nodes.1) in
    loaded_more c.args.t.now c.args.x.now c.args.m c.fields-node.result c.requires.m_lt_most_nodes.0 (rw e c.requires.m_lt_most_nodes.2.1) e c.requires.loaded
