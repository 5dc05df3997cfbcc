-- `index::store_node` meets its contract: the four stores write the node that the record holds. Assumes nothing.
use mathlib.Core.Path.{◌∙◌, ap}
use Rattle.scope.specs.Table.{tables, node_of}
use Rattle.scope.proofs.Records.{part_record}
use Rattle.index.specs.Index.{stored}
use Rattle.index.proofs.store_node.Goals as goal

pub overflow_sub-x : goal.overflow_sub-x
overflow_sub-x c = let e = c.fields-node.ensures ∙ ap node_of (part_record tables _ _ _ c.requires.1) in
    rw e c.requires.2.1

pub returns : goal.returns
returns c = ap (stored c.args.x.now c.args.m) (c.fields-node.ensures ∙ ap node_of (part_record tables _ _ _ c.requires.1))
