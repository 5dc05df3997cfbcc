-- `clause::class` meets its contract: the class that is read is that of the edge and the values. Assumes nothing.
use Rattle.clause.specs.Coded.{g_of}
use Rattle.clause.proofs.Classes.{classed}
use Rattle.clause.proofs.class.Goals as goal

pub returns : goal.returns
returns c = classed c.requires.indexed
    (g_of c.args.work.now) c.requires.in_bounds.2 c.args.node c.args.k c.args.sign c.requires.node_lt_n.0 c.requires.node_lt_n.1
    c.requires.node_lt_n.2 c.requires.sign_value c.value-v.result c.value-o.result c.value-v.ensures
    c.value-o.ensures
