-- `solver::touch` meets its contract. Assumes nothing.
use Rattle.solver.proofs.Marks.{still_ready}
use Rattle.solver.proofs.Walks.{walk_from, walk-both}
use Rattle.solver.proofs.touch.Goals as goal

pub touch_threes-requires : goal.touch_threes-requires
touch_threes-requires c = let K = c.touch_pairs-b.ensures.walk in
    record {
      indexed = c.requires.indexed;
      ready = still_ready c.requires.indexed.few c.requires.ready K.beside;
      walk = walk_from c.requires.indexed.few c.requires.ready K;
      node_lt_n = (c.requires.node_lt_n.0, c.requires.first_value.1);
    }

pub returns-clause-touched : goal.returns-clause-touched
returns-clause-touched c = walk-both c.requires.indexed.few c.requires.ready c.touch_pairs-b.ensures.walk c.touch_threes.ensures.touched
