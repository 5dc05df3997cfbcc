-- `branch::push` meets its contract. The clauses are appended, and the literal enters the trail. Assumes nothing.
use Rattle.index.specs.Index.{index_node}
use Rattle.branch.proofs.Turns.{enter_ready, joined_is}
use Rattle.branch.proofs.push.Goals as goal

pub enter-requires : goal.enter-requires
enter-requires c = let t = index_node c.args.x.now in
    let few = c.requires.indexed.few in
    let l = c.args.l in
    let w = enter_ready t l c.append.ensures c.requires.area_size_in_bounds few c.requires.trail.0 c.requires.trail.1 in
    record {
      area_size_in_bounds = w.0;
      trail = w.1;
    }

pub returns : goal.returns
returns c = let t = index_node c.args.x.now in
    let l = c.args.l in
    joined_is t l c.append.ensures c.requires.indexed.table c.requires.indexed.few c.requires.trail.1.0 c.enter.ensures
