-- `branch::begin` meets its contract. After the places are cleared and the goals stored, the work area holds the start. Assumes nothing.
use Rattle.index.specs.Index.{index_node}
use Rattle.branch.proofs.Starts.{begun}
use Rattle.branch.proofs.begin.Goals as goal

pub returns : goal.returns
returns c = let cleared = c.clear.ensures in
    let w = begun (index_node c.args.x.now) c.args.n c.args.work.now c.requires.area_size_in_bounds c.requires.indexed.few c.requires.goals
    cleared c.clear-2.ensures c.clear-3.ensures
    c.number.ensures c.aim.ensures in
    record {
      holds = w.0;
      work_after = w.1;
    }
