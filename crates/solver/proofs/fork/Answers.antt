-- `solver::fork` meets its contract. Assumes nothing.
use Rattle.solver.proofs.Assumes.{taken_none, holds-joined, list-joined, leads-joined}
use Rattle.solver.proofs.fork.Goals as goal

pub returns : goal.returns
returns c = let I = c.requires.indexed in
    let gs = c.requires.goals in
    let H = c.requires.holds in
    let (f, e) = c.requires.fresh in
    let N = taken_none H.units in
    let a = c.attach.ensures in
    record {
      holds_2 = holds-joined I H N f a e;
      work_after = list-joined I H N f a e;
      leads = leads-joined I H N f a e;
    }
