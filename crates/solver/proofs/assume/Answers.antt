-- `solver::assume` meets its contract. Assumes nothing.
use Rattle.solver.proofs.Assumes.{in_low, ready_attached, served_attached, holds-attached, list-attached}
use borrow.Author.Rules.{rules}
use Rattle.solver.proofs.assume.Goals as goal

pub serve-requires-clause-units : goal.serve-requires-clause-units
serve-requires-clause-units c = search (rules, in_low)

pub wait-requires : goal.wait-requires
wait-requires c = let I = c.requires.indexed in
    let gs = c.requires.goals in
    let H = c.requires.holds in
    let f = c.requires.fresh in
    let N = c.serve.ensures in
    record {
      ready = ready_attached I H N f c.attach.ensures;
      n_le_most_nodes = (I.few, gs);
      served = (served_attached I H N f c.attach.ensures, f.0);
    }

pub returns : goal.returns
returns c = let I = c.requires.indexed in
    let gs = c.requires.goals in
    let H = c.requires.holds in
    let f = c.requires.fresh in
    let N = c.serve.ensures in
    let A = c.wait.ensures in
    record {
      holds_2 = holds-attached I H N f c.attach.ensures A;
      work_after = list-attached I H N f c.attach.ensures A;
    }
