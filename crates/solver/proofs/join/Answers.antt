-- `solver::join` meets its contract. Assumes nothing.
use Rattle.solver.proofs.Assumes.{picked-fresh, picked_taken, holds-joined, list-joined, leads-joined}
use borrow.Author.Rules.{rules}
use Rattle.solver.proofs.join.Goals as goal

pub attach-requires-clause-fresh : goal.attach-requires-clause-fresh
attach-requires-clause-fresh c = search (rules, picked_taken, picked-fresh)

pub returns : goal.returns
returns c = let I = c.requires.indexed in
    let gs = c.requires.goals in
    let H = c.requires.holds in
    let k = c.requires.picked in
    let N = picked_taken I.few H k c.leave.ensures in
    let f = picked-fresh I.few H k in
    let a = c.attach.ensures in
    record {
      holds_2 = holds-joined I H N f a k.waiting;
      work_after = list-joined I H N f a k.waiting;
      leads = leads-joined I H N f a k.waiting;
    }
