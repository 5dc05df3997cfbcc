-- `checking::check` meets its contract: a refusal is the first row's that refuses, and else the derivation decides. Assumes nothing.
use lib.ListN.{get_or-replicate}
use native.Mathlib.Omega.{arith}
use borrow.Author.Rules.{rules}
use Rattle.branch.specs.Holds.{node_cells}
use Rattle.asking.proofs.Nodes.{buildable}
use Rattle.checking.proofs.Nodes.{goals_in, ready}
use Rattle.checking.proofs.Answers.{refuses, ends}
use Rattle.checking.proofs.check.Goals as goal

pub admit-requires : goal.admit-requires
admit-requires c = (search rules, λ i h. get_or-replicate node_cells i 0 0 (omega (arith, h)))

pub load-requires : goal.load-requires
load-requires c = let b = buildable c.args.t.now (c.admit.ensures.counted _ c.in_ok-n.was) (λ i. (c.type_inv.t i).fits) in
    (b.0, b.1, search rules)

pub replayed-requires : goal.replayed-requires
replayed-requires c = let q = c.in_ok-n.was in
    let a = c.admit.ensures.admitted _ q in
    let p = ready c.args.t.now (c.admit.ensures.counted _ q) (λ i. (c.type_inv.t i).fits) _ c.load.ensures _ _ a in
    record {
      indexed = p.indexed;
      goals = goals_in p;
      area_size_in_bounds = a.work;
    }

pub returns-in_err-n : goal.returns-in_err-n
returns-in_err-n c = refuses _ _ _ _ (λ i. (c.type_inv.t i).fits) _ (c.admit.ensures.refuses _ c.in_err-n.was) c.from_residual.ensures.1

pub returns : goal.returns
returns c = let q = c.in_ok-n.was in
    let a = c.admit.ensures.admitted _ q in
    let p = ready c.args.t.now (c.admit.ensures.counted _ q) (λ i. (c.type_inv.t i).fits) _ c.load.ensures _ _ a in
    ends _ _ _ _ (λ i. (c.type_inv.t i).fits) p _ c.replayed.ensures
