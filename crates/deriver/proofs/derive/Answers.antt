-- `deriver::derive` meets its contract: a refusal is the first row's that refuses, and else the search decides. Assumes nothing.
use Rattle.std.proofs.lemmas.Result.{err_from_is_err_and}
use Rattle.asking.proofs.Nodes.{goals_within}
use Rattle.deriver.proofs.Answers.{refuses, ends}
use Rattle.deriver.proofs.derive.Goals as goal

pub produce-requires : goal.produce-requires
produce-requires c = let p = c.ask_within.ensures.reached _ c.in_ok-n.was in
    record {
      indexed = p.indexed;
      goals = goals_within p;
      in_bounds = p.admitted.work;
    }

pub returns-in_err-n : goal.returns-in_err-n
returns-in_err-n c =
    let p = err_from_is_err_and c.from_residual.result c.from_residual.ensures.1 in
    rw (p.1, p.2) (refuses _ _ _ _ _ (λ i. (c.type_inv.t i).fits) _ (c.ask_within.ensures.refuses _ c.in_err-n.was))

pub returns : goal.returns
returns c = ends _ _ _ _ _ (λ i. (c.type_inv.t i).fits) (c.ask_within.ensures.reached _ c.in_ok-n.was) _ c.produce.ensures
