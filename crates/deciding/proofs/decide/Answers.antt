-- `deciding::decide` meets its contract: a refusal is the first row's that refuses, and else the search decides. Assumes nothing.
use Rattle.std.proofs.lemmas.Result.{err_from_is_err_and}
use Rattle.asking.proofs.Lends.{new_index}
use Rattle.codec.specs.Valid.{Bytes}
use Rattle.asking.proofs.Nodes.{goals_within}
use Rattle.deciding.proofs.Answers.{refuses, roomy, ends}
use Rattle.deciding.proofs.decide.Goals as goal

pub ask_within-requires : goal.ask_within-requires
ask_within-requires c = new_index

pub solve-requires : goal.solve-requires
solve-requires c =
    let bytes : Bytes c.args.t.now = λ i. (c.type_inv.t i).fits in
    let p = c.ask_within.ensures.reached _ c.in_ok-n.was in
    record {
      indexed = p.indexed;
      goals = goals_within p;
      room = roomy _ _ _ _ bytes p;
    }

pub returns-in_err-n : goal.returns-in_err-n
returns-in_err-n c =
    let bytes : Bytes c.args.t.now = λ i. (c.type_inv.t i).fits in
    let p = err_from_is_err_and c.from_residual.result c.from_residual.ensures.1 in
    rw (p.1, p.2) (refuses _ _ _ _ bytes _ (c.ask_within.ensures.refuses _ c.in_err-n.was))

pub returns : goal.returns
returns c =
    let bytes : Bytes c.args.t.now = λ i. (c.type_inv.t i).fits in
    ends _ _ _ _ bytes (c.ask_within.ensures.reached _ c.in_ok-n.was) _ c.solve.ensures
