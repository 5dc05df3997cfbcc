-- `overview::overview` meets its contract: a refusal is the first row's that refuses, and else each goal has its byte. Assumes nothing.
use Rattle.std.proofs.lemmas.Result.{err_from_is_err_and}
use Rattle.codec.specs.Valid.{Bytes}
use Rattle.overview.proofs.Answers.{by_row, refuses, room, ends}
use Rattle.asking.proofs.Lends.{new_index}
use Rattle.overview.proofs.overview.Goals as goal

pub ask_within_by-requires : goal.ask_within_by-requires
ask_within_by-requires c = new_index

pub put-requires : goal.put-requires
put-requires c =
    let bytes : Bytes c.args.t.now = λ i. (c.type_inv.t i).fits in
    let a = by_row _ _ c.args.answers.now c.args.work.now bytes c.list_row-listed.ensures c.ask_within_by.ensures in
    let p = a.reached _ c.in_ok-n.was in
    record {
      indexed = p.indexed;
      below = p.below;
      area_in_bounds = p.admitted.work;
      goals_in_bounds = room _ _ c.args.answers.now c.args.work.now bytes p;
    }

pub returns-in_err-n : goal.returns-in_err-n
returns-in_err-n c =
    let bytes : Bytes c.args.t.now = λ i. (c.type_inv.t i).fits in
    let a = by_row _ _ c.args.answers.now c.args.work.now bytes c.list_row-listed.ensures c.ask_within_by.ensures in
    let p = err_from_is_err_and c.from_residual.result c.from_residual.ensures.1 in
    rw (p.1, p.2) (refuses _ _ c.args.answers.now c.args.work.now bytes _ (a.refuses _ c.in_err-n.was))

pub returns : goal.returns
returns c =
    let bytes : Bytes c.args.t.now = λ i. (c.type_inv.t i).fits in
    let a = by_row _ _ c.args.answers.now c.args.work.now bytes c.list_row-listed.ensures c.ask_within_by.ensures in
    ends _ _ c.args.answers.now c.args.work.now bytes (a.reached _ c.in_ok-n.was) c.put.ensures
