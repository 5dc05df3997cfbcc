-- `wishes::grant` meets its contract: a refusal is the first row's that refuses, and else the questions decide. Assumes nothing.
use Rattle.std.proofs.lemmas.Result.{err_from_is_err_and}
use borrow.Author.Rules.{rules}
use Rattle.asking.proofs.Lends.{new_index}
use Rattle.codec.specs.Valid.{Bytes}
use Rattle.wishes.proofs.Answers.{refuses, roomy, posed, ends}
use Rattle.wishes.proofs.grant.Goals as goal

pub ask-requires : goal.ask-requires
ask-requires c = record {
  list_len = search rules;
  zeros = new_index;
}

pub questions-requires : goal.questions-requires
questions-requires c =
    let bytes : Bytes c.args.t.now = λ i. (c.type_inv.t i).fits in
    let p = c.ask.ensures.asks.reached _ c.in_ok-n.was in
    let a = c.args in
    record {
      indexed = p.indexed;
      posed =
          posed a.t.now a.goals.now a.wishes.now a.allowance a.settings.now a.work.now bytes p _ c.ask.auto.list
          (c.ask.ensures.gathered p.admitted.list);
      room = roomy a.t.now a.goals.now a.wishes.now a.allowance a.settings.now a.work.now bytes p;
    }

pub returns-in_err-n : goal.returns-in_err-n
returns-in_err-n c =
    let bytes : Bytes c.args.t.now = λ i. (c.type_inv.t i).fits in
    let p = err_from_is_err_and c.from_residual.result c.from_residual.ensures.1 in
    rw (p.1, p.2) (refuses _ _ _ _ _ _ bytes _ (c.ask.ensures.asks.refuses _ c.in_err-n.was))

pub returns : goal.returns
returns c =
    let bytes : Bytes c.args.t.now = λ i. (c.type_inv.t i).fits in
    ends _ _ _ _ _ _ bytes (c.ask.ensures.asks.reached _ c.in_ok-n.was) _ c.questions.ensures
