-- `clashing::clash` meets its contract: a refusal is the first row's that refuses, and else the walk answers. Assumes nothing.
use mathlib.Core.Path.{ap, ◌∙◌}
use Rattle.std.specs.Prelude.{Err}
use Rattle.std.proofs.lemmas.Result.{err_from_is_err_and}
use Rattle.codec.specs.Valid.{Bytes}
use Rattle.clashing.proofs.Answers.{refuses, passed, grows, ends}
use Rattle.asking.proofs.Lends.{new_index}
use Rattle.clashing.proofs.clash.Goals as goal

pub ask_within-requires : goal.ask_within-requires
ask_within-requires c = new_index

pub argue-requires : goal.argue-requires
argue-requires c =
    let bytes : Bytes c.args.t.now = λ i. (c.type_inv.t i).fits in
    let p = c.ask_within.ensures.reached _ c.in_ok-n.was in
    record {
      indexed = p.indexed;
      passed = passed p;
      grows = grows _ _ c.args.work.now bytes p;
      area_in_bounds = p.admitted.work;
    }

pub returns-in_err-n : goal.returns-in_err-n
returns-in_err-n c =
    let bytes : Bytes c.args.t.now = λ i. (c.type_inv.t i).fits in
    let p = err_from_is_err_and c.from_residual.result c.from_residual.ensures.1 in
    refuses _ _ _ bytes _ _ (p.1 ∙ ap Err p.2) (c.ask_within.ensures.refuses _ c.in_err-n.was)

pub returns : goal.returns
returns c =
    let bytes : Bytes c.args.t.now = λ i. (c.type_inv.t i).fits in
    ends _ _ _ bytes (c.ask_within.ensures.reached _ c.in_ok-n.was) _ c.argue.ensures
