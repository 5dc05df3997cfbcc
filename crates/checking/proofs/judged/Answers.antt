-- `checking::judged` meets its contract: a refusal is that of the head, and else the steps after it decide, by the rules of the version.
-- Assumes nothing.
use mathlib.Core.Path.{ap, sym, ◌∙◌}
use Rattle.scope.proofs.Tests.{handed_on}
use Rattle.calculus.specs.Expansion.{expand}
use Rattle.index.specs.Index.{index_node}
use Rattle.rules.specs.Steps.{step_at}
use Rattle.naming.specs.Named.{named_of}
use Rattle.checking.proofs.Answers.{head_refused, head-within, head-runs, in_version}
use Rattle.checking.proofs.judged.Goals as goal

pub check_run-requires : goal.check_run-requires
check_run-requires c = let e = expand (index_node c.args.x.now) in
    let q = sym (ap named_of c.in_ok-from.was) ∙ c.head.ensures in
    record {
      indexed = c.requires.indexed;
      goals = c.requires.goals;
      area_size_in_bounds = c.requires.area_size_in_bounds;
      from_le_count = head-within c.version_of-version.result e c.args.goals.now c.args.n (step_at c.args.d.now) c.args.count q;
      by_index = c.requires.by_index;
    }

pub returns-in_err-from : goal.returns-in_err-from
returns-in_err-from c = let e = expand (index_node c.args.x.now) in
    let q = sym (ap named_of c.in_err-from.was) ∙ c.head.ensures in
    handed_on (λ u. u) _ c.from_residual.ensures.1
    ∙ head_refused c.version_of-version.result e c.args.goals.now c.args.n (step_at c.args.d.now) c.args.count q
    ∙ in_version e c.args.goals.now c.args.n _ c.version_of-version.ensures

pub returns : goal.returns
returns c = let e = expand (index_node c.args.x.now) in
    let q = sym (ap named_of c.in_ok-from.was) ∙ c.head.ensures in
    c.check_run.ensures
    ∙ head-runs c.version_of-version.result e c.args.goals.now c.args.n (step_at c.args.d.now) c.args.count q
    ∙ in_version e c.args.goals.now c.args.n _ c.version_of-version.ensures
