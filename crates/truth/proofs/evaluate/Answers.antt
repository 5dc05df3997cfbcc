-- `truth::evaluate` meets its contract: it ends where the rows of `evaluate` do. Assumes nothing.
use mathlib.Core.Path.{◌≡◌, ◌∙◌, ap, sym}
use Prim.Native.Nat.{◌≤◌}
use native.Mathlib.Omega.{arith}
use Rattle.scope.specs.Outcome.{answer}
use Rattle.scope.specs.Calls.{table_count}
use Rattle.scope.proofs.Tests.{handed_on}
use mathlib.Core.List.{List}
use Prim.Native.Nat.{ℕ}
use Rattle.codec.specs.Valid.{Bytes}
use Rattle.codec.proofs.Tables.{few-records}
use Rattle.table.proofs.Rows.{counted}
use Rattle.truth.proofs.Levels.{blank_levels}
use Rattle.truth.proofs.Answers.{table_refused, setting_long, literal_refused, setting-refused, truth-answered}
use Rattle.truth.proofs.evaluate.Goals as goal

-- a count that was answered is of at most 2,016 nodes
few : (t : List ℕ) {n : ℕ} → Bytes t → table_count t ≡ answer n → n ≤ 2016
few t b e =
    let q = counted t e in
    rw q.1 (few-records t b q.0)

pub overflow_mul-nodes : goal.overflow_mul-nodes
overflow_mul-nodes c = omega (arith, few c.args.t.now (λ i. (c.type_inv.t i).fits) (sym c.in_ok-nodes.ensures))

pub returns-then-nodes-literal : goal.returns-then-nodes-literal
returns-then-nodes-literal c = literal_refused _ _ _ _ (sym c.in_ok-nodes.ensures) c.if-nodes-literal.true

pub node_levels-requires : goal.node_levels-requires
node_levels-requires c =
    let q = counted c.args.t.now (sym c.in_ok-nodes.ensures) in
    let most = few c.args.t.now (λ i. (c.type_inv.t i).fits) (sym c.in_ok-nodes.ensures) in
    let h = c.if-nodes-literal.false in (
      record {
        readable = q.0;
        inside = omega (arith, h, q.1);
        points = setting_long _ (sym c.in_ok-settings_verdict.ensures);
        room = omega (arith, h, most);
      },
      blank_levels 4032,
    )

pub bounds-v-literal : goal.bounds-v-literal
bounds-v-literal c = omega (arith, few c.args.t.now (λ i. (c.type_inv.t i).fits) (sym c.in_ok-nodes.ensures), c.if-nodes-literal.false)

pub returns-in_err-nodes : goal.returns-in_err-nodes
returns-in_err-nodes c = handed_on (λ v. v) _ c.from_residual.ensures.1 ∙ table_refused _ _ _ _ _ (sym c.in_err-nodes.ensures)

pub returns-in_err-settings_verdict : goal.returns-in_err-settings_verdict
returns-in_err-settings_verdict c =
    handed_on (λ v. v) _ c.from_residual-in_err-settings_verdict.ensures.1
    ∙ setting-refused _ _ _ _ (sym c.in_ok-nodes.ensures) c.if-nodes-literal.false _ _ (sym c.in_err-settings_verdict.ensures)

pub returns : goal.returns
returns c =
    ap answer c.told.ensures
    ∙ truth-answered _ _ _ _ (sym c.in_ok-nodes.ensures) c.if-nodes-literal.false _ (sym c.in_ok-settings_verdict.ensures) c.node_levels.ensures
