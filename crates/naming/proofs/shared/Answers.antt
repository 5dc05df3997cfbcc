-- `naming::shared` meets its contract. The loop's invariant: what agrees is what was passed and what is left. Assumes nothing.
use mathlib.Core.Path.{sym, ap, ◌∙◌}
use native.Mathlib.Omega.{arith}
use Rattle.rules.specs.declared.Step.{Step}
use Rattle.rules.specs.Steps.{step_at}
use Rattle.naming.proofs.Heads.{agreed-stops, agreed-goes}
use Rattle.naming.proofs.shared.Goals as goal

pub returns-then-step_at-goal : goal.returns-then-step_at-goal
returns-then-step_at-goal c =
    let z = agreed-stops (step_at c.args.d.now) c.args.goals.now c.args.count c.loop-i.i c.loop-i-test.true (sym c.is_name.ensures ∙ c.if-not-is_name.false)
    (λ q. c.if-step_at-goal.true (ap (λ (x : Step). x.value) c.step_at.ensures ∙ q)) in
    omega (arith, z, c.loop-i.invariant)

pub loop-i-preserved : goal.loop-i-preserved
loop-i-preserved c =
    let z = agreed-goes (step_at c.args.d.now) c.args.goals.now c.args.count c.loop-i.i c.loop-i-test.true (sym c.is_name.ensures ∙ c.if-not-is_name.false)
    (sym (ap (λ (x : Step). x.value) c.step_at.ensures) ∙ c.if-step_at-goal.false) in
    omega (arith, z, c.loop-i.invariant)
