-- `naming::head` meets its contract. Assumes nothing.
use mathlib.Core.Path.{sym, ◌∙◌}
use Rattle.rules.specs.Steps.{step_at}
use Rattle.naming.proofs.Heads.{at_more, at-missing, at-whole}
use Rattle.naming.proofs.head.Goals as goal

pub returns-then-is_name : goal.returns-then-is_name
returns-then-is_name c = at_more c.args.version (step_at c.args.d.now) c.args.goals.now c.args.count _ c.shared-i.ensures
    (sym c.is_name.ensures ∙ c.if-is_name.true)

pub returns-then-i-goals : goal.returns-then-i-goals
returns-then-i-goals c = c.missing.ensures
    ∙ at-missing c.args.version (step_at c.args.d.now) c.args.goals.now c.args.count _ c.shared-i.ensures
    (sym c.is_name.ensures ∙ c.if-is_name.false) c.if-i-goals.true

pub returns : goal.returns
returns c = at-whole c.args.version (step_at c.args.d.now) c.args.goals.now c.args.count _ c.shared-i.ensures
    (sym c.is_name.ensures ∙ c.if-is_name.false) c.if-i-goals.false
