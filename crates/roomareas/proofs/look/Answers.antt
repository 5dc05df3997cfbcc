-- `roomareas::look` meets its contract: before each turn the areas passed have been looked at. Assumes nothing.
use mathlib.Core.Path.{◌∙◌}
use Rattle.roomareas.proofs.Resting.{looking_none, looking_more, looking_all}
use native.Mathlib.Omega.{arith}
use Rattle.roomareas.proofs.look.Goals as goal

pub loop-i-init : goal.loop-i-init
loop-i-init c = looking_none _ _

pub loop-i-preserved : goal.loop-i-preserved
loop-i-preserved c = let h = c.loop-i-test.true in
    looking_more c.loop-i.invariant (omega (arith, h, c.requires.0, c.requires.2)) (λ G. c.number.ensures ∙ c.verdict.ensures G)

pub returns : goal.returns
returns c = looking_all c.loop-i.invariant (omega (arith, c.loop-i-test.false, c.loop-i.auto.i-end))
