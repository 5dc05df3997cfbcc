-- `rounds::seek` meets its contract: what is left of the look is the answer. Assumes nothing.
use mathlib.Core.Path.{refl, sym, ◌∙◌}
use native.Mathlib.Omega.{arith}
use borrow.Author.Tests.{eq-eqb, ne_eqb}
use Rattle.turns.proofs.Rounds.{seek_stops, seek_goes, seek-done}
use Rattle.rounds.proofs.seek.Goals as goal

pub loop-i-init : goal.loop-i-init
loop-i-init c = refl

pub returns-then-verdicts-i-eq-UNFINISHED : goal.returns-then-verdicts-i-eq-UNFINISHED
returns-then-verdicts-i-eq-UNFINISHED c = (
  sym (seek_stops _ _ _ c.loop-i-test.true (eq-eqb _ 2 c.if-verdicts-i-eq-UNFINISHED.true))
      ∙ c.loop-i.invariant,
  c.loop-i-test.true,
)

pub loop-i-preserved : goal.loop-i-preserved
loop-i-preserved c = sym (seek_goes _ _ _ c.loop-i-test.true (ne_eqb _ 2 c.if-verdicts-i-eq-UNFINISHED.false)) ∙ c.loop-i.invariant

pub returns : goal.returns
returns c = omega (arith, c.loop-i-test.false, sym (seek-done _ _ _ (omega (arith, c.loop-i-test.false))) ∙ c.loop-i.invariant)
