-- `block::padding_ok` meets its contract. The loop's invariant: the bytes from i on decide as those from the start do.
-- Assumes nothing.
use mathlib.Core.Path.{◌∙◌, sym, refl}
use Prim.Native.Nat.{◌-◌}
use borrow.Author.Rules.{rules}
use Rattle.block.proofs.Zeros.{stops, goes, done}
use Rattle.block.proofs.padding_ok.Goals as goal

pub loop-i-init : goal.loop-i-init
loop-i-init c = (search rules, refl)

pub returns-then-b-i-ne0 : goal.returns-then-b-i-ne0
returns-then-b-i-ne0 c = sym (stops _ _ _ c.loop-i-test.true c.if-b-i-ne0.true) ∙ c.loop-i.invariant.1

pub loop-i-preserved : goal.loop-i-preserved
loop-i-preserved c = (
  search rules,
  sym (goes _ _ _ c.loop-i-test.true c.if-b-i-ne0.false) ∙ c.loop-i.invariant.1,
)

pub returns : goal.returns
returns c = sym (done _ _ _ c.loop-i-test.false) ∙ c.loop-i.invariant.1
