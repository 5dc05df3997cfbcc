-- `cnfwords::skip` meets its contract: at each turn the words are still those from the start on. Assumes nothing.
use mathlib.Core.Path.{◌∙◌, sym}
use Rattle.cnfwords.proofs.Words.{separator-passed}
use native.Mathlib.Omega.{arith}
use borrow.Author.Rules.{rules}
use Rattle.cnfwords.proofs.skip.Goals as goal

pub returns-then-not-is_separator : goal.returns-then-not-is_separator
returns-then-not-is_separator c = let inv = c.loop-i.invariant in
    record {
      later = inv.0;
      within = inv.1;
      same = inv.2;
      next = λ h. sym c.is_separator.ensures ∙ c.if-not-is_separator.true;
    }

pub loop-i-preserved : goal.loop-i-preserved
loop-i-preserved c = let inv = c.loop-i.invariant in
    let passed = sym c.is_separator.ensures ∙ c.if-not-is_separator.false in
    (search rules, search rules, separator-passed _ _ c.loop-i-test.true passed ∙ inv.2)

pub returns : goal.returns
returns c = let inv = c.loop-i.invariant in
    record { later = inv.0; within = inv.1; same = inv.2; next = λ h. absurd (omega (arith, h, c.loop-i-test.false)) }
