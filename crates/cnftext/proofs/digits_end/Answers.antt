-- `cnftext::digits_end` meets its contract: the digits passed, then those that are left. Assumes nothing.
use mathlib.Core.Path.{◌≡◌, ◌∙◌, sym, subst}
use Prim.Native.Nat.{ℕ}
use lib.ListN.{length, drop}
use native.Mathlib.Omega.{arith}
use Rattle.cnf.specs.Text.{digits}
use Rattle.cnfwords.specs.Words.{part}
use Rattle.cnftext.proofs.Parts.{digit_next, no_digit, digits-done, no_more}
use Rattle.cnftext.proofs.digits_end.Goals as goal

pub returns-then-not-is_ascii_digit : goal.returns-then-not-is_ascii_digit
returns-then-not-is_ascii_digit c = record {
  later = omega arith;
  within = omega arith;
  run = c.loop-i.invariant ∙ no_more _ (no_digit _ _ c.loop-i-test.true (sym c.if-not-is_ascii_digit.ensures.value));
}

pub loop-i-preserved : goal.loop-i-preserved
loop-i-preserved c = c.loop-i.invariant ∙ digit_next _ _ c.loop-i-test.true _ (omega arith) (sym c.if-not-is_ascii_digit.ensures.value)

pub returns : goal.returns
returns c =
    let end : c.loop-i.i ≡ length c.args.text.now = omega (arith, c.loop-i.auto) in
    record {
      later = omega arith;
      within = omega arith;
      run = subst (λ (i : ℕ). digits (drop c.args.at c.args.text.now) ≡ part c.args.text.now c.args.at i) end
          (c.loop-i.invariant ∙ no_more _ (digits-done _ _ c.loop-i-test.false));
    }
