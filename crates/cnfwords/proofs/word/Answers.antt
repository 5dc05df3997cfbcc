-- `cnfwords::word` meets its contract: the sign, then the number behind it. Assumes nothing.
use mathlib.Core.Path.{◌∙◌, ap}
use mathlib.Core.Bool.{true, false}
use Prim.Native.Nat.{ℕ}
use Rattle.std.specs.Prelude.{Option}
use Rattle.cnfwords.specs.Words.{number_of, said}
use Rattle.cnfwords.proofs.Numbers.{behind_sign, minus_word, plus_word}
use Rattle.cnfwords.proofs.word.Goals as goal

pub returns-then-w-eq45 : goal.returns-then-w-eq45
returns-then-w-eq45 c = c.literal.ensures
    ∙ ap (λ (x : Option ℕ). said x true c.args.vars) (c.numeral.ensures ∙ ap number_of (behind_sign c.args.w.now))
    ∙ minus_word c.args.vars c.args.w.now c.if-w-eq45.true

pub returns : goal.returns
returns c = c.literal-2.ensures
    ∙ ap (λ (x : Option ℕ). said x false c.args.vars) c.numeral-2.ensures
    ∙ plus_word c.args.vars c.args.w.now c.if-w-eq45.false
