-- `searching::one_more` meets its contract. Assumes nothing.
use Rattle.calculus.specs.Jump.{stopped}
use Rattle.calculus.proofs.Limits.{most_under, most_over}
use Prim.Native.Nat.{suc, ◌+◌}
use mathlib.Core.Path.{◌≡◌, ap, ◌∙◌}
use native.Mathlib.Omega.{arith}
use Rattle.searching.proofs.one_more.Goals as goal

pub returns-then-made-lt-MOST : goal.returns-then-made-lt-MOST
returns-then-made-lt-MOST c = let e : c.args.left + c.args.right + 1 ≡ suc (c.args.left + c.args.right) = omega arith in
    most_under 4294967295 (c.args.left + c.args.right + 1) c.if-made-lt-MOST.true ∙ ap stopped e

pub returns-else-made-lt-MOST : goal.returns-else-made-lt-MOST
returns-else-made-lt-MOST c = let e : c.args.left + c.args.right + 1 ≡ suc (c.args.left + c.args.right) = omega arith in
    most_over 4294967295 (c.args.left + c.args.right + 1) c.if-made-lt-MOST.false ∙ ap stopped e
