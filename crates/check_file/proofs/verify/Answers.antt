-- `check_file::verify` meets its contract: the text of what check answers. Assumes nothing.
use mathlib.Core.Path.{subst}
use mathlib.Core.List.{List}
use Prim.Native.Nat.{ℕ}
use borrow.Author.Rules.{rules}
use Rattle.text.specs.Text.{ascii, Put}
use Rattle.check_file.proofs.Said.{said}
use Rattle.check_file.proofs.verify.Goals as goal

pub returns-in-Ok : goal.returns-in-Ok
unfolding ascii
returns-in-Ok c = λ w area.
    subst (λ (s : List ℕ). Put c.args.out.now 0 s c.put.new.out c.put.result)
    (said _ _ _ _ _ c.check.result (search rules) c.check.ensures w area c.in-Ok.is) c.put.ensures

pub returns-in-Err : goal.returns-in-Err
returns-in-Err c = λ w area.
    subst (λ (s : List ℕ). Put c.args.out.now 0 s c.refused.new.out c.refused.result)
    (said _ _ _ _ _ c.check.result (search rules) c.check.ensures w area c.in-Err.is) c.refused.ensures
