-- What check answers does not lie with the work area, if it is long enough. Assumes nothing.
use mathlib.Core.Path.{◌≡◌, ◌∙◌, ap, sym}
use mathlib.Core.List.{List}
use Prim.Native.Nat.{ℕ, ◌≤◌}
use lib.ListN.{length}
use borrow.Author.Tests.{le-leb}
use Rattle.calculus.specs.Decide.{rows_test, asked_by}
use Rattle.rules.specs.Derive.{check}
use Rattle.std.proofs.Common.{Result}
use Rattle.scope.specs.declared.Refusal.{Refusal}
use Rattle.checking.specs.Checks.{checked_of, Checks}
use Rattle.check_file.specs.Said.{said_of}

pub said : (t goals w d w' : List ℕ) (r : Result (Unit {0}) Refusal) → 32768 ≤ length w → Checks t goals w d w' r
    → (other : List ℕ) → 32768 ≤ length other → {s : Result (Unit {0}) Refusal} → r ≡ s → said_of (checked_of s) ≡ said_of (check t goals other d)
unfolding check asked_by rows_test
said t goals w d w' r area c other area' e =
    let same : check t goals w d ≡ check t goals other d = rw (le-leb 32768 (length w) area, le-leb 32768 (length other) area') in
    ap said_of (ap checked_of (sym e) ∙ c.answered ∙ same)
