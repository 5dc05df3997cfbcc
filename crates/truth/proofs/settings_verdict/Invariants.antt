use mathlib.Core.Path.{◌≡◌}
use Prim.Native.Nat.{ℕ, ◌-◌}
use Rattle.scope.specs.Outcome.{Outcome, first, require}
use mathlib.Core.List.{List}
use lib.ListN.{get_or}
use lib.Dec.{ltb}
use Rattle.scope.specs.Calls.{settings_test}
use Rattle.truth.proofs.settings_verdict.Given as goal

-- row 22 at a point
abbrev pub row : List ℕ → ℕ → Outcome (Unit {0})
row s p = require (ltb (get_or s p 0) 3) 22 p

abbrev pub invariant-loop-p : goal.invariant-loop-p
invariant-loop-p l = first (row l.s) l.p (1024 - l.p) ≡ settings_test l.s
