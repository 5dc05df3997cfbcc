use mathlib.Core.Path.{◌≡◌}
use Prim.Native.Nat.{◌+◌, ◌-◌}
use lib.ListN.{drop}
use Rattle.rules.specs.Rules.{agreed}
use Rattle.naming.specs.Named.{names_of}
use Rattle.naming.proofs.shared.Given as goal

abbrev pub invariant-loop-i : goal.invariant-loop-i
invariant-loop-i l = l.i + agreed (names_of l.d l.i (l.count - l.i)) (drop l.i l.goals) ≡ agreed (names_of l.d 0 l.count) l.goals
