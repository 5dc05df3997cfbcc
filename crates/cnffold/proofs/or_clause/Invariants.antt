use mathlib.Core.Path.{◌≡◌}
use Prim.Native.Nat.{◌<◌}
use lib.ListN.{take, drop}
use Rattle.growing.specs.Growing.{state}
use Rattle.cnf.specs.Fold.{or_all, or_clause}
use Rattle.cnffold.proofs.Built.{Over}
use Rattle.cnffold.proofs.or_clause.Given as goal

abbrev pub invariant-loop-i : goal.invariant-loop-i
invariant-loop-i l = (l.literal < 4032) × (l.nodes.room ≡ l.initial.nodes.room)
    × Over l.initial.nodes.room (λ buf. or_all (state l.literal l.nodes buf) (drop l.i (take l.count l.held)) ≡ or_clause (state 0 l.initial.nodes buf) (take l.count l.held))
