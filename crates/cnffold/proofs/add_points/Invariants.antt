use mathlib.Core.Path.{◌≡◌}
use Prim.Native.Nat.{◌<◌, ◌-◌}
use Rattle.growing.specs.Growing.{state}
use Rattle.cnf.specs.Fold.{points, empty}
use Rattle.cnffold.proofs.Built.{Over}
use Rattle.cnffold.proofs.add_points.Given as goal

abbrev pub invariant-loop-p : goal.invariant-loop-p
invariant-loop-p l = (l.literal < 4032) × (l.nodes.room ≡ l.initial.nodes.room)
    × Over l.initial.nodes.room (λ buf. points (state l.literal l.nodes buf) l.p (l.vars - l.p) ≡ points (empty buf) 0 l.vars)
