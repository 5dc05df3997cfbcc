use Prim.Native.Nat.{◌-◌}
use lib.ListN.{length}
use Rattle.growing.specs.Growing.{state}
use Rattle.cnfread.specs.Clauses.{Kept}
use Rattle.cnfread.proofs.Joining.{Folding}
use Rattle.cnfread.proofs.fold_body.Given as goal

abbrev pub invariant-loop-c : goal.invariant-loop-c
invariant-loop-c l =
    Folding l.vars l.text l.at (λ buf. state l.literal l.initial.nodes buf) l.initial.nodes.room l.place l.k l.goal l.nodes × Kept l.marks l.held 0

abbrev pub decreases-loop-c : goal.decreases-loop-c
decreases-loop-c l = length l.text - l.place
