use Prim.Native.Nat.{◌≤◌}
use Rattle.units.specs.Units.{positions}
use Rattle.units.proofs.Sizes.{size_below}
use Rattle.state.specs.Picked.{no_unit}
use Rattle.solver.specs.Changes.{Dropped, Fronts}
use Rattle.solver.proofs.live.Given as goal

abbrev pub invariant-loop-u : goal.invariant-loop-u
invariant-loop-u l = Dropped l.work l.initial.masks l.masks × Fronts l.work l.masks l.u × (l.u ≤ no_unit)

abbrev pub decreases-loop-u : goal.decreases-loop-u
decreases-loop-u l = size_below l.masks positions
