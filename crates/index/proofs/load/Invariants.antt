-- The invariant of the loop of `index::load`: the nodes of the blocks passed are those of the table.
use Prim.Native.Nat.{min, ◌-◌, ◌%◌}
use mathlib.Core.Path.{◌≡◌}
use Rattle.index.specs.Built.{Loaded}
use Rattle.index.proofs.load.Given as goal

abbrev pub invariant-loop-base : goal.invariant-loop-base
invariant-loop-base l = (l.base % 63 ≡ 0) × Loaded l.t (min l.nodes l.base) l.x

abbrev pub decreases-loop-base : goal.decreases-loop-base
decreases-loop-base l = l.nodes - l.base
