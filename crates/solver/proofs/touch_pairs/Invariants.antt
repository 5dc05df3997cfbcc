use mathlib.Core.Path.{◌≡◌}
use mathlib.Core.Logic.{◌⊎◌}
use Prim.Native.Nat.{◌-◌, ◌%◌, ◌≤◌}
use Rattle.index.specs.Index.{index_node}
use Rattle.index.specs.Edges.{first_of}
use Rattle.solver.specs.Changes.{PairFrom, ThreeFrom, Walk, Onward}
use Rattle.solver.proofs.touch_pairs.Given as goal

abbrev pub invariant-loop-k : goal.invariant-loop-k
invariant-loop-k l = Walk (index_node l.x) l.n (λ p. PairFrom l.x l.node l.k p ⊎ ThreeFrom l.x l.node 0 p) l.initial.work l.initial.masks l.work l.masks
    × (first_of l.x l.node ≤ l.k) × (l.k ≤ l.end) × (l.k % 2 ≡ first_of l.x l.node % 2) × Onward l.initial.work l.initial.masks l.best l.work l.masks l.b

abbrev pub decreases-loop-k : goal.decreases-loop-k
decreases-loop-k l = l.end - l.k
