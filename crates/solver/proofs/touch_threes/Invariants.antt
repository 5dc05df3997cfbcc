use mathlib.Core.Path.{◌≡◌}
use Rattle.index.specs.Index.{index_node}
use Rattle.index.specs.Edges.{end_of}
use Rattle.solver.specs.Changes.{ThreeFrom, Walk, Onward}
use Rattle.solver.proofs.touch_threes.Given as goal

abbrev pub invariant-loop-k : goal.invariant-loop-k
invariant-loop-k l = Walk (index_node l.x) l.n (ThreeFrom l.x l.node l.k) l.initial.work l.initial.masks l.work l.masks × (l.end ≡ end_of l.x l.node)
    × Onward l.initial.work l.initial.masks l.best l.work l.masks l.b
