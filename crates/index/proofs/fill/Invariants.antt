use Prim.Native.Nat.{ℕ, ◌-◌}
use Rattle.scope.specs.declared.Node.{Node}
use Rattle.index.specs.Index.{first_at}
use Rattle.index.specs.Edges.{mid_of}
use Rattle.index.specs.Built.{Same, Early}
use Rattle.index.proofs.Chains.{Filling}
use Rattle.index.proofs.fill.Given as goal

abbrev pub invariant-loop-p : goal.invariant-loop-p
invariant-loop-p l = ((t : ℕ → Node) × Early t l.n × Filling t l.n (mid_of l.initial.x) l.p l.x) × Same first_at l.initial.x l.x

abbrev pub decreases-loop-p : goal.decreases-loop-p
decreases-loop-p l = l.n - l.p
