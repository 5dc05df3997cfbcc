-- Two tables' nodes as a search meets them: where both have the nodes of a list of literals, and of the nodes that both have the operands'
-- too, a search of that list comes to no other node. Assumes nothing.
use Rattle.std.specs.Prelude.{◌≡◌, ℕ, ◌/◌, ◌<◌}
use Rattle.scope.specs.declared.Node.{Node}
use Rattle.scope.specs.Table.{operands}
use Rattle.calculus.specs.Model.{All}

-- both have a literal's node
abbrev pub Alike : (ℕ → Node) → (ℕ → Node) → ℕ → Type 0
Alike t u l = t (l / 2) ≡ u (l / 2)

-- of the first n nodes, where both have a node, both have its operands'
abbrev pub Closed : ℕ → (ℕ → Node) → (ℕ → Node) → Type 0
Closed n t u = (i : ℕ) → i < n → t i ≡ u i → All (Alike t u) (operands (t i))
