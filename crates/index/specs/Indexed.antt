-- What the solver is given: an index of n nodes. Assumes nothing.
use Rattle.std.specs.Prelude.{◌≡◌, List, ℕ, ◌<◌, ◌≤◌, length}
use Rattle.calculus.specs.Model.{Table}
use Rattle.index.specs.Index.{index_size, most_nodes, most_literals, index_node, Codes, Classes}
use Rattle.index.specs.Edges.{Edges}

pub record Indexed (x : List ℕ) (n : ℕ) : Type 0 where
  pub size : length x ≡ index_size
  pub few : n ≤ most_nodes
  pub table : Table n (index_node x)
  pub edges : Edges (index_node x) n x
  pub cells : (m : ℕ) → m < n → ((index_node x m).a < most_literals) × ((index_node x m).b < most_literals)
  pub codes : Codes x
  pub classes : Classes x
