-- The nodes of a table as the checker takes them, each where an index has it. Assumes nothing.
use Rattle.std.specs.Prelude.{◌≡◌, List, ℕ, ◌<◌, length}
use Rattle.scope.specs.Table.{node_at}
use Rattle.record.specs.Place.{place_of}
use Rattle.index.specs.Index.{index_node}
use Rattle.branch.specs.Holds.{node_cells}

-- where the record of node m starts
abbrev pub Placed : ℕ → ℕ → Type 0
Placed m at = at ≡ place_of m

-- the first b nodes are those of the table t
pub record Loaded (t : List ℕ) (b : ℕ) (x : List ℕ) : Type 0 where
  pub size : length x ≡ node_cells
  pub nodes : (m : ℕ) → m < b → index_node x m ≡ node_at t m
