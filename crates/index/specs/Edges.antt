-- The edges of each node, one for each operand of a node that is a literal of it: its parents, one after another. Assumes nothing.
use Rattle.std.specs.Prelude.{◌≡◌, ◌⊎◌, List, ℕ, ◌+◌, ◌-◌, ◌*◌, ◌/◌, ◌%◌, ◌<◌, ◌≤◌, get_or}
use Rattle.scope.specs.declared.Node.{Node}
use Rattle.scope.specs.Table.{operands}
use Rattle.index.specs.Index.{first_at, mid_at, end_at, edges_at, most_edges, op_node}

-- ---- where the edges of node m stand, as offsets: those from parents of two operands, two numbers each, from the first of the three on
-- below the second, and those from parents of three operands, one number each, from the second on below the third

abbrev pub first_of : List ℕ → ℕ → ℕ
first_of x m = get_or x (first_at + m) 0

abbrev pub mid_of : List ℕ → ℕ → ℕ
mid_of x m = get_or x (mid_at + m) 0

abbrev pub end_of : List ℕ → ℕ → ℕ
end_of x m = get_or x (end_at + m) 0

-- k is the offset of an edge from a parent of two operands
abbrev pub PairAt : List ℕ → ℕ → ℕ → Type 0
PairAt x m k = (first_of x m ≤ k) × (k < mid_of x m) × (k % 2 ≡ first_of x m % 2)

-- .. or of three
abbrev pub ThreeAt : List ℕ → ℕ → ℕ → Type 0
ThreeAt x m k = (mid_of x m ≤ k) × (k < end_of x m)

-- ---- what an edge holds

-- the number at an offset. An edge from a parent of three operands is the parent alone
abbrev pub edge_at : List ℕ → ℕ → ℕ
edge_at x k = get_or x (edges_at + k) 0

-- an edge from a parent of two operands: the parent and 2,048 × the type, then the parent's other operand
abbrev pub parent_of : List ℕ → ℕ → ℕ
parent_of x k = edge_at x k % 2048

abbrev pub type_of : List ℕ → ℕ → ℕ
type_of x k = edge_at x k / 2048

abbrev pub other_of : List ℕ → ℕ → ℕ
other_of x k = edge_at x (k + 1)

-- operand i of node p, i from 0 on
abbrev pub operand_of : (ℕ → Node) → ℕ → ℕ → ℕ
operand_of t p i = get_or (operands (t p)) i 0

-- an edge of node m from p, whose operand of a side is a literal of m: its type y says kind, side and the literal's sign, o is the operand
-- of the other side
pub record Pair (t : ℕ → Node) (n m p y o : ℕ) : Type 0 where
  pub low : p < n
  pub kind : (2 < (t p).kind) × ((t p).kind < 7)
  pub side : ℕ
  pub side_low : side < 2
  pub mine : operand_of t p side / 2 ≡ m
  pub type : y ≡ 3 * ((t p).kind - 3 + 4 * side) + operand_of t p side % 2
  pub other : o ≡ operand_of t p (1 - side)
  pub other_low : o < 2 * n

-- an edge from p, which has three operands
pub record Triple (t : ℕ → Node) (n p : ℕ) : Type 0 where
  pub low : p < n
  pub kind : 6 < (t p).kind

-- an operand cell of node p names node m
abbrev pub Names : (ℕ → Node) → ℕ → ℕ → ℕ → Type 0
Names t n m p = (y : ℕ) × (y < 4 * n) × (op_node t y ≡ m) × (y / 4 ≡ p)

-- node m has an edge from p
abbrev pub Parent : List ℕ → ℕ → ℕ → Type 0
Parent x m p = ((k : ℕ) × PairAt x m k × (parent_of x k ≡ p)) ⊎ ((k : ℕ) × ThreeAt x m k × (edge_at x k ≡ p))

-- the edges of n nodes are right, and none is missing
pub record Edges (t : ℕ → Node) (n : ℕ) (x : List ℕ) : Type 0 where
  pub order : (m : ℕ) → m < n → (first_of x m ≤ mid_of x m) × (mid_of x m ≤ end_of x m) × (end_of x m ≤ most_edges)
  pub even : (m : ℕ) → m < n → mid_of x m % 2 ≡ first_of x m % 2
  pub pairs : (m k : ℕ) → m < n → PairAt x m k → Pair t n m (parent_of x k) (type_of x k) (other_of x k)
  pub threes : (m k : ℕ) → m < n → ThreeAt x m k → Triple t n (edge_at x k)
  pub complete : (s : ℕ) → s < 4 * n → op_node t s < n → Parent x (op_node t s) (s / 4)
