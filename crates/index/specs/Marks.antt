-- Where only the nodes below some literals are wanted: from the highest node down, a marked node is loaded, and marks those of its operands.
-- All its parents are met before it, so its edges are counted, and get their places then. The nodes met are chained, each to the one met
-- before it. A block of 63 nodes that has no marked one is not looked at. Assumes nothing.
use Rattle.std.specs.Prelude.{◌≡◌, ◌⊎◌, Option, None, Some, List, [], ◌∷◌, cond, ℕ, zero, suc, ◌+◌, ◌*◌, ◌/◌, ◌<◌, ◌≤◌, eqb, get_or, set}
use Rattle.scope.specs.declared.Node.{Node}
use Rattle.scope.specs.Table.{operands, node_at}
use Rattle.calculus.specs.Model.{All}
use Rattle.calculus.specs.Agree.{Alike, Closed}
use Rattle.index.specs.declared.Descent.{Descent}
use Rattle.index.specs.Index.{most_nodes, first_at, mid_at, end_at, most_edges, edges_at, codes_at, index_node, stored, Codes, Classes}
use Rattle.index.specs.Edges.{mid_of, end_of, Edges}
use Rattle.index.specs.Built.{sum, count_node}

-- in the place of a node that is not wanted: a TRUE, which has no operands
abbrev pub bare : Node
bare = record { kind = 1; a = 0; b = 0; c = 0 }

-- a mark on a literal's node is a number that is not 0 where one less than its kind will be; its block, that of 63 nodes, so of 126
-- literals, is flagged with it, where the codes will be
abbrev pub marked : List ℕ → ℕ → List ℕ
marked x l = set (set x (4 * (l / 2)) 1) (codes_at + l / 126) 1

-- node p, which is not passed yet, is marked
abbrev pub Wanted : List ℕ → ℕ → Type 0
Wanted x p = 0 < get_or x (4 * p) 0

unfoldable pub mark_all : List ℕ → List ℕ → List ℕ
mark_all x [] = x
mark_all x (l ∷ ls) = mark_all (marked x l) ls

-- the edges of node p, which are counted, get their places, and it is chained to the node met last
abbrev pub placed_at : List ℕ → ℕ → Descent → List ℕ
placed_at x p d = set (set (set x (first_at + p) d.last) (mid_at + p) d.start) (end_at + p) (d.start + mid_of x p)

-- how far that comes
abbrev pub met_at : List ℕ → Descent → ℕ → Descent
met_at x d p = record { start = d.start + (mid_of x p + end_of x p); last = p }

-- node p of the table t is loaded if it is marked, with its places, and its own edges are counted
unfoldable pub passed : List ℕ → List ℕ → Descent → ℕ → List ℕ
passed t x d p =
    cond (eqb (get_or x (4 * p) 0) 0) x
    (count_node (mark_all (stored (placed_at x p d) p (node_at t p)) (operands (node_at t p))) (node_at t p))

-- how far passing it comes
unfoldable pub descended : List ℕ → Descent → ℕ → Descent
descended x d p = cond (eqb (get_or x (4 * p) 0) 0) d (met_at x d p)

-- .. and so on down, of the first p nodes
unfoldable pub sunk : List ℕ → List ℕ → Descent → ℕ → List ℕ × Descent
sunk t x d zero = (x, d)
sunk t x d (suc p) = sunk t (passed t x d p) (descended x d p) p

-- no node is met
abbrev pub top : ℕ → Descent
top n = record { start = 0; last = n }

-- there is room behind the start for the edges that are counted for the first p nodes, and for those from them, and the last fits a cell
abbrev pub Fits : ℕ → Descent → List ℕ → Type 0
Fits p d x = (d.start + sum (λ i. mid_of x i + end_of x i) p + 4 * p ≤ most_edges) × (d.last ≤ most_nodes)

-- of the nodes from r on below e none is marked
abbrev pub Unmarked : ℕ → ℕ → List ℕ → Type 0
Unmarked r e x = (m : ℕ) → r ≤ m → m < e → get_or x (4 * m) 0 ≡ 0

-- nodes that are not marked are passed over, from end down to a marked one, or to base where none is
abbrev pub Over : ℕ → ℕ → List ℕ → Option ℕ → Type 0
Over base end x None = Unmarked base end x
Over base end x (Some p) = (base ≤ p) × (p < end) × Wanted x p × Unmarked (suc p) end x

-- the blocks of those of the first p nodes that are marked are flagged
abbrev pub Flagged : ℕ → List ℕ → Type 0
Flagged p x = (m : ℕ) → m < p → Wanted x m → 0 < get_or x (codes_at + m / 63) 0

-- no node is there yet, and no edge is counted
abbrev pub Unfilled : List ℕ → Type 0
Unfilled x = (i : ℕ) → i < edges_at → get_or x i 0 ≡ 0

-- the index of those of the n nodes of the table t that are below the literals
pub record Pruned (t ls : List ℕ) (n : ℕ) (x : List ℕ) : Type 0 where
  pub nodes : (m : ℕ) → m < n → (index_node x m ≡ node_at t m) ⊎ (index_node x m ≡ bare)
  pub closed : Closed n (index_node x) (node_at t)
  pub literals : All (Alike (index_node x) (node_at t)) ls
  pub edges : Edges (index_node x) n x
  pub codes : Codes x
  pub classes : Classes x
