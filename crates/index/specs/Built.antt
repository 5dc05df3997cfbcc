-- What each function of this crate leaves of the index x. Assumes nothing.
use Rattle.std.specs.Prelude.{◌≡◌, cond, List, [], ◌∷◌, ℕ, zero, suc, ◌+◌, ◌-◌, ◌*◌, ◌/◌, ◌%◌, ◌<◌, ◌≤◌, eqb, ltb, get_or, length, set}
use Rattle.scope.specs.declared.Node.{Node}
use Rattle.scope.specs.Table.{operands, node_at}
use Rattle.record.specs.Place.{place_of}
use Rattle.calculus.specs.Model.{All}
use Rattle.index.specs.Index.{index_size, most_nodes, first_at, mid_at, end_at, edges_at, most_edges, codes_at, classes_at, index_node, FirstCodes, Codes, FirstClasses, Classes}
use Rattle.index.specs.Edges.{first_of, mid_of, end_of, Edges}

-- two indices agree below b
abbrev pub Same : ℕ → List ℕ → List ℕ → Type 0
Same b x x' = (i : ℕ) → i < b → get_or x' i 0 ≡ get_or x i 0

-- the n nodes' operands are literals of earlier ones
abbrev pub Early : (ℕ → Node) → ℕ → Type 0
Early t n = (m : ℕ) → m < n → All (λ l. l / 2 < m) (operands (t m))

-- the record of node m is in the table t, and has a kind
abbrev pub Recorded : List ℕ → ℕ → Type 0
Recorded t m = (place_of m + 8 ≤ length t) × (0 < (node_at t m).kind)

-- .. of each of the n nodes
abbrev pub Records : List ℕ → ℕ → Type 0
Records t n = (m : ℕ) → m < n → Recorded t m

-- the n nodes of the index are those of t
abbrev pub Agree : (ℕ → Node) → ℕ → List ℕ → Type 0
Agree t n x = (m : ℕ) → m < n → index_node x m ≡ t m

-- ---- how many numbers the edges of node m take

unfoldable pub sum : (ℕ → ℕ) → ℕ → ℕ
sum f zero = 0
sum f (suc k) = sum f k + f k

-- how many of some literals are of node m
abbrev pub is : ℕ → ℕ → ℕ
is l m = cond (eqb (l / 2) m) 1 0

unfoldable pub times : ℕ → List ℕ → ℕ
times m [] = 0
times m (l ∷ ls) = is l m + times m ls

-- by parent y: it has two operands, or three
unfoldable pub pairs_in : Node → ℕ → ℕ
pairs_in y m = cond (ltb y.kind 7) (2 * times m (operands y)) 0

unfoldable pub threes_in : Node → ℕ → ℕ
threes_in y m = cond (ltb y.kind 7) 0 (times m (operands y))

-- by the first b nodes
abbrev pub pairs_to : (ℕ → Node) → ℕ → ℕ → ℕ
pairs_to t b m = sum (λ p. pairs_in (t p) m) b

abbrev pub threes_to : (ℕ → Node) → ℕ → ℕ → ℕ
threes_to t b m = sum (λ p. threes_in (t p) m) b

-- where the edges of node m start, if those of the nodes before it stand before them
abbrev pub start_of : (ℕ → Node) → ℕ → ℕ → ℕ
start_of t n m = sum (λ i. pairs_to t n i + threes_to t n i) m

-- ---- the three steps: counting, placing, filling

-- edges are counted, those of two numbers in the second place of their node and the others in the third: u and v numbers
pub record Counted (t : ℕ → Node) (n : ℕ) (u v : ℕ → ℕ) (x : List ℕ) : Type 0 where
  pub size : length x ≡ index_size
  pub nodes : Agree t n x
  pub mid : (m : ℕ) → m < n → mid_of x m ≡ u m
  pub end : (m : ℕ) → m < n → end_of x m ≡ v m

-- a number is raised
abbrev pub raised : List ℕ → ℕ → ℕ → List ℕ
raised x i by = set x i (get_or x i 0 + by)

-- what counting the edges from node p makes of x: those of the nodes of its operands a, b and c
abbrev pub count_two : List ℕ → ℕ → ℕ → List ℕ
count_two x a b = raised (raised x (mid_at + a / 2) 2) (mid_at + b / 2) 2

abbrev pub count_three : List ℕ → ℕ → ℕ → ℕ → List ℕ
count_three x a b c = raised (raised (raised x (end_at + a / 2) 1) (end_at + b / 2) 1) (end_at + c / 2) 1

unfoldable pub count_node : List ℕ → Node → List ℕ
count_node x y = cond (ltb y.kind 3) x (cond (ltb y.kind 7) (count_two x y.a y.b) (count_three x y.a y.b y.c))

-- where each node's edges start: there is room for them, and those of two nodes stand apart
pub record Starts (t : ℕ → Node) (n : ℕ) (S : ℕ → ℕ) : Type 0 where
  pub low : (m : ℕ) → m < n → S m + (pairs_to t n m + threes_to t n m) ≤ most_edges
  pub apart : (m d k e : ℕ) → m < n → k < n → (m ≡ k → ⊥) → d < pairs_to t n m + threes_to t n m → e < pairs_to t n k + threes_to t n k → S m + d ≡ S k + e → ⊥

-- the nodes from p on below q have no operands, and what f has for them is where their edges start
abbrev pub Skips : (ℕ → Node) → (ℕ → ℕ) → (ℕ → ℕ) → ℕ → ℕ → Type 0
Skips t S f p q = (p ≤ q) × ((m : ℕ) → p ≤ m → m < q → ((t m).kind < 3) × (f m ≡ S m))

-- from p on, q is the first of the n nodes that is in the chain, n where none is, and f has the next of each that is
pub data Chain (t : ℕ → Node) (S f : ℕ → ℕ) (n : ℕ) : ℕ → ℕ → Type 0 where
  ends : (p : ℕ) → Skips t S f p n → Chain t S f n p n
  goes : (p q : ℕ) → Skips t S f p q → q < n → Chain t S f n (suc q) (f q) → Chain t S f n p q

-- each node has its places: the second is where its edges start, the third is where those from parents of three operands do, and by the
-- first the nodes are chained from head on
pub record Placed (t : ℕ → Node) (n head : ℕ) (x : List ℕ) : Type 0 where
  pub size : length x ≡ index_size
  pub nodes : Agree t n x
  pub starts : Starts t n (mid_of x)
  pub end : (m : ℕ) → m < n → end_of x m ≡ mid_of x m + pairs_to t n m
  pub chained : Chain t (mid_of x) (first_of x) n 0 head

-- an edge is put where the second or the third place of its node says, which goes on behind it: from p, whose operands are mine and other,
-- y is 3 × (kind - 3 + 4 × side)
abbrev pub put_pair : List ℕ → ℕ → ℕ → ℕ → ℕ → List ℕ
put_pair x p mine other y =
    let k = mid_of x (mine / 2) in
    set (set (set x (mid_at + mine / 2) (k + 2)) (edges_at + k) (p + 2048 * (y + mine % 2))) (edges_at + (k + 1)) other

abbrev pub put_three : List ℕ → ℕ → ℕ → List ℕ
put_three x p mine =
    let k = end_of x (mine / 2) in
    set (set x (end_at + mine / 2) (k + 1)) (edges_at + k) p

-- the edges from node p
abbrev pub put_two : List ℕ → ℕ → ℕ → ℕ → ℕ → List ℕ
put_two x p kind a b = put_pair (put_pair x p a b (3 * (kind - 3))) p b a (3 * (kind + 1))

abbrev pub put_all : List ℕ → ℕ → ℕ → ℕ → ℕ → List ℕ
put_all x p a b c = put_three (put_three (put_three x p a) p b) p c

unfoldable pub put_node : List ℕ → ℕ → Node → List ℕ
put_node x p y = cond (ltb y.kind 3) x (cond (ltb y.kind 7) (put_two x p y.kind y.a y.b) (put_all x p y.a y.b y.c))

-- there is room for the edges from node y
pub record Room (n : ℕ) (y : Node) (x : List ℕ) : Type 0 where
  pub size : length x ≡ index_size
  pub few : n ≤ most_nodes
  pub known : All (λ l. l / 2 < n) (operands y)
  pub pairs : (m : ℕ) → m < n → mid_of x m + pairs_in y m ≤ most_edges
  pub threes : (m : ℕ) → m < n → end_of x m + threes_in y m ≤ most_edges

-- no edge is counted
abbrev pub Blank : ℕ → List ℕ → Type 0
Blank n x = (m : ℕ) → m < n → (mid_of x m ≡ 0) × (end_of x m ≡ 0)

-- all nodes' edges are counted, or have their places
abbrev pub Counting : ℕ → List ℕ → Type 0
Counting n x = (t : ℕ → Node) × Early t n × Counted t n (pairs_to t n) (threes_to t n) x

abbrev pub Placing : ℕ → ℕ → List ℕ → Type 0
Placing n head x = (t : ℕ → Node) × Early t n × Placed t n head x

-- the edges stand, and the nodes are as they were
pub record Linked (n : ℕ) (x x' : List ℕ) : Type 0 where
  pub size : length x' ≡ index_size
  pub nodes : Same first_at x x'
  pub edges : Edges (index_node x') n x'

-- ---- the index of a table

-- the first b nodes are those of the table t, and no edge is counted yet
pub record Loaded (t : List ℕ) (b : ℕ) (x : List ℕ) : Type 0 where
  pub size : length x ≡ index_size
  pub nodes : (m : ℕ) → m < b → index_node x m ≡ node_at t m
  pub counts : Blank b x

-- the first k codes stand in x', and what is before them is as it was
pub record Copied (k : ℕ) (x x' : List ℕ) : Type 0 where
  pub size : length x' ≡ index_size
  pub before : Same codes_at x x'
  pub codes : FirstCodes k x'

-- so do the first k classes
pub record Classified (k : ℕ) (x x' : List ℕ) : Type 0 where
  pub size : length x' ≡ index_size
  pub before : Same classes_at x x'
  pub classes : FirstClasses k x'

-- the index of the n nodes of the table t
pub record Built (t : List ℕ) (n : ℕ) (x : List ℕ) : Type 0 where
  pub nodes : (m : ℕ) → m < n → index_node x m ≡ node_at t m
  pub edges : Edges (index_node x) n x
  pub codes : Codes x
  pub classes : Classes x
