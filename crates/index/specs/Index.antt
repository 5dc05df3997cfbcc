-- The index of a table, 22,626 numbers: four numbers a node, each node's edges from its parents, the codes and the classes.
-- Assumes nothing.
use Rattle.std.specs.Prelude.{◌≡◌, List, ◌∷◌, map, ℕ, ◌+◌, ◌-◌, ◌*◌, ◌/◌, ◌%◌, ◌<◌, get_or, set}
use Rattle.scope.specs.declared.Node.{Node}
use Rattle.scope.specs.Table.{operands}
use Rattle.index.specs.Codes.{codes_size, code_at, classes_size, class_at}

abbrev pub most_nodes : ℕ
most_nodes = 2016

-- ---- the layout: node m has one less than its kind at 4 m and its operands' cells behind it; then three places for each node's edges,
-- the edges, the codes and the classes

abbrev pub first_at : ℕ
first_at = 8064

abbrev pub mid_at : ℕ
mid_at = 10080

abbrev pub end_at : ℕ
end_at = 12096

abbrev pub edges_at : ℕ
edges_at = 14112

-- how many numbers the edges have: a node of two operands has two edges of two numbers, one of three has three of one
abbrev pub most_edges : ℕ
most_edges = 8064

abbrev pub codes_at : ℕ
codes_at = 22176

abbrev pub classes_at : ℕ
classes_at = 22410

abbrev pub index_size : ℕ
index_size = 22626

-- how many literals there can be
abbrev pub most_literals : ℕ
most_literals = 4032

-- node m of the index; zeros are a TRUE
unfoldable pub index_node : List ℕ → ℕ → Node
index_node x m = record { kind = get_or x (4 * m) 0 + 1; a = get_or x (4 * m + 1) 0; b = get_or x (4 * m + 2) 0; c = get_or x (4 * m + 3) 0 }

-- node m is stored
abbrev pub stored : List ℕ → ℕ → Node → List ℕ
stored x m y = set (set (set (set x (4 * m) (y.kind - 1)) (4 * m + 1) y.a) (4 * m + 2) y.b) (4 * m + 3) y.c

-- ---- operands

-- no node
abbrev pub none : ℕ
none = 9999

-- the node that a cell names: 4 p + i is operand i of node p, i from 1 on
unfoldable pub op_node : (ℕ → Node) → ℕ → ℕ
op_node t s = get_or (none ∷ map (◌/ 2) (operands (t (s / 4)))) (s % 4) none

-- ---- the codes and the classes: the first k stand there, and all do

abbrev pub FirstCodes : ℕ → List ℕ → Type 0
FirstCodes k x = (i : ℕ) → i < k → get_or x (codes_at + i) 0 ≡ code_at i

abbrev pub Codes : List ℕ → Type 0
Codes x = FirstCodes codes_size x

abbrev pub FirstClasses : ℕ → List ℕ → Type 0
FirstClasses k x = (i : ℕ) → i < k → get_or x (classes_at + i) 0 ≡ class_at i

abbrev pub Classes : List ℕ → Type 0
Classes x = FirstClasses classes_size x
