-- What the code of a literal says: what its clauses come to under the literals held. Assumes nothing.
use Rattle.std.specs.Prelude.{◌≡◌, true, List, map, ℕ, ◌+◌, ◌-◌, ◌*◌, ◌/◌, ◌%◌, ◌<◌, length, get_or}
use Rattle.scope.specs.declared.Node.{Node}
use Rattle.scope.specs.Table.{operands}
use Rattle.calculus.specs.Expansion.{chosen, expand}
use Rattle.calculus.specs.Order.{State, state_of, value_of, is_empty, is_one, some, first_of, literal_at, bit}
use Rattle.trail.specs.Trail.{held, value_code}
pub use Rattle.index.specs.Codes.{is_open}
use Rattle.index.specs.Index.{most_literals}

-- ---- the work area, as far as a code is read off it: the trail stands from 4 on, and in it the values of the literals from 6051 on

-- number i of the trail
abbrev pub tail : List ℕ → ℕ → ℕ
tail w i = get_or w (4 + i) 0

-- of a trail r: the value that stands for literal l
abbrev pub value_at : (ℕ → ℕ) → ℕ → ℕ
value_at r l = r (6051 + l)

-- the literals held true
abbrev pub g_of : List ℕ → List ℕ
g_of w = held (tail w)

-- the trail has the value of each literal as a number, 0 undecided, 1 true, 2 false
abbrev pub Valued : (ℕ → ℕ) → Type 0
Valued r = (l : ℕ) → l < most_literals → value_at r l ≡ value_code (value_of (held r) l)

-- ---- what a code says

-- what the clauses of a literal are under G
abbrev pub states_of : (ℕ → Node) → List ℕ → ℕ → List State
states_of t G l = map (state_of G) (expand t l)

-- where the codes of a literal of node y stand, counted from those of TRUE on, nine to a row, by the values of the first two operands under G
abbrev pub row_place : Node → ℕ → List ℕ → ℕ
row_place y sign G = 9 * (2 * (y.kind - 1) + sign) + (3 * value_code (value_of G y.a) + value_code (value_of G y.b))

-- the literal that choice c is of a node's operands
abbrev pub Choice : Node → ℕ → ℕ → Type 0
Choice y c l = (c / 2 < length (operands y)) × (chosen y c ≡ l)

-- r is the code of a literal of node y whose clauses are ss: is some clause a unit, all false, open; which is the first unit and its
-- literal, which the first all false, the first undecided literal of the first open one; and how many there are
pub record Coded (y : Node) (ss : List State) (r : ℕ) : Type 0 where
  pub unit : r % 2 ≡ bit (some is_one ss)
  pub unit_clause : some is_one ss ≡ true → r / 8 % 4 ≡ first_of is_one ss
  pub unit_literal : some is_one ss ≡ true → Choice y (r / 32 % 8) (literal_at ss (first_of is_one ss))
  pub conflict : r / 2 % 2 ≡ bit (some is_empty ss)
  pub conflict_clause : some is_empty ss ≡ true → r / 256 % 4 ≡ first_of is_empty ss
  pub unmet : r / 4 % 2 ≡ bit (some is_open ss)
  pub unmet_literal : some is_open ss ≡ true → Choice y (r / 1024 % 8) (literal_at ss (first_of is_open ss))
  pub clauses : r / 8192 ≡ length ss
