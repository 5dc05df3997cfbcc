-- What the class of an edge says: what the clauses of the parent's held literal come to. Assumes nothing.
use Rattle.std.specs.Prelude.{◌≡◌, true, false, cond, List, ℕ, ◌+◌, ◌*◌, ◌/◌, ◌%◌, ◌<◌, ◌≤◌, eqb}
use Rattle.scope.specs.declared.Node.{Node}
use Rattle.calculus.specs.Expansion.{neg}
use Rattle.calculus.specs.Order.{State, holds, undecided, value_of, is_empty, is_one, some, first_of, literal_at}
use Rattle.clause.specs.Coded.{states_of}

-- k is what is kept of clauses whose states are ss, some of them units: which is the first, and its literal
pub record Forces (ss : List State) (k : ℕ) : Type 0 where
  pub column : k / 4096 ≡ first_of is_one ss
  pub literal : k % 4096 ≡ literal_at ss (first_of is_one ss)

-- what class r says is kept, where o is the parent's other operand: o or its negation, and which clause
unfoldable pub kept_by : ℕ → ℕ → ℕ
kept_by o r = cond (eqb (r % 2) 0) o (neg o) + r / 4096 * 4096

-- r is the class of clauses whose states are ss: 0 where none is a unit or all false, 1 where some is all false, else of the first unit
pub record Says (n : ℕ) (ss : List State) (o r : ℕ) : Type 0 where
  pub none : r ≡ 0 → (some is_one ss ≡ false) × (some is_empty ss ≡ false)
  pub conflict : r ≡ 1 → some is_empty ss ≡ true
  pub free : 2 ≤ r → some is_empty ss ≡ false
  pub unit : 2 ≤ r → some is_one ss ≡ true
  pub kept : 2 ≤ r → Forces ss (kept_by o r)
  pub kept_low : 2 ≤ r → (kept_by o r < 65536) × (kept_by o r % 4096 < 2 * n)

-- r is the class of node p, whose other operand is o: 0 where no literal of p is held
pub record Classed (t : ℕ → Node) (n : ℕ) (G : List ℕ) (p o r : ℕ) : Type 0 where
  pub idle : value_of G (2 * p) ≡ undecided → r ≡ 0
  pub held : (y : ℕ) → y / 2 ≡ p → value_of G y ≡ holds → Says n (states_of t G y) o r
