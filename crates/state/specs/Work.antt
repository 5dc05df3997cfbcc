-- The layout of the work area: four cells (the cursor, the first conflict, how many goals wait, the place of the last move), and from 4 on
-- the trail: how many literals are held true, the literals in the order they joined, each node's entry, how many clauses stand before each
-- literal's, each literal's value, the cursor as each literal joined, a cell that is 0 only where no goal is false (specs/Holds), and what
-- is kept of the units among each literal's clauses: the literal that the first forces, and 4,096 times which clause it is. Assumes nothing.
use Rattle.std.specs.Prelude.{◌≡◌, List, ℕ, ◌+◌, ◌≤◌, get_or, length}
use Rattle.scope.specs.declared.Node.{Node}
use Rattle.calculus.specs.Expansion.{expand}
use Rattle.calculus.specs.Order.{clauses}
pub use Rattle.calculus.specs.Model.{Goals}
pub use Rattle.trail.specs.Trail.{lit_at, entry_of, held, value_code, Trail}
unfoldable pub use Rattle.trail.specs.Trail.{trail}
pub use Rattle.clause.specs.Coded.{tail, value_at, g_of, Valued}

-- where the trail stands, and in it the literals, the entries (crate trail), the bases, the values (crate clause), the cursors and the codes
abbrev pub trail_at : ℕ
trail_at = 4

abbrev pub literals_at : ℕ
literals_at = 1

abbrev pub entries_at : ℕ
entries_at = 2017

-- past the entries
abbrev pub entries_end : ℕ
entries_end = 4033

abbrev pub bases_at : ℕ
bases_at = 4034

abbrev pub values_at : ℕ
values_at = 6051

-- how many values there are: those of the literals of all nodes
abbrev pub values_size : ℕ
values_size = 4032

abbrev pub cursors_at : ℕ
cursors_at = 10083

abbrev pub codes_at : ℕ
codes_at = 12100

-- what the work area has at least
abbrev pub area : ℕ
area = 32768

-- the cells: every clause of the positions before the first is met; the first position with a clause that is all false, or `most_nodes`;
-- how many goals wait, 0 if every one is true; the clause that the last move is on
abbrev pub cursor_of : List ℕ → ℕ
cursor_of w = get_or w 0 0

abbrev pub conflict_of : List ℕ → ℕ
conflict_of w = get_or w 1 0

abbrev pub waiting_of : List ℕ → ℕ
waiting_of w = get_or w 2 0

abbrev pub place_of : List ℕ → ℕ
place_of w = get_or w 3 0

-- of a trail r: how many clauses stand before those of position q, what the cursor was as the literal at q joined, and what is kept of its
-- units
abbrev pub base_of : (ℕ → ℕ) → ℕ → ℕ
base_of r q = r (bases_at + q)

abbrev pub cursor_at : (ℕ → ℕ) → ℕ → ℕ
cursor_at r q = r (cursors_at + q)

abbrev pub code_at : (ℕ → ℕ) → ℕ → ℕ
code_at r q = r (codes_at + q)

-- the trail is right, and so is the value of each literal
pub record Ready (n : ℕ) (w : List ℕ) : Type 0 where
  pub size : area ≤ length w
  pub trail : Trail n (tail w)
  pub values : Valued (tail w)

-- each position has the number of clauses before it
abbrev pub Numbered : (ℕ → Node) → List ℕ → (ℕ → ℕ) → Type 0
Numbered t goals r = (q : ℕ) → q ≤ r 0 → base_of r q ≡ length (clauses (expand t) goals (trail q r))
