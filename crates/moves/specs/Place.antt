-- The place of the clause that a move is on: 4 × position + which of its literal's clauses, or `goals_at` + which goal. Assumes nothing.
use Rattle.std.specs.Prelude.{◌≡◌, true, cond, List, [], Option, None, Some, ℕ, ◌+◌, ◌-◌, ◌/◌, ◌%◌, ◌<◌, ◌≤◌, ltb, length, get_or}
use Rattle.scope.specs.declared.Node.{Node}
use Rattle.calculus.specs.Expansion.{expand}
use Rattle.calculus.specs.Order.{holds, value_of, clauses, move, some}
use Rattle.calculus.specs.Model.{Below}
use Rattle.calculus.specs.declared.Move.{Move}
use Rattle.calculus.specs.declared.Move.TheVariants.{Conflict, Unit as Single, Done, Split}
use Rattle.clause.specs.declared.Clause.{Clause}
use Rattle.moves.specs.declared.Forced.{Forced}
use Rattle.clause.specs.Literals.{literals}
use Rattle.clause.specs.Coded.{is_open, Coded}
use Rattle.state.specs.Work.{tail, lit_at, base_of, g_of, value_code, cursor_of, place_of}
use Rattle.state.specs.Holds.{states_at, Holds}

abbrev pub goals_at : ℕ
goals_at = 8064

-- the number of the clause at the place that is kept
unfoldable pub place_number : List ℕ → ℕ
place_number w = cond (ltb (place_of w) goals_at) (base_of (tail w) (place_of w / 4) + place_of w % 4) (place_of w - goals_at)

-- the place that is kept is that of clause k
pub record Placed (t : ℕ → Node) (goals w : List ℕ) (k : ℕ) : Type 0 where
  pub number : place_number w ≡ k
  pub goal : goals_at ≤ place_of w → place_of w - goals_at < length goals
  pub held : place_of w < goals_at → place_of w / 4 < tail w 0
  pub column : place_of w < goals_at → place_of w % 4 < length (expand t (lit_at (tail w) (place_of w / 4)))

-- after a conflict or a unit it is that of the move's clause
abbrev pub Kept : (ℕ → Node) → List ℕ → List ℕ → Move → Type 0
Kept t goals w (Conflict k) = Placed t goals w k
Kept t goals w (Single k l) = Placed t goals w k
Kept t goals w Done = Unit {0}
Kept t goals w (Split l) = Unit {0}

-- c is the clause at the place that is kept
pub record Reasoned (t : ℕ → Node) (n : ℕ) (goals w : List ℕ) (c : Clause) : Type 0 where
  pub clause : literals c ≡ get_or (clauses (expand t) goals (g_of w)) (place_number w) []
  pub below : Below n (literals c)

-- ---- what each function finds

-- r is the first goal of a value, or how many there are
pub record FirstGoal (goals G : List ℕ) (v r : ℕ) : Type 0 where
  pub low : r ≤ length goals
  pub before : (k : ℕ) → k < r → value_code (value_of G (get_or goals k 0)) ≡ v → ⊥
  pub here : r < length goals → value_code (value_of G (get_or goals r 0)) ≡ v

-- no goal has a value
abbrev pub Without : ℕ → List ℕ → List ℕ → Type 0
Without v goals G = (k : ℕ) → k < length goals → value_code (value_of G (get_or goals k 0)) ≡ v → ⊥

-- the first goal of a value was found, or no goal has it
abbrev pub FoundGoal : List ℕ → List ℕ → ℕ → Option ℕ → Type 0
FoundGoal goals G v (Some k) = FirstGoal goals G v k × (k < length goals)
FoundGoal goals G v None = Without v goals G

-- every goal is true
abbrev pub AllTrue : List ℕ → List ℕ → Type 0
AllTrue goals G = (k : ℕ) → k < length goals → value_of G (get_or goals k 0) ≡ holds

-- one cell is changed
pub record CellSet (i v : ℕ) (w w' : List ℕ) : Type 0 where
  pub size : length w' ≡ length w
  pub cell : get_or w' i 0 ≡ v
  pub other : (j : ℕ) → (j ≡ i → ⊥) → get_or w' j 0 ≡ get_or w j 0

-- q is the first position from the cursor on that has an open clause, or how many literals are held
pub record FirstOpen (t : ℕ → Node) (w : List ℕ) (q : ℕ) : Type 0 where
  pub from : cursor_of w ≤ q
  pub low : q ≤ tail w 0
  pub before : (p : ℕ) → cursor_of w ≤ p → p < q → some is_open (states_at t (g_of w) (tail w) p) ≡ true → ⊥
  pub here : q < tail w 0 → some is_open (states_at t (g_of w) (tail w) q) ≡ true

-- that position was found, with its code, or there is none
abbrev pub OpenFrom : (ℕ → Node) → List ℕ → Option (ℕ × ℕ) → Type 0
OpenFrom t w (Some (q, code)) = FirstOpen t w q × (q < tail w 0) × Coded (t (lit_at (tail w) q / 2)) (states_at t (g_of w) (tail w) q) code
OpenFrom t w None = FirstOpen t w (tail w 0)

-- the move of a unit
abbrev pub forced_move : Forced → Move
forced_move f = Single f.number f.literal

-- the move where there is no conflict and no unit: a split on a literal, or none
abbrev pub choice_move : Option ℕ → Move
choice_move None = Done
choice_move (Some l) = Split l

-- the next move is m, on clause j of the literal at position q
pub record On (t : ℕ → Node) (goals w : List ℕ) (q j : ℕ) (m : Move) : Type 0 where
  pub held : q < tail w 0
  pub column : j < length (expand t (lit_at (tail w) q))
  pub next : move (expand t) goals (g_of w) ≡ m

-- r is the next move, and what holds after it was found
pub record Moved (t : ℕ → Node) (n : ℕ) (goals w w' m : List ℕ) (r : Move) : Type 0 where
  pub is : r ≡ move (expand t) goals (g_of w)
  pub holds_on : Holds t n goals w' m
  pub list : g_of w' ≡ g_of w
  pub kept : Kept t goals w' r
