-- What the search's functions leave of the work area and its sets: the literals held, and what the search from them ends on.
-- Assumes nothing.
use Rattle.std.specs.Prelude.{◌≡◌, List, [], ℕ, ◌-◌, ◌≤◌, length, drop}
use Rattle.scope.specs.declared.Node.{Node}
use Rattle.calculus.specs.Expansion.{expand}
use Rattle.calculus.specs.Order.{move, tree, Answer, possible, impossible, answer_of}
use Rattle.calculus.specs.declared.Move.TheVariants.{Split}
use Rattle.state.specs.Work.{g_of, Ready}
use Rattle.state.specs.Holds.{Holds}
use Rattle.searching.specs.declared.Stop.{Stop}
use Rattle.searching.specs.declared.Stop.TheVariants.{Closed as Shut, Model as Open, Fork}
use Rattle.searching.specs.declared.Found.{Found}
use Rattle.searching.specs.declared.Found.TheVariants.{Model, Closed}

-- what the search from G ends on, with as much fuel as there are undecided nodes
abbrev pub result : (ℕ → Node) → ℕ → List ℕ → List ℕ → Answer
result t n goals G = answer_of (tree (expand t) goals (n - length G) G)

-- F is G with literals that joined later
pub record Extends (G F : List ℕ) : Type 0 where
  pub more : length G ≤ length F
  pub first : drop (length F - length G) F ≡ G

-- what a search found, with the literals held at its end
abbrev pub found_of : Found → List ℕ → Answer
found_of Model G = possible G
found_of Closed G = impossible

-- the units have joined: the search from here ends on what the search from the start does, and the next move is no unit
pub record Settled (t : ℕ → Node) (n : ℕ) (goals w w' m' : List ℕ) (r : Stop) : Type 0 where
  pub holds : Holds t n goals w' m'
  pub grows : Extends (g_of w) (g_of w')
  pub same : result t n goals (g_of w') ≡ result t n goals (g_of w)
  pub closes : r ≡ Shut → result t n goals (g_of w') ≡ impossible
  pub ends : r ≡ Open → result t n goals (g_of w') ≡ possible (g_of w')
  pub forks : (l : ℕ) → r ≡ Fork l → move (expand t) goals (g_of w') ≡ Split l

-- the search is done: its answer, with the final literals where there is a model; those of the start are still held
pub record Searched (t : ℕ → Node) (n : ℕ) (goals w w' m' : List ℕ) (r : Found) : Type 0 where
  pub holds : Holds t n goals w' m'
  pub grows : Extends (g_of w) (g_of w')
  pub answered : found_of r (g_of w') ≡ result t n goals (g_of w)

-- the goals were put from the start, with nothing held: the answer of the whole tree, with the final literals where there is a model
pub record Solved (t : ℕ → Node) (n : ℕ) (goals w' : List ℕ) (r : Found) : Type 0 where
  pub ready : Ready n w'
  pub answered : found_of r (g_of w') ≡ answer_of (tree (expand t) goals n [])
