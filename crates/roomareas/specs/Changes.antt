-- What a call holds of the questions' searches, and what the functions of this crate leave. Assumes nothing.
use Rattle.std.specs.Prelude.{◌≡◌, List, [], ℕ, ◌+◌, ◌*◌, ◌<◌, ◌≤◌, length, get_or}
use Rattle.scope.specs.declared.Node.{Node}
use Rattle.calculus.specs.Expansion.{expand}
use Rattle.units.specs.Units.{words}
use Rattle.state.specs.Work.{g_of}
use Rattle.turns.specs.Turn.{Search, running, number_of}
use Rattle.replaying.specs.Standing.{stack_size, search_by, Made}
use Rattle.roomareas.specs.Areas.{area_size, part_of, stored, next_at, goals_of, search_in}

-- 'Up to 8'
abbrev pub most_questions : ℕ
most_questions = 8

-- room for each of q questions: an area, a set of units, a stack, a verdict
pub record Roomy (q : ℕ) (w m o v : List ℕ) : Type 0 where
  pub few : q ≤ most_questions
  pub work : area_size * q ≤ length w
  pub masks : words * q ≤ length m
  pub stacks : stack_size * q ≤ length o
  pub verdicts : length v ≡ most_questions

-- question i's parts can be lent: an area, a set of units, a stack
pub record Lendable (i : ℕ) (w m o : List ℕ) : Type 0 where
  pub few : i < most_questions
  pub work : area_size * (i + 1) ≤ length w
  pub masks : words * (i + 1) ≤ length m
  pub stacks : stack_size * (i + 1) ≤ length o

-- question i's part may have changed, and no other
pub record Beside (size i : ℕ) (xs ys : List ℕ) : Type 0 where
  pub length : length ys ≡ length xs
  pub other : (j : ℕ) → (j ≡ i → ⊥) → part_of size j ys ≡ part_of size j xs

-- so it is of an area, a set and a stack; there the search is at s, and r says what it has come to
pub record MadeAt (t : ℕ → Node) (n : ℕ) (goals : List ℕ) (i : ℕ) (w m o w' m' o' : List ℕ) (s : Search) (r : ℕ) : Type 0 where
  pub made : Made t n goals (part_of area_size i w') (part_of words i m') (part_of stack_size i o') s r
  pub work : Beside area_size i w w'
  pub masks : Beside words i m m'
  pub stacks : Beside stack_size i o o'

-- question i's search, in a call
abbrev pub search_at : List ℕ → List ℕ → ℕ → Search
search_at w v i = search_by (get_or v i 0) (g_of (part_of area_size i w))

-- .. and what is held of it
abbrev pub SitsAt : (ℕ → Node) → ℕ → List ℕ → List ℕ → List ℕ → List ℕ → List ℕ → ℕ → Type 0
SitsAt t n questions w m o v i =
    Made t n (goals_of questions i) (part_of area_size i w) (part_of words i m) (part_of stack_size i o) (search_at w v i) (get_or v i 0)

abbrev pub Sits : (ℕ → Node) → ℕ → List ℕ → List ℕ → List ℕ → List ℕ → List ℕ → Type 0
Sits t n questions w m o v = (i : ℕ) → i < length questions → SitsAt t n questions w m o v i

-- the searches are taken up from their areas
pub record TakenUp (t : ℕ → Node) (n : ℕ) (questions w v w' m' o' v' : List ℕ) : Type 0 where
  pub sits : Sits t n questions w' m' o' v'
  pub searches : (i : ℕ) → i < length questions → search_at w' v' i ≡ search_in (expand t) questions w i
  pub beyond : (i : ℕ) → length questions ≤ i → get_or v' i 0 ≡ get_or v i 0

-- the areas hold what the searches have come to, and whose turn is next
pub record PutDown (q up : ℕ) (w v w' : List ℕ) : Type 0 where
  pub searches : (i : ℕ) → i < q → stored (part_of area_size i w') ≡ search_at w v i
  pub next : get_or w' next_at 0 ≡ up

-- what the searches have come to was read off their areas
pub record Looked (q : ℕ) (w v v' : List ℕ) : Type 0 where
  pub numbers : (i : ℕ) → i < q → get_or v' i 0 ≡ number_of (stored (part_of area_size i w))
  pub beyond : (i : ℕ) → q ≤ i → get_or v' i 0 ≡ get_or v i 0

-- the areas hold whose turn is next, and the searches as before
pub record NextPut (up : ℕ) (w w' : List ℕ) : Type 0 where
  pub searches : (i : ℕ) → stored (part_of area_size i w') ≡ stored (part_of area_size i w)
  pub next : get_or w' next_at 0 ≡ up

-- each search is at its start, and the first question is next
pub record Opened (q : ℕ) (w' v v' : List ℕ) : Type 0 where
  pub searches : (i : ℕ) → i < q → stored (part_of area_size i w') ≡ running []
  pub next : get_or w' next_at 0 ≡ 0
  pub verdicts : (i : ℕ) → i < q → get_or v' i 0 ≡ 2
  pub beyond : (i : ℕ) → q ≤ i → get_or v' i 0 ≡ get_or v i 0
