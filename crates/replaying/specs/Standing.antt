-- What a question's work area w, its set of units m and its stack of open splits o hold of its search, and what a turn leaves of them.
-- Assumes nothing.
use Rattle.std.specs.Prelude.{◌≡◌, Bool, true, cond, List, ◌∷◌, ℕ, ◌<◌, ◌≤◌, eqb, length, get_or}
use Rattle.scope.specs.declared.Node.{Node}
use Rattle.replaying.specs.declared.Verdict.{Verdict}
use Rattle.replaying.specs.declared.Verdict.TheVariants.{Impossible, Possible, Unfinished}
use Rattle.calculus.specs.Expansion.{expand}
use Rattle.calculus.specs.Order.{move}
use Rattle.trail.specs.Trail.{held}
use Rattle.state.specs.Work.{g_of}
use Rattle.state.specs.Holds.{Holds}
use Rattle.turns.specs.Turn.{Search, running, found, closed, is_running, number_of, follows, opens, replays, times}

-- what a search has come to, as the number that areas and reports have for it
abbrev pub number_by : Verdict → ℕ
number_by Impossible = 0
number_by Possible = 1
number_by Unfinished = 2

-- a stack: how many, and from 1 on each, the newest last; here as a list, the newest first
abbrev pub stack_size : ℕ
stack_size = 2017

abbrev pub stack_of : List ℕ → List ℕ
stack_of o = held (λ i. get_or o i 0)

-- the search of goals runs, at the literals held: they replay, and the stack has the open splits
pub record Stands (t : ℕ → Node) (n : ℕ) (goals w m o : List ℕ) : Type 0 where
  pub holds : Holds t n goals w m
  pub replayed : replays (expand t) goals (g_of w) ≡ true
  pub size : length o ≡ stack_size
  pub splits : stack_of o ≡ opens (expand t) goals (g_of w)

-- the search is at s
abbrev pub At : (ℕ → Node) → ℕ → List ℕ → List ℕ → List ℕ → List ℕ → Search → Type 0
At t n goals w m o (running G) = Stands t n goals w m o × (g_of w ≡ G)
At t n goals w m o (found G) = g_of w ≡ G
At t n goals w m o closed = Unit {0}

-- ---- what each function leaves

-- whether l may join at the next move; if so it has joined
pub record Followed (t : ℕ → Node) (n : ℕ) (goals w w' m' o' : List ℕ) (l : ℕ) (r : Bool) : Type 0 where
  pub told : r ≡ follows (move (expand t) goals (g_of w)) l
  pub stands : r ≡ true → Stands t n goals w' m' o'
  pub list : r ≡ true → g_of w' ≡ l ∷ g_of w

-- whether literals replay; if so they are held
pub record Replayed (t : ℕ → Node) (n : ℕ) (goals G w' m' o' : List ℕ) (r : Bool) : Type 0 where
  pub told : r ≡ replays (expand t) goals G
  pub stands : r ≡ true → Stands t n goals w' m' o'
  pub list : r ≡ true → g_of w' ≡ G

-- what a number and the literals held say of a search
unfoldable pub search_by : ℕ → List ℕ → Search
search_by v G = cond (eqb v 0) closed (cond (eqb v 1) (found G) (running G))

-- the search is at s, and r says what it has come to
pub record Made (t : ℕ → Node) (n : ℕ) (goals w m o : List ℕ) (s : Search) (r : ℕ) : Type 0 where
  pub number : r ≡ number_of s
  pub at : At t n goals w m o s

-- of up to `most` turns, k were made from s on: the search ran before each, and there were fewer only where it was over
pub record Turned (turn_of : Search → Search) (s : Search) (most k : ℕ) : Type 0 where
  pub few : k ≤ most
  pub ran : (j : ℕ) → j < k → is_running (times turn_of j s) ≡ true
  pub whole : is_running (times turn_of k s) ≡ true → k ≡ most
