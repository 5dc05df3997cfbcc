-- How many steps the derivation in the solver's order has, up to a limit, and what counting them leaves of the work area: what the
-- search would. Assumes nothing.
use Rattle.std.specs.Prelude.{◌≡◌, Option, None, Some, List, [], ◌∷◌, ℕ, ◌+◌, ◌-◌, ◌≤◌, length, get_or}
use Rattle.scope.specs.declared.Node.{Node}
use Rattle.calculus.specs.Expansion.{neg, expand}
use Rattle.calculus.specs.Order.{clauses, tree}
use Rattle.calculus.specs.Model.{All}
-- the count stops at its limit; the search goes on, since 30, 'goal possible', is checked before 31, 'more bytes needed'
pub use Rattle.calculus.specs.Count.{at_most}
use Rattle.rules.specs.declared.Step.{Step}
use Rattle.rules.specs.declared.Version.{Version}
use Rattle.rules.specs.declared.Version.TheVariants.{One, Two}
use Rattle.rules.specs.Derivation.{steps_of}
use Rattle.state.specs.Work.{g_of}
use Rattle.searching.specs.Search.{Settled, Searched}
use Rattle.searching.specs.declared.Stop.TheVariants.{Closed as Shut, Fork}
use Rattle.searching.specs.declared.Found.{Found}
use Rattle.searching.specs.declared.Found.TheVariants.{Model, Closed as AllClosed}
use Rattle.counting.specs.declared.Told.{Told}

-- 'a U, C or S for each UNIT, CONFLICT and SPLIT of its search, .. an R for each false literal of the clause': the steps of the
-- search from G, with as much fuel as there are undecided nodes; and how many
abbrev pub steps_from : Version → (ℕ → Node) → ℕ → List ℕ → List ℕ → List Step
steps_from v t n goals G = steps_of v (expand t) goals G (tree (expand t) goals (n - length G) G)

abbrev pub step_count : Version → (ℕ → Node) → ℕ → List ℕ → List ℕ → ℕ
step_count v t n goals G = length (steps_from v t n goals G)

-- each clause of a literal has r literals, at most three
pub record Lengths (t : ℕ → Node) (l r : ℕ) : Type 0 where
  pub all : All (λ c. length c ≡ r) (expand t l)
  pub low : r ≤ 3

-- how many literals clause k has, at most three
pub record Sized (t : ℕ → Node) (goals G : List ℕ) (k r : ℕ) : Type 0 where
  pub size : r ≡ length (get_or (clauses (expand t) goals G) k [])
  pub low : r ≤ 3

-- how many of m literals count: in version one all, an R for each false one; in version two those that are undecided
abbrev pub size_in : Version → ℕ → ℕ → ℕ
size_in One free m = m
size_in Two free m = free

pub record SizedIn (v : Version) (t : ℕ → Node) (goals G : List ℕ) (k free r : ℕ) : Type 0 where
  pub size : r ≡ size_in v free (length (get_or (clauses (expand t) goals G) k []))
  pub low : r ≤ 3

-- the units have joined, and their steps are counted, with those of the move that ends them; s were counted before
pub record Advanced (v : Version) (t : ℕ → Node) (n : ℕ) (goals w w' m' : List ℕ) (cap s : ℕ) (r : Told) : Type 0 where
  pub settled : Settled t n goals w w' m' r.stop
  pub low : r.count ≤ cap
  pub closes : r.stop ≡ Shut → r.count ≡ at_most cap (s + step_count v t n goals (g_of w))
  pub forks : (l : ℕ) → r.stop ≡ Fork l
      → at_most cap (r.count + (step_count v t n goals (l ∷ g_of w') + step_count v t n goals (neg l ∷ g_of w'))) ≡ at_most cap (s + step_count v t n goals (g_of w))

-- what a count says of the search: where there is none, a model was found
abbrev pub found_by : Option ℕ → Found
found_by None = Model
found_by (Some c) = AllClosed

-- the search is done, s steps being counted before it
pub record Tallied (v : Version) (t : ℕ → Node) (n : ℕ) (goals w w' m' : List ℕ) (cap s : ℕ) (r : Option ℕ) : Type 0 where
  -- none: a model, which is held; some: 'all branches closed'
  pub searched : Searched t n goals w w' m' (found_by r)
  -- 'It answers the step count'
  pub counted : (c : ℕ) → r ≡ Some c → c ≡ at_most cap (s + step_count v t n goals (g_of w))
