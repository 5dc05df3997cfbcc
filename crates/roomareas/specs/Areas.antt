-- 'Every question has, in question order, its own work area and 1,024 setting bytes'; and the round that the areas hold between calls: 'by a
-- definition that the contracts cite, each holds its question's search'. Assumes nothing.
use Rattle.std.specs.Prelude.{List, [], ◌∷◌, ℕ, ◌*◌, get_or, take, drop}
use Rattle.calculus.specs.Decide.{nodes_of}
use Rattle.calculus.specs.Expansion.{expand}
use Rattle.scope.specs.declared.Node.{Node}
use Rattle.state.specs.Work.{g_of}
use Rattle.turns.specs.Turn.{Search, resumed}
use Rattle.turns.specs.Round.{Round}
use Rattle.replaying.specs.Standing.{search_by}

-- the numbers of an area, and the setting bytes of a question
abbrev pub area_size : ℕ
area_size = 32768

abbrev pub points_size : ℕ
points_size = 1024

-- question i's part, where each has so many
abbrev pub part_of : ℕ → ℕ → List ℕ → List ℕ
part_of size i xs = take size (drop (size * i) xs)

-- between calls, an area's number 0 is what its search has come to (0 impossible, 1 possible, 2 unfinished); the literals held are those of
-- the trail (crate state): number 4 is how many, and from 5 on they stand in the order they joined
abbrev pub verdict_at : ℕ
verdict_at = 0

abbrev pub stored : List ℕ → Search
stored a = search_by (get_or a verdict_at 0) (g_of a)

-- number 1 of the first area is the number after that of the question served last
abbrev pub next_at : ℕ
next_at = 1

-- the goal of question i
abbrev pub goal_of : List ℕ → ℕ → ℕ
goal_of questions i = get_or questions i 0

abbrev pub goals_of : List ℕ → ℕ → List ℕ
goals_of questions i = goal_of questions i ∷ []

-- the search that area i holds, of questions over any clauses
abbrev pub search_in : (ℕ → List (List ℕ)) → List ℕ → List ℕ → ℕ → Search
search_in e questions w i = resumed e (goals_of questions i) (stored (part_of area_size i w))

-- the round that the areas hold, of questions over any clauses
abbrev pub round_by : (ℕ → List (List ℕ)) → List ℕ → List ℕ → Round
round_by e questions w = record { searches = search_in e questions w; next = get_or w next_at 0 }

-- .. and over those of a table's nodes
abbrev pub round_of : List Node → List ℕ → List ℕ → Round
round_of rs questions w = round_by (expand (nodes_of rs)) questions w
