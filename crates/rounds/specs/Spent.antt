-- What the functions of this crate make of the questions' searches in a call, turn by turn. Assumes nothing.
use Rattle.std.specs.Prelude.{◌≡◌, Bool, true, List, ◌++◌, Option, Some, None, ℕ, ◌+◌, ◌-◌, ◌<◌, ◌≤◌, eqb, ltb, length, get_or, drop}
use Rattle.scope.specs.declared.Node.{Node}
use Rattle.scope.specs.Table.{list_from}
use Rattle.calculus.specs.Count.{one}
use Rattle.calculus.specs.Expansion.{expand}
use Rattle.calculus.specs.Order.{setting_of}
use Rattle.calculus.specs.Decide.{settings_on}
use Rattle.index.specs.Index.{index_node}
use Rattle.state.specs.Work.{g_of}
use Rattle.turns.specs.Turn.{Search, running, verdict_of, is_running, number_of, turn, times, taken_up}
use Rattle.turns.specs.Round.{Round, total, turn_for, spend, turns_for, written}
use Rattle.replaying.specs.Standing.{search_by, Turned}
use Rattle.roomareas.specs.Areas.{area_size, points_size, part_of, stored, goal_of, goals_of}
use Rattle.roomareas.specs.Changes.{Beside, MadeAt}

-- question j is unfinished, by the verdicts
abbrev pub runs_by : List ℕ → ℕ → Bool
runs_by v j = eqb (get_or v j 0) 2

-- the first of some numbers below q that passes was sought: a number that is not below q says that none does
abbrev pub Sought : ℕ → ℕ → Option ℕ → Type 0
Sought r q None = q ≤ r
Sought r q (Some i) = (i ≡ r) × (i < q)

-- each ATOM of the index has a point
abbrev pub Pointed : List ℕ → ℕ → Type 0
Pointed x n = (i : ℕ) → i < n → (index_node x i).kind ≡ 2 → (index_node x i).a < 1024

-- question i's setting bytes are those of the literals that its area holds
pub record MarkedAt (t : ℕ → Node) (n i : ℕ) (w s s' : List ℕ) : Type 0 where
  pub setting : part_of points_size i s' ≡ setting_of (list_from t 0 n) (g_of (part_of area_size i w)) ++ drop 1024 (part_of points_size i s)
  pub others : Beside points_size i s s'

-- what question i's search comes to in k turns
abbrev pub turns_at : (ℕ → Node) → List ℕ → ℕ → ℕ → List ℕ → Search
turns_at t questions i k w = times (turn (expand t) (goals_of questions i)) k (running (g_of (part_of area_size i w)))

-- of up to `most` turns, question i has made k
pub record Served (t : ℕ → Node) (n : ℕ) (questions : List ℕ) (i most k : ℕ) (s w m o s' w' m' o' : List ℕ) (r : ℕ) : Type 0 where
  pub made : MadeAt t n (goals_of questions i) i w m o w' m' o' (turns_at t questions i k w) r
  pub turned : Turned (turn (expand t) (goals_of questions i)) (running (g_of (part_of area_size i w))) most k
  pub setting : part_of points_size i s' ≡ settings_on (list_from t 0 n) (part_of points_size i s) (verdict_of (turns_at t questions i k w))
  pub others : Beside points_size i s s'

-- what a search comes to that is taken up from its area w and makes a turn
abbrev pub next_in : (ℕ → Node) → List ℕ → List ℕ → Search
next_in t goals w = turn (expand t) goals (running (taken_up (expand t) goals (g_of w)))

-- what a search has come to is put into its area
pub record VerdictPut (v : ℕ) (w w' : List ℕ) : Type 0 where
  pub search : stored w' ≡ search_by v (g_of w)

-- so it has, and was put down, and its setting bytes are written
pub record Stepped (t : ℕ → Node) (n : ℕ) (goals s w s' w' : List ℕ) (r : ℕ) : Type 0 where
  pub number : r ≡ number_of (next_in t goals w)
  pub search : stored w' ≡ next_in t goals w
  pub setting : s' ≡ settings_on (list_from t 0 n) s (verdict_of (next_in t goals w))

-- so has question i's
pub record SteppedAt (t : ℕ → Node) (n : ℕ) (goals : List ℕ) (i : ℕ) (s w s' w' : List ℕ) (r : ℕ) : Type 0 where
  pub here : Stepped t n goals (part_of points_size i s) (part_of area_size i w) (part_of points_size i s') (part_of area_size i w') r
  pub areas : Beside area_size i w w'
  pub points : Beside points_size i s s'

-- the round of a call
abbrev pub round_in : (ℕ → Search) → ℕ → Round
round_in searches next = record { searches = searches; next = next }

-- the round after so many turns, and the turns of each question
abbrev pub round_after : (ℕ → Node) → List ℕ → (ℕ → Search) → ℕ → ℕ → Round
round_after t questions before first k = spend (turn_for (expand t) (goal_of questions)) (length questions) k (round_in before first)

abbrev pub turns_after : (ℕ → Node) → List ℕ → (ℕ → Search) → ℕ → ℕ → ℕ → ℕ
turns_after t questions before first k i = turns_for (turn_for (expand t) (goal_of questions)) (length questions) k (round_in before first) i

-- k turns have been spent on the questions, whose searches stood as `before` and stand as `after`, from the settings s and the verdicts v on
pub record Spent (t : ℕ → Node) (n : ℕ) (questions s v : List ℕ) (before : ℕ → Search) (first k : ℕ) (s' v' turns' : List ℕ) (after : ℕ → Search)
    (up : ℕ) : Type 0 where
  pub next : up ≡ (round_after t questions before first k).next
  pub searches : (i : ℕ) → i < length questions → after i ≡ (round_after t questions before first k).searches i
  pub numbers : (i : ℕ) → i < length questions → get_or v' i 0 ≡ number_of (after i)
  pub turns : (i : ℕ) → i < length questions → get_or turns' i 0 ≡ turns_after t questions before first k i
  pub settings : (i : ℕ) → i < length questions
      → part_of points_size i s' ≡ written (list_from t 0 n) (before i) ((round_after t questions before first k).searches i) (part_of points_size i s)
  -- nothing else changes
  pub beyond : (i : ℕ) → length questions ≤ i → (part_of points_size i s' ≡ part_of points_size i s) × (get_or v' i 0 ≡ get_or v i 0) × (get_or turns' i 0 ≡ 0)

-- ---- turns question by question

-- the questions' searches stood as `before` and stand as `after`: each has made its own number of turns, and ran before every one of them
pub record Apart (t : ℕ → Node) (n : ℕ) (questions s v : List ℕ) (before : ℕ → Search) (s' v' turns' : List ℕ) (after : ℕ → Search) : Type 0 where
  pub searches : (i : ℕ) → i < length questions → after i ≡ times (turn_for (expand t) (goal_of questions) i) (get_or turns' i 0) (before i)
  pub ran : (i : ℕ) → i < length questions → (j : ℕ) → j < get_or turns' i 0
      → is_running (times (turn_for (expand t) (goal_of questions) i) j (before i)) ≡ true
  pub numbers : (i : ℕ) → i < length questions → get_or v' i 0 ≡ number_of (after i)
  pub settings : (i : ℕ) → i < length questions → part_of points_size i s' ≡ written (list_from t 0 n) (before i) (after i) (part_of points_size i s)
  pub beyond : (i : ℕ) → length questions ≤ i → (part_of points_size i s' ≡ part_of points_size i s) × (get_or v' i 0 ≡ get_or v i 0) × (get_or turns' i 0 ≡ 0)

-- the laps that question i has made: those before the first one up have had a turn of the first lap before
abbrev pub laps_by : ℕ → List ℕ → ℕ → ℕ
laps_by first turns i = get_or turns i 0 + one (ltb i first)

-- each of q questions has made so many laps, unless its search was over before
pub record Level (q first laps : ℕ) (turns : List ℕ) (after : ℕ → Search) : Type 0 where
  pub some : 1 ≤ laps
  pub most : (i : ℕ) → i < q → laps_by first turns i ≤ laps
  pub level : (i : ℕ) → i < q → is_running (after i) ≡ true → laps_by first turns i ≡ laps

-- k turns of an allowance, if any were made, were full laps
pub record Climbs (t : ℕ → Node) (n : ℕ) (questions s v : List ℕ) (before : ℕ → Search) (first allowance : ℕ) (s' v' turns' : List ℕ)
    (after : ℕ → Search) (k : ℕ) : Type 0 where
  pub apart : Apart t n questions s v before s' v' turns' after
  pub all : k ≡ total (λ i. get_or turns' i 0) (length questions)
  pub within : k ≤ allowance
  pub laps : ℕ
  pub few : laps ≤ allowance
  pub level : 0 < k → Level (length questions) first laps turns' after

-- r is the number after that of the last of q questions that has made the most laps; the first one up, where k turns are none
pub record LastOf (q first : ℕ) (turns : List ℕ) (k r : ℕ) : Type 0 where
  pub none : k ≡ 0 → r ≡ first
  pub one : 0 < k → 0 < q → (0 < r) × (r ≤ q)
  pub most : 0 < k → (i : ℕ) → i < q → laps_by first turns i ≤ laps_by first turns (r - 1)
  pub later : 0 < k → (i : ℕ) → i < q → r ≤ i → laps_by first turns i < laps_by first turns (r - 1)
