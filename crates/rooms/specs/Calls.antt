-- What the two calls promise. Assumes nothing.
use Rattle.std.specs.Prelude.{◌≡◌, true, List, [], ℕ, ◌*◌, ◌<◌, ◌≤◌, length, get_or, drop, Result, Ok}
use Rattle.scope.specs.declared.Node.{Node}
use Rattle.scope.specs.declared.Refusal.{Refusal}
use Rattle.scope.specs.Outcome.{answer, refused, ◌>>=◌}
use Rattle.calculus.specs.Expansion.{expand}
use Rattle.calculus.specs.Decide.{nodes_of, list_row}
use Rattle.table.specs.Counted.{counted_of}
use Rattle.asking.specs.Asks.{Prepared}
use Rattle.turns.specs.Turn.{running, number_of, turn, times}
use Rattle.turns.specs.Round.{runs, remaining, total, turn_for, spend, turns_for, written}
use Rattle.roomareas.specs.Areas.{area_size, points_size, part_of, next_at, goal_of, goals_of, search_in, round_by, round_of}
use Rattle.roomareas.specs.Changes.{most_questions}
use Rattle.rooms.specs.Rooms.{Turned, admitted, open_rooms, turn_rooms, turned_of}

-- questions that may be put: not too many, and room for each
pub record Fit (questions : List ℕ) (points area : ℕ) : Type 0 where
  pub some : 0 < length questions
  pub few : length questions ≤ most_questions
  pub settings : points_size * length questions ≤ points
  pub work : area_size * length questions ≤ area

-- the rows are asked
pub record AsksRooms (t questions : List ℕ) (points area : ℕ) (x : List ℕ) (r : Result ℕ Refusal) : Type 0 where
  pub answered : counted_of r ≡ (admitted t questions points area >>= λ rs. answer (length rs))
  pub fit : (n : ℕ) → r ≡ Ok n → Fit questions points area
  pub prepared : (n : ℕ) → r ≡ Ok n
      → (needed lent room : ℕ) × (p : Prepared (list_row questions) t questions needed lent room x n) × (admitted t questions points area ≡ answer p.nodes)

-- the areas hold each question's search, m turns later: 'one turn of the plain order further for each turn reported'; over the clauses e of
-- the nodes rs, from the settings s and the areas w
pub record Went (e : ℕ → List (List ℕ)) (rs : List Node) (questions s w : List ℕ) (m : ℕ) (s' w' : List ℕ) : Type 0 where
  -- the round afterwards is that of the turns; 'resume after the question served last'
  pub searches : (i : ℕ) → i < length questions
      → search_in e questions w' i ≡ (spend (turn_for e (goal_of questions)) (length questions) m (round_by e questions w)).searches i
  pub next : get_or w' next_at 0 ≡ (spend (turn_for e (goal_of questions)) (length questions) m (round_by e questions w)).next
  -- 'a verdict comes with the turn that reaches it, the question's setting bytes change only then'
  pub settings : (i : ℕ) → i < length questions → part_of points_size i s' ≡ written rs (search_in e questions w i) (search_in e questions w' i) (part_of points_size i s)
  pub beyond : drop (points_size * length questions) s' ≡ drop (points_size * length questions) s

-- what is reported of each question: the turns made for it, and its verdict
pub record Reported (e : ℕ → List (List ℕ)) (questions w : List ℕ) (m : ℕ) (turns verdicts : List ℕ) : Type 0 where
  pub turns_size : length turns ≡ most_questions
  pub verdicts_size : length verdicts ≡ most_questions
  pub made : (i : ℕ) → i < length questions → get_or turns i 0 ≡ turns_for (turn_for e (goal_of questions)) (length questions) m (round_by e questions w) i
  pub reached : (i : ℕ) → i < length questions
      → get_or verdicts i 0 ≡ number_of ((spend (turn_for e (goal_of questions)) (length questions) m (round_by e questions w)).searches i)
  pub none : (i : ℕ) → length questions ≤ i → (get_or turns i 0 ≡ 0) × (get_or verdicts i 0 ≡ 0)

-- the first call: 'each holds its question's search, at its start'
pub record OpensRooms (t questions s w w' : List ℕ) (r : Turned) : Type 0 where
  pub answered : r ≡ turned_of (open_rooms t questions (length s) (length w))
  pub refuses : (number place : ℕ) → admitted t questions (length s) (length w) ≡ refused number place → w' ≡ w
  pub searches : (rs : List Node) → admitted t questions (length s) (length w) ≡ answer rs → (i : ℕ) → i < length questions
      → (round_of rs questions w').searches i ≡ running []
  pub next : (rs : List Node) → admitted t questions (length s) (length w) ≡ answer rs → (round_of rs questions w').next ≡ 0

-- a later call, with an allowance of m turns
pub record TurnsRooms (t questions s w : List ℕ) (m : ℕ) (s' w' : List ℕ) (r : Turned) : Type 0 where
  pub answered : r ≡ turned_of (turn_rooms t questions (length s) w m)
  pub refuses : (number place : ℕ) → admitted t questions (length s) (length w) ≡ refused number place → (s' ≡ s) × (w' ≡ w)
  pub went : (rs : List Node) → admitted t questions (length s) (length w) ≡ answer rs → Went (expand (nodes_of rs)) rs questions s w m s' w'
  -- 'one turn of the plain order further for each turn reported'
  pub made : (rs : List Node) → admitted t questions (length s) (length w) ≡ answer rs → (i : ℕ) → i < length questions
      → (round_of rs questions w').searches i ≡ times (turn (expand (nodes_of rs)) (goals_of questions i)) (get_or r.turns i 0) ((round_of rs questions w).searches i)
  -- the turns reported 'add up to those spent': the whole allowance 'unless every question is finished'
  pub spent : (rs : List Node) → admitted t questions (length s) (length w) ≡ answer rs → 0 < remaining (length questions) (round_of rs questions w')
      → total (λ i. get_or r.turns i 0) (length questions) ≡ m
  pub most : (rs : List Node) → admitted t questions (length s) (length w) ≡ answer rs → total (λ i. get_or r.turns i 0) (length questions) ≤ m
  -- the verdicts are those of the searches that the areas hold
  pub verdicts : (rs : List Node) → admitted t questions (length s) (length w) ≡ answer rs → (i : ℕ) → i < length questions
      → get_or r.verdicts i 0 ≡ number_of ((round_of rs questions w').searches i)
  -- 'With r unfinished, a question waits for at most r − 1 turns of others while allowance lasts'
  pub waits : (rs : List Node) → admitted t questions (length s) (length w) ≡ answer rs → (i : ℕ) → i < length questions
      → runs (round_of rs questions w) i ≡ true → get_or r.turns i 0 ≡ 0 → m < remaining (length questions) (round_of rs questions w)
