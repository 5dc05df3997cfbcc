-- 02, 'Rooms under one allowance': the rows, and what the calls answer. Assumes nothing.
use Rattle.std.specs.Prelude.{cond, ◌&&◌, List, ℕ, ◌*◌, ltb, leb, length, Result}
use Rattle.scope.specs.declared.Node.{Node}
use Rattle.scope.specs.declared.Refusal.{Refusal}
use Rattle.scope.specs.Outcome.{Outcome, outcome_by, answer, refused, require, first, ◌>>◌, ◌>>=◌}
use Rattle.scope.specs.Table.{list_from, decode}
use Rattle.calculus.specs.Expansion.{expand}
use Rattle.calculus.specs.Decide.{nodes_of, goal_row}
use Rattle.turns.specs.Turn.{Search, number_of}
use Rattle.turns.specs.Round.{Round, opening, turn_for, spend, turns_for}
use Rattle.roomareas.specs.Areas.{area_size, points_size, goal_of, round_of}
use Rattle.roomareas.specs.Changes.{most_questions}
use Rattle.rooms.specs.declared.Told.{Told}

-- 69: 'no questions or over 8'
abbrev pub questions_row : List ℕ → Outcome (Unit {0})
questions_row questions = require (ltb 0 (length questions) && leb (length questions) most_questions) 69 0

-- 20, 'the place of 20 is the question's index'; '21 and 23 count all'
unfoldable pub rooms_test : ℕ → List ℕ → ℕ → ℕ → Outcome (Unit {0})
rooms_test nodes questions points area =
    first (goal_row nodes questions) 0 (length questions)
    >> (require (leb (points_size * length questions) points) 21 0
    >> require (leb (area_size * length questions) area) 23 0)

-- the nodes of a table to which the questions may be put: 69 'before all table checks', then 10 to 17, then these
unfoldable pub admitted : List ℕ → List ℕ → ℕ → ℕ → Outcome (List Node)
admitted t questions points area = questions_row questions >> (decode t >>= λ rs. rooms_test (length rs) questions points area >> answer rs)

-- what a call answers: of its questions, or a refusal's number and place
abbrev pub told_of : Result Told Refusal → Outcome Told
told_of = outcome_by (λ d. d)

-- so it is as one record: number 0 and the values, or a refusal's number and place and every value 0
pub record Turned : Type 0 where
  pub number : ℕ
  pub place : ℕ
  pub count : ℕ
  pub turns : List ℕ
  pub verdicts : List ℕ

-- eight values, those of the questions and then 0
abbrev pub eight : ℕ → (ℕ → ℕ) → List ℕ
eight q f = list_from (λ i. cond (ltb i q) (f i) 0) 0 most_questions

abbrev pub told : ℕ → (ℕ → ℕ) → (ℕ → Search) → Told
told q turns searches = record { count = q; turns = eight q turns; verdicts = eight q (λ i. number_of (searches i)) }

-- 'A first call sets the work areas up': no turn is made
unfoldable pub open_rooms : List ℕ → List ℕ → ℕ → ℕ → Outcome Told
open_rooms t questions points area =
    admitted t questions points area >>= λ rs. answer (told (length questions) (λ i. 0) opening.searches)

-- the round after an allowance of turns, and the turns of each question
abbrev pub round_after : List Node → List ℕ → ℕ → Round → Round
round_after rs questions m R = spend (turn_for (expand (nodes_of rs)) (goal_of questions)) (length questions) m R

abbrev pub turns_after : List Node → List ℕ → ℕ → Round → ℕ → ℕ
turns_after rs questions m R i = turns_for (turn_for (expand (nodes_of rs)) (goal_of questions)) (length questions) m R i

-- 'each later one has an allowance of turns', from the round that the areas w hold
unfoldable pub turn_rooms : List ℕ → List ℕ → ℕ → List ℕ → ℕ → Outcome Told
turn_rooms t questions points w m =
    admitted t questions points (length w)
    >>= λ rs. answer (told (length questions) (turns_after rs questions m (round_of rs questions w)) (round_after rs questions m (round_of rs questions w)).searches)

-- the number and the values of an answer
abbrev pub turned_of : Outcome Told → Turned
turned_of (answer d) = record { number = 0; place = 0; count = d.count; turns = d.turns; verdicts = d.verdicts }
turned_of (refused number place) = record { number = number; place = place; count = 0; turns = eight 0 (λ i. 0); verdicts = eight 0 (λ i. 0) }
