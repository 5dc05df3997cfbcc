-- 02, 'Many questions per reading': 'A new call takes the list and writes one byte per goal'. Assumes nothing.
use Rattle.std.specs.Prelude.{List, [], ◌∷◌, ◌++◌, map, ◌&&◌, ℕ, leb, ltb, length, drop}
use Rattle.scope.specs.Outcome.{Outcome, answer, refused, require, ◌>>=◌}
use Rattle.calculus.specs.Order.{Answer, possible, impossible, unfinished}
use Rattle.calculus.specs.Decide.{asked_by}
use Rattle.questions.specs.Asking.{answered}

-- 'up to 256 goal literals'
abbrev pub most_asked : ℕ
most_asked = 256

-- 68: 'list empty, over 256, or longer than the answer bytes lent'
abbrev pub overview_row : List ℕ → ℕ → Outcome (Unit {0})
overview_row goals lent = require (ltb 0 (length goals) && (leb (length goals) most_asked && leb (length goals) lent)) 68 0

-- '1 possible and 0 impossible'; of a search that was cut, which is never so, 0
abbrev pub byte_of : Answer → ℕ
byte_of (possible G) = 1
byte_of impossible = 0
byte_of unfinished = 0

-- 'Each answer is that of decide for the goal by itself, repeats included'
abbrev pub bytes_of : (List ℕ → Answer) → List ℕ → List ℕ
bytes_of ask goals = map (λ g. byte_of (ask (g ∷ []))) goals

-- the answer bytes after a call: rows 10 to 17, 68 'just before 20, whose place is the index', 23; 'later bytes stay'
unfoldable pub overview : List ℕ → List ℕ → List ℕ → List ℕ → Outcome (List ℕ)
overview t goals answers work =
    asked_by (overview_row goals (length answers)) t goals 0 0 (length work)
    >>= λ rs. answer (bytes_of (answered rs) goals ++ drop (length goals) answers)

-- 'and a refusal leaves them all'
abbrev pub answers_after : List ℕ → Outcome (List ℕ) → List ℕ
answers_after answers (answer after) = after
answers_after answers (refused number place) = answers
