-- 01, 'The solver's order', 'Where each call says no' and 'Several goals together': what decide, derive and check ask of a table and a list of goals, and decide.
-- Assumes nothing.
use Rattle.std.specs.Prelude.{◌≡◌, List, [], ◌++◌, ◌&&◌, ℕ, ◌*◌, ◌≤◌, leb, ltb, length, get_or, drop}
use Rattle.scope.specs.declared.Node.{Node}
use Rattle.scope.specs.declared.Truth.TheVariants.{Yes}
use Rattle.scope.specs.Outcome.{Outcome, answer, refused, fine, require, first, ◌>>◌, ◌>>=◌}
use Rattle.scope.specs.Table.{decode}
use Rattle.scope.specs.Kleene.{NoTwo}
use Rattle.scope.specs.Calls.{no_node, evaluate}
use Rattle.calculus.specs.Expansion.{expand}
use Rattle.calculus.specs.Order.{Tree, tree, Answer, possible, impossible, unfinished, answer_of, setting_of}
use Rattle.calculus.specs.Model.{All, most_goals, Below}
use Rattle.calculus.specs.Jump.{Jumped, jump, end_answer, splits_of, stopped}

-- the nodes of a table as a function
abbrev pub nodes_of : List Node → ℕ → Node
nodes_of rs n = get_or rs n no_node

-- the search of a list of goals, with as much fuel as there are nodes
abbrev pub search_of : List Node → List ℕ → Tree
search_of rs goals = tree (expand (nodes_of rs)) goals (length rs) []

-- the same, jumping over splits: 'only a split with fewer than 128 earlier splits on its branch .. counts'
abbrev pub jump_of : List Node → List ℕ → Jumped
jump_of rs goals = jump 128 (expand (nodes_of rs)) goals (length rs) 0 []

-- the settings bytes after an answer: 'Decide writes the settings only when possible', the first 1,024
abbrev pub settings_on : List Node → List ℕ → Answer → List ℕ
settings_on rs s (possible G) = setting_of rs G ++ drop 1024 s
settings_on rs s impossible = s
settings_on rs s unfinished = s

-- what decide answers: what the search ends on; the settings bytes afterwards; 'the splits made, stopping at 4,294,967,295'
pub record Decided : Type 0 where
  pub verdict : Answer
  pub settings : List ℕ
  pub splits : ℕ

-- 62: 'list empty or over 64'
abbrev pub list_row : List ℕ → Outcome (Unit {0})
list_row goals = require (ltb 0 (length goals) && leb (length goals) most_goals) 62 0

-- 20: 'not below 2 × nodes', of the goal at an index, which is the place
abbrev pub goal_row : ℕ → List ℕ → ℕ → Outcome (Unit {0})
goal_row nodes goals i = require (ltb (get_or goals i 0) (2 * nodes)) 20 i

-- .. of each goal in turn
abbrev pub goals_test : ℕ → List ℕ → Outcome (Unit {0})
goals_test nodes goals = first (goal_row nodes goals) 0 (length goals)

-- 21: 'under 1,024 bytes', where a call needs so many; 23: 'under 32,768 16-bit numbers'
abbrev pub lent_test : ℕ → ℕ → ℕ → Outcome (Unit {0})
lent_test needed points area = require (leb needed points) 21 0 >> require (leb 32768 area) 23 0

-- the row on the list, which each call has of its own; 20, 21, 23
unfoldable pub rows_test : Outcome (Unit {0}) → ℕ → List ℕ → ℕ → ℕ → ℕ → Outcome (Unit {0})
rows_test listed nodes goals needed points area = listed >> (goals_test nodes goals >> lent_test needed points area)

-- none of these refuses
pub record Admitted (listed : Outcome (Unit {0})) (nodes : ℕ) (goals : List ℕ) (needed points area : ℕ) : Type 0 where
  pub list : listed ≡ fine
  pub below : Below nodes goals
  pub settings : needed ≤ points
  pub work : 32768 ≤ area

-- the nodes of a table to which a list of literals may be put: rows 10 to 17, then these
unfoldable pub asked_by : Outcome (Unit {0}) → List ℕ → List ℕ → ℕ → ℕ → ℕ → Outcome (List Node)
asked_by listed t goals needed points area = decode t >>= λ rs. rows_test listed (length rs) goals needed points area >> answer rs

-- of a list of goals: 62 'just before 20'
abbrev pub asked : List ℕ → List ℕ → ℕ → ℕ → ℕ → Outcome (List Node)
asked t goals needed points area = asked_by (list_row goals) t goals needed points area

-- what decide answers where a search of a table's nodes ends on an answer and makes so many splits
abbrev pub decided_by : List Node → List ℕ → Answer → ℕ → Decided
decided_by rs s a made = record { verdict = a; settings = settings_on rs s a; splits = stopped made }

-- what decide answers of the nodes of a table: by the search that jumps
abbrev pub decided : List Node → List ℕ → List ℕ → Decided
decided rs goals s = decided_by rs s (end_answer (jump_of rs goals).end) (jump_of rs goals).splits

-- what it would answer by the plain order
abbrev pub plainly : List Node → List ℕ → List ℕ → Decided
plainly rs goals s = decided_by rs s (answer_of (search_of rs goals)) (splits_of (search_of rs goals))

-- 'Verdict and settings equal those of the plain order'; the splits are 'never more than the plain order makes under the same stop'
pub record AsPlain (d p : Decided) : Type 0 where
  pub verdict : d.verdict ≡ p.verdict
  pub settings : d.settings ≡ p.settings
  pub splits : d.splits ≤ p.splits

-- rows 10 to 17, 62, 20, 21, 23
unfoldable pub decide : List ℕ → List ℕ → List ℕ → List ℕ → Outcome Decided
decide t goals s work =
    asked t goals 1024 (length s) (length work)
    >>= λ rs. answer (decided rs goals s)

-- the settings bytes after a call: a refusal changes none
abbrev pub settings_after : List ℕ → Outcome Decided → List ℕ
settings_after s (answer d) = d.settings
settings_after s (refused number place) = s

-- 'A setting makes a goal true when the goal's truth under it is true': one of 0 and 1 for the 1,024 points, for which evaluate says yes;
-- 'one setting makes all the goals true'
abbrev pub Satisfies : List ℕ → List ℕ → List ℕ → Type 0
Satisfies t goals v = NoTwo v × All (λ g. evaluate t g v ≡ answer Yes) goals

-- no setting does
abbrev pub Unsatisfiable : List ℕ → List ℕ → Type 0
Unsatisfiable t goals = (v : List ℕ) → Satisfies t goals v → ⊥

-- two statements that imply each other
infixl 1 ◌⇔◌
abbrev pub ◌⇔◌ : Type 0 → Type 0 → Type 0
A ⇔ B = (A → B) × (B → A)
