-- What a rule's function answers, by the branches that the work area holds. Assumes nothing.
use Rattle.std.specs.Prelude.{◌≡◌, List, ℕ}
use Rattle.scope.specs.declared.Node.{Node}
use Rattle.scope.specs.Outcome.{Outcome, answer, refused}
use Rattle.rules.specs.Rules.{Branch, Progress, running, complete}
use Rattle.branch.specs.Holds.{History, branch_of, waiting_of, Holds}
use Rattle.replay.specs.declared.Status.{Status}
use Rattle.replay.specs.declared.Status.TheVariants.{Running, Complete, Failed}

-- a status says an outcome: running with what the work area holds, complete, or '45 its rule's condition fails'
abbrev pub Says : (ℕ → Node) → ℕ → List ℕ → List ℕ → Outcome Progress → Status → Type 0
Says t n goals w o Running = (s : History) × (o ≡ answer (running (branch_of w s) (waiting_of w s))) × Holds t n goals w s
Says t n goals w o Complete = o ≡ answer complete
Says t n goals w o Failed = o ≡ refused 45 0

-- a rule, of the goals, the open branch and those that wait
abbrev pub Rule : Type 0
Rule = List ℕ → Branch → List Branch → Outcome Progress

-- the status says what the rule answers, whatever history the work area held, and for whatever goals
abbrev pub Ruled : (ℕ → Node) → ℕ → Rule → List ℕ → List ℕ → Status → Type 0
Ruled t n rule w w' r = (goals : List ℕ) (s : History) → Holds t n goals w s → Says t n goals w' (rule goals (branch_of w s) (waiting_of w s)) r
