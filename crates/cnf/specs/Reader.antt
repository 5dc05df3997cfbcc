-- Request 01, the reader: 60 and 61, 'both before 51 and 52 and before any byte is written', then the table. Assumes nothing.
use Rattle.std.specs.Prelude.{◌≡◌, List, ◌⊎◌, ℕ, ◌*◌, ◌<◌, length, take}
use Rattle.scope.specs.declared.Node.{Node}
use Rattle.scope.specs.Outcome.{Outcome, answer, ◌>>=◌}
use Rattle.scope.specs.Table.{decode}
use Rattle.scope.specs.Truth.{truth}
use Rattle.scope.specs.Calls.{Added}
use Rattle.cnf.specs.Text.{File, file_of}
use Rattle.cnf.specs.Fold.{build}
use Rattle.cnf.specs.Meaning.{clauses_true}

-- 'answers the goal literal and the used length', with the buffer's bytes
unfoldable pub dimacs : List ℕ → List ℕ → Outcome Added
dimacs text buf = file_of text >>= λ f. build buf f

-- the table with a goal that a buffer starts with: it reads, the goal is a literal of it, and 'The goal's truth equals the file's
-- under every setting'
pub record Means (f : File) (goal used : ℕ) (bytes : List ℕ) : Type 0 where
  pub nodes : List Node
  pub readable : decode (take used bytes) ≡ answer nodes
  pub inside : goal < 2 * length nodes
  pub truths : (s : List ℕ) → truth s nodes goal ≡ clauses_true s f.clauses

-- 'Turned away': 60, 61; 51, 52
abbrev pub Turns : ℕ → Type 0
Turns number = ((number ≡ 60) ⊎ (number ≡ 61)) ⊎ ((number ≡ 51) ⊎ (number ≡ 52))
