-- What decide does: the answer of the definition `decide`, its settings, and what the answer means. Assumes nothing.
use Rattle.std.specs.Prelude.{◌≡◌, true, List, [], ℕ, ◌<◌, ◌≤◌, length, Result, Ok, Err}
use Rattle.scope.specs.declared.Node.{Node}
use Rattle.scope.specs.declared.Refusal.{Refusal}
use Rattle.scope.specs.declared.Truth.TheVariants.{Yes}
use Rattle.scope.specs.Outcome.{Outcome, answer, outcome_by, ◌>>=◌}
use Rattle.scope.specs.Table.{list_from, decode}
use Rattle.scope.specs.Truth.{truth}
use Rattle.scope.specs.Kleene.{Fills}
use Rattle.scope.specs.Calls.{evaluate}
use Rattle.calculus.specs.Expansion.{expand}
use Rattle.calculus.specs.Order.{Answer, possible, impossible, unfinished}
use Rattle.calculus.specs.Model.{All}
use Rattle.calculus.specs.Jump.{jump, end_answer}
use Rattle.calculus.specs.Decide.{Decided as Given, decided_by, plainly, AsPlain, decide, settings_after, Unsatisfiable, ◌⇔◌}
use Rattle.index.specs.Index.{index_node}
use Rattle.deciding.specs.declared.Decision.{Decision}
use Rattle.deciding.specs.declared.Decision.TheVariants.{Possible, Impossible}

-- what is said of goals
pub data Word : Type 0 where
  can : Word
  cannot : Word
  nothing : Word

-- what an answer of the search says; of one that was cut, which is never given, nothing
abbrev pub word_of : Answer → Word
word_of (possible G) = can
word_of impossible = cannot
word_of unfinished = nothing

-- a word, and the splits made
pub record Said : Type 0 where
  pub word : Word
  pub splits : ℕ

-- what decide's answer says
abbrev pub said_of : Given → Said
said_of d = record { word = word_of d.verdict; splits = d.splits }

-- what a `Decision` says
abbrev pub decision_said : Decision → Said
decision_said (Possible n) = record { word = can; splits = n }
decision_said (Impossible n) = record { word = cannot; splits = n }

-- the number and the values of every case of decide's answer
abbrev pub decided_of : Result Decision Refusal → Outcome Said
decided_of = outcome_by decision_said

-- a point for each ATOM of the index, a byte for each point, and a whole work area
pub record Room (x : List ℕ) (n : ℕ) (s w : List ℕ) : Type 0 where
  pub points : (i : ℕ) → i < n → (index_node x i).kind ≡ 2 → (index_node x i).a < 1024
  pub settings : 1024 ≤ length s
  pub work : 32768 ≤ length w

-- what the search over n nodes t comes to
abbrev pub given_by : (ℕ → Node) → ℕ → List ℕ → List ℕ → Given
given_by t n goals s =
    let j = jump 128 (expand t) goals n 0 [] in
    decided_by (list_from t 0 n) s (end_answer j.end) j.splits

-- the answer and the settings are those of the search
pub record Solved (t : ℕ → Node) (n : ℕ) (goals s s' : List ℕ) (r : Decision) : Type 0 where
  pub verdict : decided_of (Ok r) ≡ answer (said_of (given_by t n goals s))
  pub settings : s' ≡ (given_by t n goals s).settings

-- Decide, of the table t, a list of goals, and the settings s and the work area w, which it leaves as s' and w'
pub record Decides (t goals s w s' w' : List ℕ) (r : Result Decision Refusal) : Type 0 where
  -- the answer is that of the solver's order, jumping over splits, with the splits made; or the first row's that refuses
  pub answered : decided_of r ≡ (decide t goals s w >>= λ d. answer (said_of d))
  -- the settings bytes: 'Decide writes the settings only when possible'
  pub settings : s' ≡ settings_after s (decide t goals s w)
  -- a refusal leaves the work area as it was
  pub work : (f : Refusal) → r ≡ Err f → w' ≡ w
  -- 'Verdict and settings equal those of the plain order on every input'; the splits are 'never more than the plain order makes'
  pub plain : (d : Given) → decide t goals s w ≡ answer d → (rs : List Node) × (decode t ≡ answer rs) × AsPlain d (plainly rs goals s)
  -- impossible is said exactly when no setting makes all goals true (demand 3)
  pub exact : (said : Said) → decided_of r ≡ answer said → (said.word ≡ cannot) ⇔ Unsatisfiable t goals
  -- possible: evaluate of the settings that were written answers yes of each goal (demand 3)
  pub satisfied : (n : ℕ) → r ≡ Ok (Possible n) → All (λ g. evaluate t g s' ≡ answer Yes) goals
  -- .. 'for every way of filling the 2s'
  pub filled : (n : ℕ) → r ≡ Ok (Possible n) → (rs : List Node) → decode t ≡ answer rs → (f : List ℕ) → Fills s' f → All (λ g. truth f rs g ≡ true) goals
