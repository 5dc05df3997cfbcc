-- What derive does: the answer of the definition `derive`, its bytes, and what the answer means. Assumes nothing.
use Rattle.std.specs.Prelude.{◌≡◌, List, [], ◌++◌, ℕ, leb, length, drop, Result, Ok}
use Rattle.scope.specs.declared.Refusal.{Refusal}
use Rattle.scope.specs.declared.Node.{Node}
use Rattle.scope.specs.Outcome.{Outcome, answer, refused, fine, outcome_by, require, ◌>>◌, ◌>>=◌}
use Rattle.calculus.specs.Expansion.{expand}
use Rattle.calculus.specs.Order.{Tree, tree, answer_of}
use Rattle.calculus.specs.Decide.{asked, Satisfies, Unsatisfiable}
use Rattle.rules.specs.declared.Step.{Step}
use Rattle.rules.specs.declared.Version.{Version}
use Rattle.rules.specs.Steps.{encode_steps}
use Rattle.rules.specs.Derivation.{named_steps}
use Rattle.rules.specs.Derive.{is_impossible, Derived as Given, blocks, derive, derived_after, check}
use Rattle.published.specs.Bytes.{PublishedBytes}

-- the number and the values of every case of what derive answers
abbrev pub derived_of : Result ℕ Refusal → Outcome ℕ
derived_of = outcome_by (λ k. k)

-- rows 30 and 31 and the derivation, of a search and its steps, as in the definition `derived`
abbrev pub given : Version → List Step → List ℕ → Given
given v ss d = record { steps = length ss; bytes = encode_steps v ss ++ drop (length (encode_steps v ss)) d }

abbrev pub row31 : Version → List Step → List ℕ → Outcome Given
row31 v ss d =
    require (leb (length (encode_steps v ss)) (length d)) 31 0
    >> (require (leb (length (encode_steps v ss)) 33554432) 31 0
    >> answer (given v ss d))

abbrev pub produced_by : Version → Tree → List Step → List ℕ → Outcome Given
produced_by v search ss d = require (is_impossible (answer_of search)) 30 0 >> row31 v ss d

-- the same of the nodes t
abbrev pub produced : Version → (ℕ → Node) → ℕ → List ℕ → List ℕ → Outcome Given
produced v t n goals d = produced_by v (tree (expand t) goals n []) (named_steps v (expand t) goals (tree (expand t) goals n [])) d

-- the search over the nodes t was counted and its derivation written
pub record Produced (v : Version) (t : ℕ → Node) (n : ℕ) (goals d d' : List ℕ) (r : Result ℕ Refusal) : Type 0 where
  pub answered : derived_of r ≡ (produced v t n goals d >>= λ x. answer x.steps)
  pub bytes : d' ≡ derived_after d (produced v t n goals d)

-- Derive, of the version v, the table t, a list of goals, and the work area w and the derivation bytes d, which it leaves as w' and d'
pub record Derives (v : Version) (t goals w d w' d' : List ℕ) (r : Result ℕ Refusal) : Type 0 where
  -- 'It answers the step count', of the derivation in the solver's order, or the first row's refusal
  pub answered : derived_of r ≡ (derive v t goals w d >>= λ x. answer x.steps)
  -- the derivation's blocks: 'Bytes past its last block stay'
  pub bytes : d' ≡ derived_after d (derive v t goals w d)
  -- a refusal by the rows 10 to 17, 62, 20 and 23 leaves the work area as it was
  pub work : (number place : ℕ) → asked t goals 0 0 (length w) ≡ refused number place → w' ≡ w
  -- a derivation: no setting makes all goals true
  pub never : (k : ℕ) → r ≡ Ok k → Unsatisfiable t goals
  -- .. and check accepts it
  pub accepted : (k : ℕ) → r ≡ Ok k → check t goals w (blocks k d') ≡ fine
  -- .. and it is one by the published rules
  pub published : (k : ℕ) → r ≡ Ok k → PublishedBytes t goals (blocks k d')
  -- 30, after rows 10 to 23: a setting makes all goals true
  pub complete : (place : ℕ) → derived_of r ≡ refused 30 place → (rs : List Node) → asked t goals 0 0 (length w) ≡ answer rs
      → (v : List ℕ) × Satisfies t goals v
