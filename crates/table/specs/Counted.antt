-- What the functions of this crate answer, and what testing leaves in the chains. Assumes nothing.
use Rattle.std.specs.Prelude.{◌≡◌, List, ℕ, Result}
use Rattle.scope.specs.declared.Refusal.{Refusal}
use Rattle.scope.specs.Outcome.{Outcome, fine, outcome_by, verdict_of}
use Rattle.repeats.specs.Chains.{Chains}

-- the number and the values of every answer of counting a table's nodes
abbrev pub counted_of : Result ℕ Refusal → Outcome ℕ
counted_of = outcome_by (λ n. n)

-- the verdict is that of the tests; where it is fine, the nodes below n are in the chains
pub record Tested (t c : List ℕ) (v : Result (Unit {0}) Refusal) (tests : Outcome (Unit {0})) (n : ℕ) : Type 0 where
  pub verdict : verdict_of v ≡ tests
  pub entered : verdict_of v ≡ fine → Chains t c n
