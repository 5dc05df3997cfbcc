-- Demand 2, 'steps are those of the published DPLL rules with expandable literals', of the bytes that check and derive are lent.
-- Assumes nothing.
use Rattle.std.specs.Prelude.{◌≡◌, List, ℕ}
use Rattle.scope.specs.declared.Node.{Node}
use Rattle.scope.specs.Outcome.{answer}
use Rattle.scope.specs.Table.{decode}
use Rattle.calculus.specs.Expansion.{expand}
use Rattle.calculus.specs.Decide.{nodes_of}
use Rattle.rules.specs.declared.Step.{Step}
use Rattle.rules.specs.Steps.{version_of, decode_steps}
use Rattle.rules.specs.Rules.{body}
use Rattle.published.specs.Reading.{Published}

-- the steps in the bytes d, after those that name goals, are, rule for rule, a derivation of ∅ ⊢ goals by Fig. 3, over the expansion of
-- the table in the bytes t
pub record PublishedBytes (t goals d : List ℕ) : Type 0 where
  pub nodes : List Node
  pub steps : List Step
  pub table : decode t ≡ answer nodes
  pub read : decode_steps d ≡ answer steps
  pub derivation : Published (version_of d) (expand (nodes_of nodes)) goals (body steps)
