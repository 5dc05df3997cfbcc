-- The number and the values of every answer of reading a record: the node, or its refusal. Assumes nothing.
use Rattle.std.specs.Prelude.{Result}
use Rattle.scope.specs.declared.Node.{Node}
use Rattle.scope.specs.declared.Refusal.{Refusal}
use Rattle.scope.specs.Outcome.{Outcome, outcome_by}

abbrev pub read_of : Result Node Refusal → Outcome Node
read_of = outcome_by (λ x. x)
