-- 01, 'Samples': the goals of table A, and their negations, by themselves; run on the definition. Assumes nothing.
use Rattle.std.specs.Prelude.{◌≡◌, refl, List, [], ◌∷◌, ℕ}
use Rattle.scope.specs.declared.Node.{Node}
use Rattle.scope.specs.Table.{arity, operands}
use Rattle.calculus.specs.Expansion.{chosen, templates, expand}
use Rattle.calculus.specs.Order.{mem, value_of, state_of, some, first_of, move_of, clauses, move, tree, answer_of}
use Rattle.questions.specs.Asking.{answered}
use Rattle.overview.specs.Overview.{bytes_of}

abbrev node : ℕ → ℕ → ℕ → Node
node kind a b = record { kind = kind; a = a; b = b; c = 0 }

table_a : List Node
table_a =
    node 2 0 0 ∷ node 2 1 0 ∷ node 3 0 2 ∷ node 4 0 2 ∷ node 5 0 2 ∷ node 6 0 2 ∷ node 1 0 0 ∷ node 3 4 7 ∷ node 6 0 3 ∷ node 3 10 16 ∷ []

-- 6, 9, 11, 1, 5 and 12 are possible, 13, 14 and 18 are not; 13 stands twice
samples : bytes_of (answered table_a) (6 ∷ 9 ∷ 13 ∷ 11 ∷ 1 ∷ 5 ∷ 12 ∷ 13 ∷ 14 ∷ 18 ∷ []) ≡ 1 ∷ 1 ∷ 0 ∷ 1 ∷ 1 ∷ 1 ∷ 1 ∷ 0 ∷ 0 ∷ 0 ∷ []
unfolding table_a answer_of tree move clauses move_of first_of some state_of value_of mem expand templates chosen operands arity
samples = refl
