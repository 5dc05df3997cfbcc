-- Clashes over table A of 01, 'Samples', run on the definition. Assumes nothing.
use Rattle.std.specs.Prelude.{◌≡◌, refl, List, [], ◌∷◌, map, ℕ}
use Rattle.scope.specs.declared.Node.{Node}
use Rattle.scope.specs.Table.{arity, operands}
use Rattle.scope.specs.Outcome.{answer, refused}
use Rattle.calculus.specs.Expansion.{chosen, templates, expand}
use Rattle.calculus.specs.Order.{mem, value_of, state_of, some, first_of, move_of, clauses, move, tree, answer_of}
use Rattle.questions.specs.Indices.{up_to}
use Rattle.questions.specs.Asking.{answered}
use Rattle.clashing.specs.Clash.{walk, argued}

abbrev node : ℕ → ℕ → ℕ → Node
node kind a b = record { kind = kind; a = a; b = b; c = 0 }

table_a : List Node
table_a =
    node 2 0 0 ∷ node 2 1 0 ∷ node 3 0 2 ∷ node 4 0 2 ∷ node 5 0 2 ∷ node 6 0 2 ∷ node 1 0 0 ∷ node 3 4 7 ∷ node 6 0 3 ∷ node 3 10 16 ∷ []

-- 'point 0 or point 1', point 0, not point 0, point 1: the second and the third clash. 14 clashes alone. A goal may stand twice: the first
-- of the two is kept, since the walk comes to the last one first. 6 and 2 do not clash
samples : map (argued (answered table_a)) ((6 ∷ 0 ∷ 1 ∷ 2 ∷ []) ∷ (0 ∷ 14 ∷ []) ∷ (0 ∷ 1 ∷ 0 ∷ 1 ∷ []) ∷ (6 ∷ 2 ∷ []) ∷ [])
    ≡ answer (1 ∷ 2 ∷ []) ∷ answer (1 ∷ []) ∷ answer (0 ∷ 1 ∷ []) ∷ refused 63 0 ∷ []
unfolding walk up_to table_a answer_of tree move clauses move_of first_of some state_of value_of mem expand templates chosen operands arity
samples = refl
