-- Wishes over table A of 01, run on the definitions. Assumes nothing.
use mathlib.Core.Path.{◌≡◌, refl}
use mathlib.Core.List.{List, [], ◌∷◌, map}
use Prim.Native.Nat.{ℕ}
use lib.ListN.{get_or}
use Rattle.scope.specs.declared.Node.{Node}
use Rattle.scope.specs.Table.{arity, operands}
use Rattle.scope.specs.Calls.{no_node}
use Rattle.scope.specs.Outcome.{Outcome, answer, refused}
use Rattle.calculus.specs.Expansion.{chosen, templates, expand}
use Rattle.calculus.specs.Order.{mem, value_of, state_of, some, first_of, move_of, clauses, move, tree, Answer, answer_of}
use Rattle.wishing.specs.Wish.{subsets, queries, Wished, spend, wished}

-- 'subsets by falling size, equal sizes in dictionary order'
four : queries 4 4
    ≡ (0 ∷ 1 ∷ 2 ∷ 3 ∷ [])
    ∷ (0 ∷ 1 ∷ 2 ∷ []) ∷ (0 ∷ 1 ∷ 3 ∷ []) ∷ (0 ∷ 2 ∷ 3 ∷ []) ∷ (1 ∷ 2 ∷ 3 ∷ [])
    ∷ (0 ∷ 1 ∷ []) ∷ (0 ∷ 2 ∷ []) ∷ (0 ∷ 3 ∷ []) ∷ (1 ∷ 2 ∷ []) ∷ (1 ∷ 3 ∷ []) ∷ (2 ∷ 3 ∷ [])
    ∷ (0 ∷ []) ∷ (1 ∷ []) ∷ (2 ∷ []) ∷ (3 ∷ []) ∷ []
unfolding queries subsets
four = refl

abbrev node : ℕ → ℕ → ℕ → Node
node kind a b = record { kind = kind; a = a; b = b; c = 0 }

table_a : List Node
table_a =
    node 2 0 0 ∷ node 2 1 0 ∷ node 3 0 2 ∷ node 4 0 2 ∷ node 5 0 2 ∷ node 6 0 2 ∷ node 1 0 0 ∷ node 3 4 7 ∷ node 6 0 3 ∷ node 3 10 16 ∷ []

asked : List ℕ → Answer
asked goals = answer_of (tree (expand (λ n. get_or table_a n no_node)) goals 10 [])

abbrev wish : List ℕ → ℕ → ℕ → ℕ → Outcome Wished
wish G k u questions = answer (record { standing = G; k = k; u = u; questions = questions })

-- goal 6, 'point 0 or point 1', which alone ends on 0 6; wishes: point 0, not point 0, point 1, not point 1
wishing : map (λ (m : ℕ). wished asked (6 ∷ []) (0 ∷ 1 ∷ 2 ∷ 3 ∷ []) m (asked (6 ∷ []))) (0 ∷ 1 ∷ 4 ∷ 5 ∷ 6 ∷ 7 ∷ 99 ∷ [])
    ≡ wish (0 ∷ 6 ∷ []) 0 4 0 ∷ wish (0 ∷ 6 ∷ []) 0 3 1 ∷ wish (0 ∷ 6 ∷ []) 0 3 4 ∷ wish (0 ∷ 6 ∷ []) 0 2 5
    ∷ wish (0 ∷ 6 ∷ []) 0 2 6 ∷ wish (2 ∷ 0 ∷ 6 ∷ []) 2 2 7 ∷ wish (2 ∷ 0 ∷ 6 ∷ []) 2 2 7 ∷ []
unfolding spend queries subsets asked table_a answer_of tree move clauses move_of first_of some state_of value_of mem expand templates chosen operands arity
wishing = refl

-- a wish that stands twice counts twice; no wishes; a wish that cannot be; goals that cannot
others : wished asked (6 ∷ []) (1 ∷ 0 ∷ 0 ∷ []) 9 (asked (6 ∷ [])) ∷ wished asked (6 ∷ []) [] 9 (asked (6 ∷ []))
    ∷ wished asked (6 ∷ []) (14 ∷ []) 1 (asked (6 ∷ [])) ∷ wished asked (14 ∷ []) (0 ∷ []) 9 (asked (14 ∷ [])) ∷ []
    ≡ wish (0 ∷ 6 ∷ []) 2 2 4 ∷ wish (0 ∷ 6 ∷ []) 0 0 0 ∷ wish (0 ∷ 6 ∷ []) 0 0 1 ∷ refused 67 0 ∷ []
unfolding spend queries subsets asked table_a answer_of tree move clauses move_of first_of some state_of value_of mem expand templates chosen operands arity
others = refl
