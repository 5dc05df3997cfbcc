-- Request 11 run on the definitions: two problems that share no point, under one list of goals. Assumes nothing.
use Rattle.std.specs.Prelude.{◌≡◌, refl, List, [], ◌∷◌, ℕ, get_or}
use Rattle.scope.specs.declared.Node.{Node}
use Rattle.scope.specs.Table.{arity, operands}
use Rattle.scope.specs.Calls.{no_node}
use Rattle.calculus.specs.Expansion.{chosen, templates, expand}
use Rattle.calculus.specs.Order.{mem, value_of, state_of, some, first_of, move_of, clauses, move, tree, Answer, possible, impossible, answer_of}
use Rattle.calculus.specs.Jump.{rest_of, false_rest, origin_rest, jump, end_answer, splits_of}

abbrev node : ℕ → ℕ → ℕ → Node
node kind a b = record { kind = kind; a = a; b = b; c = 0 }

-- the points p, q, x, y; p or q; and the four clauses of x and y that no setting meets together
two : List Node
two =
    node 2 0 0 ∷ node 2 1 0 ∷ node 2 2 0 ∷ node 2 3 0 ∷ node 4 0 2 ∷ node 4 4 6 ∷ node 4 4 7 ∷ node 4 5 6 ∷ node 4 5 7 ∷ []

answers : ℕ → List ℕ → Answer × ℕ
answers cap goals =
    let j = jump cap (expand (λ n. get_or two n no_node)) goals 9 0 [] in
    (end_answer j.end, j.splits)

plain : List ℕ → Answer × ℕ
plain goals =
    let r = tree (expand (λ n. get_or two n no_node)) goals 9 [] in
    (answer_of r, splits_of r)

-- all five as goals: p splits, then x, and the conflict that x and ¬x end on does not rest on p. So ¬p is skipped, whether x counts or not.
-- The plain order splits x again under ¬p, and so does a search in which no split counts
abbrev five : List ℕ
five = 8 ∷ 10 ∷ 12 ∷ 14 ∷ 16 ∷ []

skipped : answers 128 five ∷ answers 1 five ∷ answers 0 five ∷ plain five ∷ [] ≡ (impossible, 2) ∷ (impossible, 2) ∷ (impossible, 3) ∷ (impossible, 3) ∷ []
unfolding answers plain two jump tree splits_of answer_of rest_of false_rest origin_rest move clauses move_of first_of some state_of value_of mem expand templates chosen operands arity
skipped = refl

-- without the last of them there is a model, the plain order's
abbrev four : List ℕ
four = 8 ∷ 10 ∷ 12 ∷ 14 ∷ []

held : List ℕ
held = 6 ∷ 4 ∷ 0 ∷ 14 ∷ 12 ∷ 10 ∷ 8 ∷ []

modelled : answers 128 four ∷ plain four ∷ [] ≡ (possible held, 2) ∷ (possible held, 2) ∷ []
unfolding answers plain two held jump tree splits_of answer_of rest_of false_rest origin_rest move clauses move_of first_of some state_of value_of mem expand templates chosen operands arity
modelled = refl
