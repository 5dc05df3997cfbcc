-- A table with conditions of two and of three literals, run on the definitions: reading, truth, expansion, decide. Assumes nothing.
use Rattle.std.specs.Prelude.{◌≡◌, refl, List, [], ◌∷◌, map, ℕ, get_or}
use Rattle.scope.specs.declared.Node.{Node}
use Rattle.scope.specs.declared.Truth.TheVariants.{Yes, No, Unknown}
use Rattle.scope.specs.Outcome.{Outcome, answer, refused}
use Rattle.scope.specs.Table.{node_bytes, node_of, arity, operands, form_ok, range_ok, order_ok, read_record}
use Rattle.scope.specs.Truth.{lit_truth, joined, node_truth, truths_from, truth_in}
use Rattle.scope.specs.Kleene.{truth₃}
use Rattle.scope.specs.Calls.{no_node}
use Rattle.calculus.specs.Expansion.{chosen, templates, expand}
use Rattle.calculus.specs.Order.{mem, value_of, state_of, some, first_of, move_of, clauses, move, tree, possible, impossible, answer_of}

abbrev node : ℕ → ℕ → ℕ → ℕ → Node
node kind a b c = record { kind = kind; a = a; b = b; c = c }

-- three points, their AND and OR, the OR of all but the last negated, and AND(6,9): all three, and not 'any of them'
mixed : List Node
mixed = node 2 0 0 0 ∷ node 2 1 0 0 ∷ node 2 2 0 0 ∷ node 7 0 2 4 ∷ node 8 0 2 4 ∷ node 8 0 2 5 ∷ node 3 6 9 0 ∷ []

-- a record as it stands in the table's bytes, read at node 4: the node or its refusal
read : ℕ → ℕ → ℕ → ℕ → Outcome Node
read kind a b c = read_record (node_bytes (node kind a b c)) 4

-- c is an operand of kinds 7 and 8, and zero in the others; all three nodes are earlier and rise
records : read 7 0 2 4 ∷ read 8 1 3 7 ∷ read 9 0 2 4 ∷ read 3 0 2 4 ∷ read 1 0 0 4 ∷ read 2 0 0 4 ∷ read 7 0 2 8 ∷ read 7 0 4 2 ∷ read 8 0 2 3 ∷ read 8 2 0 4 ∷ []
    ≡ answer (node 7 0 2 4) ∷ answer (node 8 1 3 7) ∷ refused 14 4 ∷ refused 14 4 ∷ refused 14 4 ∷ refused 14 4
    ∷ refused 15 4 ∷ refused 16 4 ∷ refused 16 4 ∷ refused 16 4 ∷ []
unfolding read read_record node_bytes node_of form_ok range_ok order_ok operands arity
records = refl

-- points 0 and 1 are yes, point 2 may go either way
truths : map (truth₃ (1 ∷ 1 ∷ 2 ∷ []) mixed) (6 ∷ 7 ∷ 8 ∷ 10 ∷ 12 ∷ []) ≡ Unknown ∷ Unknown ∷ Yes ∷ Yes ∷ No ∷ []
unfolding mixed truth_in truths_from node_truth lit_truth joined operands arity
truths = refl

-- 'Expansions follow kinds 3 and 4 with c last'
expansions : map (expand (λ n. get_or mixed n no_node)) (6 ∷ 7 ∷ 10 ∷ 11 ∷ [])
    ≡ ((0 ∷ []) ∷ (2 ∷ []) ∷ (4 ∷ []) ∷ []) ∷ ((1 ∷ 3 ∷ 5 ∷ []) ∷ []) ∷ ((0 ∷ 2 ∷ 5 ∷ []) ∷ []) ∷ ((1 ∷ []) ∷ (3 ∷ []) ∷ (4 ∷ []) ∷ []) ∷ []
unfolding mixed expand templates chosen operands arity
expansions = refl

verdicts : map (λ goal. answer_of (tree (expand (λ n. get_or mixed n no_node)) (goal ∷ []) 7 [])) (6 ∷ 9 ∷ 12 ∷ 13 ∷ [])
    ≡ possible (4 ∷ 2 ∷ 0 ∷ 6 ∷ []) ∷ possible (5 ∷ 3 ∷ 1 ∷ 9 ∷ []) ∷ impossible ∷ possible (1 ∷ 7 ∷ 13 ∷ []) ∷ []
unfolding mixed expand templates chosen operands arity answer_of tree move move_of clauses state_of value_of mem some first_of
verdicts = refl
