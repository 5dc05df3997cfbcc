-- 01, 'Samples', goal 14, run on the definitions: its derivation's steps as published rules, and the sequents on the way. Assumes nothing.
use Rattle.std.specs.Prelude.{◌≡◌, refl, List, [], ◌∷◌, map, ℕ, get_or}
use Rattle.scope.specs.declared.Node.{Node}
use Rattle.scope.specs.Table.{arity, operands}
use Rattle.scope.specs.Calls.{no_node}
use Rattle.scope.specs.Outcome.{Outcome, answer, refused}
use Rattle.calculus.specs.Expansion.{chosen, templates, expand}
use Rattle.calculus.specs.Order.{mem, value_of, clauses}
use Rattle.rules.specs.declared.Step.{Step}
use Rattle.rules.specs.declared.Version.TheVariants.{One}
use Rattle.rules.specs.Steps.{U, R, C}
use Rattle.rules.specs.Rules.{root, Progress, running, among, unstruck, any_holds, rule_u, rule_r, rule_e, rule_c, rule_s, apply, advance}
use Rattle.published.specs.Published.{Sequent, ◌⊢◌, UNIT, RED, CONFLICT}
use Rattle.published.specs.Reading.{standing, sequent_of, open_of, rule_of}
use Rattle.published.specs.Moves.{kept, reduced, searched}

abbrev node : ℕ → ℕ → ℕ → Node
node kind a b = record { kind = kind; a = a; b = b; c = 0 }

table_a : List Node
table_a =
    node 2 0 0 ∷ node 2 1 0 ∷ node 3 0 2 ∷ node 4 0 2 ∷ node 5 0 2 ∷ node 6 0 2 ∷ node 1 0 0 ∷ node 3 4 7 ∷ node 6 0 3 ∷ node 3 10 16 ∷ []

clauses_a : ℕ → List (List ℕ)
clauses_a = expand (λ n. get_or table_a n no_node)

-- the sequents of the open branches before each of the steps, and after the last
trace : List Step → Progress → List (List (Sequent ℕ))
trace [] p = map (sequent_of clauses_a (14 ∷ [])) (open_of p) ∷ []
trace (s ∷ ss) p = map (sequent_of clauses_a (14 ∷ [])) (open_of p) ∷ next (advance One clauses_a (14 ∷ []) 10 0 s p) (trace ss)
  where
    next : Outcome Progress → (Progress → List (List (Sequent ℕ))) → List (List (Sequent ℕ))
    next (answer q) go = go q
    next (refused number place) go = []

steps_14 : List Step
steps_14 = U 0 ∷ U 1 ∷ U 2 ∷ U 3 ∷ R 0 5 ∷ C 5 ∷ []

rules_14 : map rule_of steps_14 ≡ UNIT ∷ UNIT ∷ UNIT ∷ UNIT ∷ RED ∷ CONFLICT ∷ []
unfolding steps_14 rule_of
rules_14 = refl

-- 14 expands to {4} {7}, 4 to {0} {2}, 7 to {1} {3}, and 1 is the negation of 0
sequents_14 : trace steps_14 (running root [])
    ≡ (([] ⊢ (14 ∷ []) ∷ []) ∷ [])
    ∷ ((14 ∷ [] ⊢ (4 ∷ []) ∷ (7 ∷ []) ∷ []) ∷ [])
    ∷ ((4 ∷ 14 ∷ [] ⊢ (7 ∷ []) ∷ (0 ∷ []) ∷ (2 ∷ []) ∷ []) ∷ [])
    ∷ ((7 ∷ 4 ∷ 14 ∷ [] ⊢ (0 ∷ []) ∷ (2 ∷ []) ∷ (1 ∷ []) ∷ (3 ∷ []) ∷ []) ∷ [])
    ∷ ((0 ∷ 7 ∷ 4 ∷ 14 ∷ [] ⊢ (2 ∷ []) ∷ (1 ∷ []) ∷ (3 ∷ []) ∷ []) ∷ [])
    ∷ ((0 ∷ 7 ∷ 4 ∷ 14 ∷ [] ⊢ (2 ∷ []) ∷ [] ∷ (3 ∷ []) ∷ []) ∷ [])
    ∷ []
    ∷ []
unfolding trace steps_14 clauses_a table_a standing unstruck among rule_u rule_r rule_e rule_c rule_s apply advance clauses value_of mem expand templates chosen operands arity
sequents_14 = refl

-- the solver's sequent with nothing held, and with 14 and 4
searched_14 : searched clauses_a (14 ∷ []) [] ∷ searched clauses_a (14 ∷ []) (4 ∷ 14 ∷ []) ∷ []
    ≡ ([] ⊢ (14 ∷ []) ∷ []) ∷ (4 ∷ 14 ∷ [] ⊢ (7 ∷ []) ∷ (0 ∷ []) ∷ (2 ∷ []) ∷ []) ∷ []
unfolding clauses_a table_a kept reduced any_holds clauses value_of mem expand templates chosen operands arity
searched_14 = refl
