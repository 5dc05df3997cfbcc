-- IMP(0,2) becomes OR(1,2), the OR(1,2) after it is found again, and an AND of the two, or of the two and a third, has one node twice.
-- Assumes nothing.
use Rattle.std.specs.Prelude.{◌≡◌, refl, List, [], ◌∷◌, ◌++◌, ℕ}
use Rattle.scope.specs.declared.Node.{Node}
use Rattle.scope.specs.Outcome.{answer, refused}
use Rattle.scope.specs.Table.{arity, operands, with_operands}
use Rattle.scope.specs.Calls.{placed, sorted, ordered, turned, index_of}
use Rattle.codec.specs.Valid.{with_node}
use Rattle.codec.specs.Given.{among, apart}
use Rattle.rebuilding.specs.Rebuild.{rebuilt, mapped, nodes_from}

abbrev node : ℕ → ℕ → ℕ → Node
node kind a b = record { kind = kind; a = a; b = b; c = 0 }

abbrev three : ℕ → ℕ → ℕ → ℕ → Node
three kind a b c = record { kind = kind; a = a; b = b; c = c }

abbrev old : List Node
old = node 2 0 0 ∷ node 2 1 0 ∷ node 5 0 2 ∷ node 4 1 2 ∷ node 3 0 5 ∷ node 5 2 1 ∷ []

found_again : nodes_from [] [] old
    ≡ answer (record {
      nodes = node 2 0 0 ∷ node 2 1 0 ∷ node 4 1 2 ∷ node 3 0 5 ∷ node 4 1 3 ∷ [];
      literals = 0 ∷ 2 ∷ 4 ∷ 4 ∷ 6 ∷ 8 ∷ [];
    })
unfolding nodes_from mapped rebuilt arity operands with_operands placed sorted ordered turned with_node index_of among apart
found_again = refl

one-node : nodes_from [] [] (old ++ node 3 4 6 ∷ []) ≡ refused 16 5
unfolding nodes_from mapped rebuilt arity operands with_operands placed sorted ordered turned with_node index_of among apart
one-node = refl

two_of_three : nodes_from [] [] (old ++ three 7 0 4 6 ∷ []) ≡ refused 16 5
unfolding nodes_from mapped rebuilt arity operands with_operands placed sorted ordered turned with_node index_of among apart
two_of_three = refl

-- three operands of three nodes are mapped and put in order: node 5 is IMP(2,1), which becomes node 4
three-mapped : nodes_from [] [] (old ++ three 8 3 5 11 ∷ [])
    ≡ answer (record {
      nodes = node 2 0 0 ∷ node 2 1 0 ∷ node 4 1 2 ∷ node 3 0 5 ∷ node 4 1 3 ∷ three 8 3 5 9 ∷ [];
      literals = 0 ∷ 2 ∷ 4 ∷ 4 ∷ 6 ∷ 8 ∷ 10 ∷ [];
    })
unfolding nodes_from mapped rebuilt arity operands with_operands placed sorted ordered turned with_node index_of among apart
three-mapped = refl
