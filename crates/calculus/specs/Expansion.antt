-- 01, 'Expansion': the clauses of a literal. Assumes nothing.
use Rattle.std.specs.Prelude.{List, [], ◌∷◌, map, cond, ℕ, ◌+◌, ◌*◌, ◌/◌, ◌%◌, eqb, get_or}
use Rattle.scope.specs.declared.Node.{Node}
use Rattle.scope.specs.Table.{operands}
-- '¬ is negation'
pub use Rattle.scope.specs.Table.{neg}

-- an operand choice of a clause template: 2 i is operand i, 2 i + 1 its negation. So 0 is a, 1 is ¬a, 2 is b, 3 is ¬b, 4 is c, 5 is ¬c
unfoldable pub chosen : Node → ℕ → ℕ
chosen x choice = cond (eqb (choice % 2) 0) (get_or (operands x) (choice / 2) 0) (neg (get_or (operands x) (choice / 2) 0))

-- 'The clauses of a literal, in order, held in a table by kind and sign': row 2 × kind + sign
unfoldable pub templates : List (List (List ℕ))
templates =
    -- there is no kind 0
    []
    ∷ []
    -- 'TRUE: none; its negation: one empty clause'
    ∷ []
    ∷ ([] ∷ [])
    -- 'ATOM, either sign: none'
    ∷ []
    ∷ []
    -- 'AND: {a} {b}; negated {¬a, ¬b}'
    ∷ ((0 ∷ []) ∷ (2 ∷ []) ∷ [])
    ∷ ((1 ∷ 3 ∷ []) ∷ [])
    -- 'OR: {a, b}; negated {¬a} {¬b}'
    ∷ ((0 ∷ 2 ∷ []) ∷ [])
    ∷ ((1 ∷ []) ∷ (3 ∷ []) ∷ [])
    -- 'IMP: {¬a, b}; negated {a} {¬b}'
    ∷ ((1 ∷ 2 ∷ []) ∷ [])
    ∷ ((0 ∷ []) ∷ (3 ∷ []) ∷ [])
    -- 'IFF: {¬a, b} {a, ¬b}; negated {a, b} {¬a, ¬b}'
    ∷ ((1 ∷ 2 ∷ []) ∷ (0 ∷ 3 ∷ []) ∷ [])
    ∷ ((0 ∷ 2 ∷ []) ∷ (1 ∷ 3 ∷ []) ∷ [])
    -- 'Expansions follow kinds 3 and 4 with c last': AND of three: {a} {b} {c}; negated {¬a, ¬b, ¬c}
    ∷ ((0 ∷ []) ∷ (2 ∷ []) ∷ (4 ∷ []) ∷ [])
    ∷ ((1 ∷ 3 ∷ 5 ∷ []) ∷ [])
    -- OR of three: {a, b, c}; negated {¬a} {¬b} {¬c}
    ∷ ((0 ∷ 2 ∷ 4 ∷ []) ∷ [])
    ∷ ((1 ∷ []) ∷ (3 ∷ []) ∷ (5 ∷ []) ∷ [])
    ∷ []

-- the clauses of a literal of a table's nodes
unfoldable pub expand : (ℕ → Node) → ℕ → List (List ℕ)
expand t l = map (map (chosen (t (l / 2)))) (get_or templates (2 * (t (l / 2)).kind + l % 2) [])
