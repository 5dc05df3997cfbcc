-- The literals of a clause. Assumes nothing.
use Rattle.std.specs.Prelude.{cond, List, [], ◌∷◌, ℕ, eqb}
use Rattle.clause.specs.declared.Clause.{Clause}

-- 0, 1, 2 or 3
abbrev pub literals : Clause → List ℕ
literals c =
    cond (eqb c.len 0) []
    (cond (eqb c.len 1) (c.first ∷ [])
    (cond (eqb c.len 2) (c.first ∷ c.second ∷ [])
    (c.first ∷ c.second ∷ c.third ∷ [])))
