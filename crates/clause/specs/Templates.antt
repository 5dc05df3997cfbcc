-- 01, 'Expansion': 'held in a table by kind and sign'. The templates as the code has them, nine numbers a row. Assumes nothing.
use Rattle.std.specs.Prelude.{List, [], ◌∷◌, map, ℕ, ◌/◌, ◌%◌, get_or}
use Rattle.scope.specs.Table.{list_from}
use Rattle.calculus.specs.Expansion.{templates}

-- choice i of a literal's clauses, three a clause: 6 fills a shorter clause up, and a missing one is 7 three times
abbrev pub choice_at : List (List ℕ) → ℕ → ℕ
choice_at cs i = get_or (get_or cs (i / 3) (7 ∷ 7 ∷ 7 ∷ [])) (i % 3) 6

-- TEMPLATES: no literal has more than three clauses, and no clause more than three literals
unfoldable pub rows : List (List ℕ)
rows = map (λ cs. list_from (choice_at cs) 0 9) templates

-- a number of a row
abbrev pub cell : ℕ → ℕ → ℕ
cell row column = get_or (get_or rows row []) column 0
