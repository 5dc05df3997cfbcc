-- Request 01, 'the file's' truth 'under every setting': on its clauses alone, with no table. Assumes nothing.
use Rattle.std.specs.Prelude.{List, [], ◌∷◌, Bool, true, false, cond, not, ◌&&◌, ◌||◌, ℕ, ◌/◌, ◌%◌, eqb, get_or}

-- 'Variable v is point v − 1': a literal is true where its point is 1, a negated one where it is not
unfoldable pub literal_true : List ℕ → ℕ → Bool
literal_true s l = cond (eqb (l % 2) 0) (eqb (get_or s (l / 2) 0) 1) (not (eqb (get_or s (l / 2) 0) 1))

-- a clause is true where one of its literals is
unfoldable pub clause_true : List ℕ → List ℕ → Bool
clause_true s [] = false
clause_true s (l ∷ c) = literal_true s l || clause_true s c

-- 'conjunctive normal form': a file is true where each of its clauses is
unfoldable pub clauses_true : List ℕ → List (List ℕ) → Bool
clauses_true s [] = true
clauses_true s (c ∷ cs) = clause_true s c && clauses_true s cs
