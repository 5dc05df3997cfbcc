-- The sizes of clauses: how many a literal brings, how many the clause list has, and how long they are. Assumes nothing.
use mathlib.Core.Path.{◌≡◌, refl}
use mathlib.Core.List.{List, [], ◌∷◌, map}
use mathlib.Core.Bool.{Bool, true, ◌&&◌}
use Prim.Native.Nat.{ℕ, ◌+◌, ◌*◌, ◌/◌, ◌%◌, ◌≤◌}
use native.Mathlib.Omega.{arith}
use lib.Dec.{leb}
use lib.ListN.{length, get_or, length-append, length-map}
use borrow.Author.Tests.{leb-true}
use Rattle.scope.specs.declared.Node.{Node}
use Rattle.scope.proofs.Tests.{and_left, and_right}
use Rattle.calculus.specs.Expansion.{chosen, templates, expand}
use Rattle.calculus.specs.Order.{clauses}
use Rattle.calculus.specs.Model.{All}
use Rattle.calculus.proofs.Lists.{every, every_all, all_append, all_get_d, all_each, all_imply, all_map}

-- the most literals of a clause, and the most clauses of a literal
abbrev pub widest : ℕ
widest = 3

abbrev pub most : ℕ
most = 3

abbrev pub Short : List ℕ → Type 0
Short c = length c ≤ widest

abbrev short_clause : List ℕ → Bool
short_clause c = leb (length c) widest

abbrev short_row : List (List ℕ) → Bool
short_row row = leb (length row) most && every short_clause row

rows_short : every short_row templates ≡ true
unfolding templates
rows_short = refl

-- of every row of the templates
row_short : (i : ℕ) → (length (get_or templates i []) ≤ most) × All Short (get_or templates i [])
row_short i =
    let row : List (List ℕ) = get_or templates i [] in
    let e : short_row row ≡ true = all_get_d (λ r. short_row r ≡ true) templates i [] refl (every_all short_row templates rows_short) in (
      leb-true (length row) most (and_left (leb (length row) most) (every short_clause row) e),
      all_imply (λ c. short_clause c ≡ true) Short (λ c. leb-true (length c) widest) row
          (every_all short_clause row (and_right (leb (length row) most) (every short_clause row) e)),
    )

-- a literal brings its expansion
pub clauses_more : (e : ℕ → List (List ℕ)) (goals : List ℕ) (l : ℕ) (G : List ℕ) → length (clauses e goals (l ∷ G)) ≡ length (clauses e goals G) + length (e l)
unfolding clauses
clauses_more e goals l G = length-append (clauses e goals G) (e l)

module _ (t : ℕ → Node) where
  -- of every literal
  pub expand-few : (l : ℕ) → length (expand t l) ≤ most
  unfolding expand
  expand-few l =
      let i : ℕ = 2 * (t (l / 2)).kind + l % 2 in
      omega (arith, length-map (get_or templates i []) (map (chosen (t (l / 2)))), (row_short i).0)

  expand_short : (l : ℕ) → All Short (expand t l)
  unfolding expand
  expand_short l =
      let i : ℕ = 2 * (t (l / 2)).kind + l % 2 in
      all_map Short (map (chosen (t (l / 2)))) (get_or templates i [])
      (all_imply Short (λ c. Short (map (chosen (t (l / 2))) c)) (λ c h. omega (arith, length-map c (chosen (t (l / 2))), h))
      (get_or templates i []) (row_short i).1)

  module _ (goals : List ℕ) where
    -- the clause list has at most so many clauses
    pub clauses-few : (G : List ℕ) → length (clauses (expand t) goals G) ≤ length goals + most * length G
    unfolding clauses
    clauses-few [] = omega (arith, length-map goals (◌∷ []))
    clauses-few (l ∷ G) = omega (arith, clauses_more (expand t) goals l G, clauses-few G, expand-few l)

    -- and short ones
    pub clauses-short : (G : List ℕ) → All Short (clauses (expand t) goals G)
    unfolding clauses
    clauses-short [] = all_map Short (◌∷ []) goals (all_each (λ l. Short (l ∷ [])) (λ l. omega arith) goals)
    clauses-short (l ∷ G) = all_append Short (clauses (expand t) goals G) (expand t l) (clauses-short G) (expand_short l)
