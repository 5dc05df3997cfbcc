-- Which operands a clause has, row by row of the templates. Assumes nothing.
use mathlib.Core.Path.{◌≡◌, refl, ap, ◌∙◌}
use mathlib.Core.List.{List, [], ◌∷◌, map}
use Prim.Native.Nat.{ℕ, zero, suc, ◌+◌, ◌/◌, ◌%◌, ◌<◌}
use native.Mathlib.Nat.{zero-add}
use native.Mathlib.Omega.{arith}
use lib.ListN.{length, get_or, length-map, get_or-map}
use Rattle.scope.specs.declared.Node.{Node}
use Rattle.scope.specs.Table.{arity, list_from}
use Rattle.calculus.specs.Expansion.{templates, chosen, expand}
use Rattle.calculus.specs.Model.{All}
use Rattle.calculus.proofs.Lists.{all_at, all_map}
use Rattle.calculus.proofs.Rows.{row_of, Within, row_within_lem}
use Rattle.grounds.specs.Ground.{in_row, operands_in}

-- the clauses of a row, from j on
abbrev InOrder : ℕ → ℕ → ℕ → List (List ℕ) → Type 0
InOrder kind sign j [] = Unit {0}
InOrder kind sign j (c ∷ cs) = (map (◌/ 2) c ≡ in_row kind sign j) × InOrder kind sign (suc j) cs

order_at : (kind sign i j : ℕ) (cs : List (List ℕ)) → InOrder kind sign i cs → j < length cs → map (◌/ 2) (get_or cs j []) ≡ in_row kind sign (i + j)
order_at kind sign i j [] o h = absurd (omega arith)
order_at kind sign i zero (c ∷ cs) o h = o.0 ∙ ap (in_row kind sign) (omega arith)
order_at kind sign i (suc j) (c ∷ cs) o h = order_at kind sign (suc i) j cs o.1 (omega arith) ∙ ap (in_row kind sign) (omega arith)

-- there is no kind 0; then TRUE, ATOM, AND, OR, IMP, IFF, AND of three, OR of three
rows-plain : (kind : ℕ) → kind < 9 → InOrder kind 0 0 (row_of kind 0)
unfolding templates arity list_from
rows-plain zero h = tt
rows-plain (suc zero) h = tt
rows-plain (suc (suc zero)) h = tt
rows-plain (suc (suc (suc zero))) h = (refl, (refl, tt))
rows-plain (suc (suc (suc (suc zero)))) h = (refl, tt)
rows-plain (suc (suc (suc (suc (suc zero))))) h = (refl, tt)
rows-plain (suc (suc (suc (suc (suc (suc zero)))))) h = (refl, (refl, tt))
rows-plain (suc (suc (suc (suc (suc (suc (suc zero))))))) h = (refl, (refl, (refl, tt)))
rows-plain (suc (suc (suc (suc (suc (suc (suc (suc zero)))))))) h = (refl, tt)
rows-plain (suc (suc (suc (suc (suc (suc (suc (suc (suc kind))))))))) h = absurd (omega arith)

rows_negated : (kind : ℕ) → kind < 9 → InOrder kind 1 0 (row_of kind 1)
unfolding templates arity list_from
rows_negated zero h = tt
rows_negated (suc zero) h = (refl, tt)
rows_negated (suc (suc zero)) h = tt
rows_negated (suc (suc (suc zero))) h = (refl, tt)
rows_negated (suc (suc (suc (suc zero)))) h = (refl, (refl, tt))
rows_negated (suc (suc (suc (suc (suc zero))))) h = (refl, (refl, tt))
rows_negated (suc (suc (suc (suc (suc (suc zero)))))) h = (refl, (refl, tt))
rows_negated (suc (suc (suc (suc (suc (suc (suc zero))))))) h = (refl, tt)
rows_negated (suc (suc (suc (suc (suc (suc (suc (suc zero)))))))) h = (refl, (refl, (refl, tt)))
rows_negated (suc (suc (suc (suc (suc (suc (suc (suc (suc kind))))))))) h = absurd (omega arith)

rows_in : (kind sign : ℕ) → kind < 9 → sign < 2 → InOrder kind sign 0 (row_of kind sign)
rows_in kind zero h s = rows-plain kind h
rows_in kind (suc zero) h s = rows_negated kind h
rows_in kind (suc (suc sign)) h s = absurd (omega arith)

module _ (t : ℕ → Node) (l j : ℕ) (known : (t (l / 2)).kind < 9) (h : j < length (expand t l)) where
  abbrev node : Node
  node = t (l / 2)

  -- the clause, as choices
  abbrev pub choices : List ℕ
  choices = get_or (row_of node.kind (l % 2)) j []

  low : j < length (row_of node.kind (l % 2))
  unfolding expand
  low = omega (arith, h, length-map (row_of node.kind (l % 2)) (map (chosen node)))

  pub chosen-clause : get_or (expand t l) j [] ≡ map (chosen node) choices
  unfolding expand
  chosen-clause = get_or-map (map (chosen node)) (row_of node.kind (l % 2)) j []

  pub choices_in : map (◌/ 2) choices ≡ operands_in t l j
  choices_in =
      order_at node.kind (l % 2) 0 j (row_of node.kind (l % 2)) (rows_in node.kind (l % 2) known (omega arith)) low
      ∙ ap (in_row node.kind (l % 2)) (zero-add j)

  -- they are of its node
  pub all_within : All (λ i. i < arity node.kind) (operands_in t l j)
  all_within =
      rw choices_in at
      (all_map (λ i. i < arity node.kind) (◌/ 2) choices
      (all_at (All (Within node.kind)) (row_of node.kind (l % 2)) j [] (row_within_lem node.kind (l % 2) known (omega arith)) low))
