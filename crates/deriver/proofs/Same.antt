-- Tables of which both have the nodes that a search comes to give one derivation. Assumes nothing.
use mathlib.Core.Path.{◌≡◌, refl, ap, ap₂, ◌∙◌}
use mathlib.Core.List.{List, [], ◌∷◌, ◌++◌, map}
use Prim.Native.Nat.{ℕ, ◌≤◌}
use lib.ListN.{get_or}
use Rattle.scope.specs.declared.Node.{Node}
use Rattle.calculus.specs.Expansion.{expand}
use Rattle.calculus.specs.Order.{Tree, tree}
use Rattle.calculus.specs.Model.{All, Table, Below}
use Rattle.calculus.specs.Agree.{Alike, Closed}
use Rattle.calculus.proofs.Search.{Grown, closes, joins, ends, parts, grown-whole}
use Rattle.rules.specs.declared.Step.{Step}
use Rattle.rules.specs.declared.Version.{Version}
use Rattle.rules.specs.Steps.{U, C, S, G as name}
use Rattle.rules.specs.Derivation.{removals, in_one, removed, steps_of, named_steps}
use Rattle.calculus.proofs.Same.{neg-alike, clauses-alike, unit-alike, split-alike, search_alike}

module _ (v : Version) (n : ℕ) (t u : ℕ → Node) (T : Table n t) (N : Closed n t u) (goals : List ℕ) (A : All (Alike t u) goals) where
  removed_same : (G : List ℕ) → All (Alike t u) G → (k : ℕ) → removed v (expand t) goals G k ≡ removed v (expand u) goals G k
  removed_same G a k = ap (λ (cs : List (List ℕ)). in_one v (removals G k 0 (get_or cs k []))) (clauses-alike t u goals G a)

  -- the steps of a tree that is grown over t
  steps_same : {G : List ℕ} {tr : Tree} → Grown n t goals G tr → All (Alike t u) G → steps_of v (expand t) goals G tr ≡ steps_of v (expand u) goals G tr
  unfolding steps_of
  steps_same {G} (closes {k = k} g m) a = ap (◌++ C k ∷ []) (removed_same G a k)
  steps_same {G} (joins {k = k} {l = l} g m f r) a =
      ap₂ (λ (y z : List Step). y ++ U k ∷ z) (removed_same G a k) (steps_same r (unit-alike n t u T N goals A G g a k l m, a))
  steps_same (ends g m) a = refl
  steps_same {G} (parts {l = l} g m f p q) a =
      let s = split-alike n t u T N goals A G g a l m in
      ap₂ (λ (y z : List Step). S l ∷ y ++ z) (steps_same p (s, a)) (steps_same q (neg-alike t u l s, a))

  -- more fuel than there are nodes changes nothing
  pub derivation_same : Below n goals → (fuel : ℕ) → n ≤ fuel
      → named_steps v (expand t) goals (tree (expand t) goals n []) ≡ named_steps v (expand u) goals (tree (expand u) goals fuel [])
  derivation_same B fuel h =
      ap (map name goals ++◌) (steps_same (grown-whole n t goals T B) tt ∙ ap (steps_of v (expand u) goals []) (search_alike n t u T N goals A B fuel h))
