-- 01, 'Derivations', third part, and 'A derivation names its goals' and 'Version two of the steps': the one derivation in the solver's
-- order. Assumes nothing.
use Rattle.std.specs.Prelude.{List, [], ◌∷◌, ◌++◌, map, ℕ, suc, get_or, cond}
use Rattle.calculus.specs.Expansion.{neg}
use Rattle.calculus.specs.Order.{value_of, clauses, Tree, conflict, unit, split, model, cut}
use Rattle.rules.specs.declared.Step.{Step}
use Rattle.rules.specs.declared.Version.{Version}
use Rattle.rules.specs.declared.Version.TheVariants.{One, Two}
use Rattle.rules.specs.Steps.{U, R, C, S, G as name}
use Rattle.rules.specs.Rules.{is_fails}

-- 'an R for each false literal of the clause, in position order': of clause k, from position p on
unfoldable pub removals : List ℕ → ℕ → ℕ → List ℕ → List Step
removals G k p [] = []
removals G k p (l ∷ c) = cond (is_fails (value_of G l)) (R p k ∷ removals G k (suc p) c) (removals G k (suc p) c)

-- steps that only version one has
abbrev pub in_one : Version → List Step → List Step
in_one One ss = ss
in_one Two ss = []

module _ (version : Version) (expand : ℕ → List (List ℕ)) (goals : List ℕ) where
  -- '.. just before its U or C'; 'in version two the derivation in the solver's order has no R'
  abbrev pub removed : List ℕ → ℕ → List Step
  removed G k = in_one version (removals G k 0 (get_or (clauses expand goals G) k []))

  -- 'a U, C or S for each UNIT, CONFLICT and SPLIT of its search, in turn, with the clause's number or the left literal as
  -- value ..., and never an E', for the search from G
  unfoldable pub steps_of : List ℕ → Tree → List Step
  steps_of G (conflict k) = removed G k ++ C k ∷ []
  steps_of G (unit k l below) = removed G k ++ U k ∷ steps_of (l ∷ G) below
  steps_of G (split l left right) = S l ∷ steps_of (l ∷ G) left ++ steps_of (neg l ∷ G) right
  steps_of G (model F) = []
  steps_of G cut = []

  -- 'the derivation in the solver's order starts with them': a G for each goal, then the steps of the search
  abbrev pub named_steps : Tree → List Step
  named_steps search = map name goals ++ steps_of [] search
