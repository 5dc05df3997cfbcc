-- A list of length 1 gives the answers, and so the settings, that its goal gave; check, of derivations that name no goal. Assumes nothing.
use mathlib.Core.Path.{◌≡◌, refl, ◌∙◌}
use mathlib.Core.Bool.{Bool, true, false}
use mathlib.Core.List.{List, [], ◌∷◌}
use Prim.Native.Nat.{ℕ, ◌*◌}
use lib.Dec.{leb, ltb}
use lib.ListN.{length}
use Rattle.scope.specs.declared.Node.{Node}
use Rattle.scope.specs.Outcome.{Outcome, answer, refused, fine, require, first, ◌>>◌, ◌>>=◌}
use Rattle.scope.specs.Table.{decode}
use Rattle.calculus.specs.Decide.{list_row, rows_test, asked_by, asked, decide}
use Rattle.rules.specs.Derive.{check}
use Rattle.rules.specs.OneGoal.{asked_one, decide_one, check_one}
use Rattle.rules.specs.Earlier.{Earlier}
use Rattle.rules.specs.Unnamed.{Nameless}
use Rattle.rules.proofs.Unnamed.{check_unnamed_lem}

-- the rows, by what their tests say
rows-one : (rs : List Node) (p q r : Bool)
    → (((require p 20 0 >> fine) >> (require q 21 0 >> require r 23 0)) >> answer rs) ≡ (require p 20 0 >> (require q 21 0 >> (require r 23 0 >> answer rs)))
rows-one rs false q r = refl
rows-one rs true false r = refl
rows-one rs true true false = refl
rows-one rs true true true = refl

asked-one : (t : List ℕ) (goal needed points area : ℕ) → asked t (goal ∷ []) needed points area ≡ asked_one t goal needed points area
unfolding asked_by rows_test first
asked-one t goal needed points area = go (decode t)
  where
    go : (o : Outcome (List Node)) → (o >>= λ rs. rows_test (list_row (goal ∷ [])) (length rs) (goal ∷ []) needed points area >> answer rs)
        ≡ (o >>= λ rs. require (ltb goal (2 * length rs)) 20 0 >> (require (leb needed points) 21 0 >> (require (leb 32768 area) 23 0 >> answer rs)))
    go (answer rs) = rows-one rs (ltb goal (2 * length rs)) (leb needed points) (leb 32768 area)
    go (refused number place) = refl

module _ (t : List ℕ) (goal : ℕ) where
  pub decide-one : (s w : List ℕ) → decide t (goal ∷ []) s w ≡ decide_one t goal s w
  unfolding decide
  decide-one s w = rw (asked-one t goal 1024 (length s) (length w))

  pub check-one : (w d : List ℕ) → Earlier d → Nameless d → check t (goal ∷ []) w d ≡ check_one t goal w d
  check-one w d before none = check_unnamed_lem (goal ∷ []) d before none t w ∙ rw (asked-one t goal 0 0 (length w))
