-- Truths as levels: no 0, unknown 1, yes 2. Assumes nothing.
use mathlib.Core.Path.{◌≡◌, ◌∙◌, refl, ap}
use mathlib.Core.List.{List, [], ◌∷◌}
use Prim.Native.Nat.{ℕ, zero, suc, ◌+◌, ◌-◌, ◌*◌, ◌/◌, ◌%◌, ◌<◌, ◌≤◌}
use native.Mathlib.Nat.{zero-add}
use native.Mathlib.Omega.{arith}
use native.Mathlib.Decide.{ℕ_discrete}
use lib.ListN.{get_or, replicate}
use Rattle.scope.specs.declared.Truth.{Truth}
use Rattle.scope.specs.declared.Truth.TheVariants.{Yes, No, Unknown}
use Rattle.scope.specs.Truth.{joined}
use Rattle.scope.specs.Kleene.{opposite, kleene}
use Rattle.scope.proofs.Lists.{get_d_list_from}
use Rattle.truth.specs.Evaluated.{level, truth_of, join_at, join_row, join_rows, Levels}

pub truth_of_level : (a : Truth) → truth_of (level a) ≡ a
unfolding level
truth_of_level No = refl
truth_of_level Unknown = refl
truth_of_level Yes = refl

level_most : (a : Truth) → level a ≤ 2
unfolding level
level_most No = omega arith
level_most Unknown = omega arith
level_most Yes = omega arith

pub at_most : {x : ℕ} (a : Truth) → x ≡ level a → x ≤ 2
at_most a e = rw e (level_most a)

pub truth_high : (x : ℕ) → (x ≡ 0 → ⊥) → (x ≡ 1 → ⊥) → Yes ≡ truth_of x
truth_high zero h k = absurd (h refl)
truth_high (suc zero) h k = absurd (k refl)
truth_high (suc (suc x)) h k = refl

-- a negation
pub left_of_two : (a : Truth) → 2 - level a ≡ level (opposite a)
unfolding level
left_of_two No = refl
left_of_two Unknown = refl
left_of_two Yes = refl

-- JOINS at two levels
pub join_is : (kind x y : ℕ) → 2 < kind → kind < 7 → x ≤ 2 → y ≤ 2
    → get_or (get_or join_rows (kind - 3) []) (3 * x + y) 0 ≡ level (joined kleene kind (truth_of x ∷ truth_of y ∷ []))
join_is kind x y low high h k =
    let row : 3 + (kind - 3) ≡ kind = omega arith in
    let first : (3 * x + y) / 3 ≡ x = omega arith in
    let second : (3 * x + y) % 3 ≡ y = omega arith in
    ap (λ (r : List ℕ). get_or r (3 * x + y) 0) (get_d_list_from join_row 4 3 (kind - 3) [] (omega arith) ∙ ap join_row row)
    ∙ get_d_list_from (join_at kind) 9 0 (3 * x + y) 0 (omega arith)
    ∙ simp (zero-add, first, second)

-- three are joined by AND or OR, twice
module _ (kind : ℕ) (low : 7 ≤ kind) (high : kind < 9) (a b c : Truth) where
  pub join_twice : joined kleene (kind - 4) (a ∷ joined kleene (kind - 4) (b ∷ c ∷ []) ∷ []) ≡ joined kleene kind (a ∷ b ∷ c ∷ [])
  unfolding joined
  join_twice = go (ℕ_discrete kind 7)
    where
      go : Dec (kind ≡ 7) → joined kleene (kind - 4) (a ∷ joined kleene (kind - 4) (b ∷ c ∷ []) ∷ []) ≡ joined kleene kind (a ∷ b ∷ c ∷ [])
      go (yes e) = rw e refl
      go (no e) = let q : kind ≡ 8 = omega arith in rw q refl

pub blank_levels : (n : ℕ) → Levels (replicate n 0)
blank_levels zero i = omega arith
blank_levels (suc n) zero = omega arith
blank_levels (suc n) (suc i) = blank_levels n i
