-- A clause by its length, and its literals one by one. Assumes nothing.
use mathlib.Core.Path.{◌≡◌}
use mathlib.Core.List.{List, [], ◌∷◌}
use Prim.Native.Nat.{ℕ, ◌*◌, ◌<◌}
use native.Mathlib.Omega.{arith}
use native.Mathlib.Decide.{ℕ_discrete}
use borrow.Author.Tests.{ne_eqb}
use Rattle.calculus.specs.Model.{Below}
use Rattle.clause.specs.declared.Clause.{Clause}
use Rattle.clause.specs.Literals.{literals}

-- a clause by its length
pub by_length : (c : Clause) (P : ℕ → List ℕ → Type 0) → P 0 [] → P 1 (c.first ∷ []) → P 2 (c.first ∷ c.second ∷ [])
    → ((m : ℕ) → 2 < m → P m (c.first ∷ c.second ∷ c.third ∷ [])) → P c.len (literals c)
by_length c P none one two three = go (ℕ_discrete c.len 0) (ℕ_discrete c.len 1) (ℕ_discrete c.len 2)
  where
    go : Dec (c.len ≡ 0) → Dec (c.len ≡ 1) → Dec (c.len ≡ 2) → P c.len (literals c)
    go (yes e) y z = rw e none
    go (no a) (yes e) z = rw e one
    go (no a) (no b) (yes e) = rw e two
    go (no a) (no b) (no d) = rw (ne_eqb c.len 0 a, ne_eqb c.len 1 b, ne_eqb c.len 2 d) (three c.len (omega (arith, a, b, d)))

-- the literals that it has are of its own
module _ (n : ℕ) (c : Clause) where
  pub first_below : Below n (literals c) → 0 < c.len → c.first < 2 * n
  first_below =
      by_length c (λ (m : ℕ) (ls : List ℕ). Below n ls → 0 < m → c.first < 2 * n) (λ b h. absurd (omega arith)) (λ b h. b.0) (λ b h. b.0) (λ m k b h. b.0)

  pub second_below : Below n (literals c) → 1 < c.len → c.second < 2 * n
  second_below =
      by_length c (λ (m : ℕ) (ls : List ℕ). Below n ls → 1 < m → c.second < 2 * n) (λ b h. absurd (omega arith)) (λ b h. absurd (omega arith))
      (λ b h. b.1.0) (λ m k b h. b.1.0)

  pub third_below : Below n (literals c) → 2 < c.len → c.third < 2 * n
  third_below =
      by_length c (λ (m : ℕ) (ls : List ℕ). Below n ls → 2 < m → c.third < 2 * n) (λ b h. absurd (omega arith)) (λ b h. absurd (omega arith))
      (λ b h. absurd (omega arith)) (λ m k b h. b.1.1.0)
