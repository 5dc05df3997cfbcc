-- The jumping search by its next move: what code that makes one move at a time cites. Assumes nothing.
use mathlib.Core.Path.{◌≡◌}
use mathlib.Core.List.{List, ◌∷◌}
use Prim.Native.Nat.{ℕ, zero, suc}
use Rattle.calculus.specs.Expansion.{neg}
use Rattle.calculus.specs.Order.{move}
use Rattle.calculus.specs.declared.Move.TheVariants.{Conflict, Unit as Single, Done, Split}
use Rattle.calculus.specs.Jump.{only, less, Held, hold, literals, clause_rest, found, closed, stop, sides, jump}

module _ (cap : ℕ) (expand : ℕ → List (List ℕ)) (goals : List ℕ) (d : ℕ) (H : List Held) where
  pub jump_conflict : (fuel : ℕ) {k : ℕ} → move expand goals (literals H) ≡ Conflict k
      → jump cap expand goals fuel d H ≡ stop (closed (clause_rest expand goals H k))
  unfolding jump
  jump_conflict zero e = rw e
  jump_conflict (suc fuel) e = rw e

  pub jump_done : (fuel : ℕ) → move expand goals (literals H) ≡ Done → jump cap expand goals fuel d H ≡ stop (found (literals H))
  unfolding jump
  jump_done zero e = rw e
  jump_done (suc fuel) e = rw e

  pub jump_unit : (fuel : ℕ) {k l : ℕ} → move expand goals (literals H) ≡ Single k l
      → jump cap expand goals (suc fuel) d H ≡ jump cap expand goals fuel d (hold l (clause_rest expand goals H k) ∷ H)
  unfolding jump
  jump_unit fuel e = rw e

  pub jump_split : (fuel : ℕ) {l : ℕ} → move expand goals (literals H) ≡ Split l
      → jump cap expand goals (suc fuel) d H
      ≡ sides cap d (jump cap expand goals fuel (suc d) (hold l (only cap d) ∷ H)) (λ s. jump cap expand goals fuel (suc d) (hold (neg l) (less d s) ∷ H))
  unfolding jump
  jump_split fuel e = rw e
