-- The numbers of the three values tell them apart. Assumes nothing.
use mathlib.Core.Path.{◌≡◌, refl}
use Prim.Native.Nat.{ℕ, ◌<◌}
use native.Mathlib.Omega.{arith}
use Rattle.calculus.specs.Order.{Value, holds, fails, undecided}
use Rattle.trail.specs.Trail.{value_code}

pub code_low : (v : Value) → value_code v < 3
code_low undecided = omega arith
code_low holds = omega arith
code_low fails = omega arith

pub code_holds : (v : Value) → value_code v ≡ 1 → v ≡ holds
code_holds holds e = refl
code_holds fails e = absurd (omega arith)
code_holds undecided e = absurd (omega arith)

pub code_fails : (v : Value) → value_code v ≡ 2 → v ≡ fails
code_fails holds e = absurd (omega arith)
code_fails fails e = refl
code_fails undecided e = absurd (omega arith)

pub code_undecided : (v : Value) → value_code v ≡ 0 → v ≡ undecided
code_undecided undecided e = refl
code_undecided holds e = absurd (omega (arith, e))
code_undecided fails e = absurd (omega (arith, e))

pub code_else : (v : Value) {r : ℕ} → r ≡ value_code v → (r ≡ 1 → ⊥) → (r ≡ 2 → ⊥) → v ≡ undecided
code_else holds e a b = absurd (a e)
code_else fails e a b = absurd (b e)
code_else undecided e a b = refl
