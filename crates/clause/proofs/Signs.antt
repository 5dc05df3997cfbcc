-- The sign of a literal is changed by an xor. Assumes nothing.
use mathlib.Core.Path.{◌≡◌, refl, ap, ◌∙◌}
use Prim.Native.Nat.{ℕ, zero, suc, ◌+◌, ◌-◌, ◌/◌, ◌%◌, ◌<◌}
use native.Mathlib.Omega.{arith}
use lib.Bits.{bit_xor, differ, xor_step, xor_zero_r}
use Rattle.calculus.specs.Expansion.{neg}

digits : (a s : ℕ) → a < 2 → s < 2 → differ a s ≡ (a + s) % 2
digits zero s b i = omega arith
digits (suc zero) zero b i = refl
digits (suc zero) (suc zero) b i = refl
digits (suc zero) (suc (suc s)) b i = absurd (omega (arith, i))
digits (suc (suc a)) s b i = absurd (omega (arith, b))

-- by a sign
pub xor_sign : (l s : ℕ) → s < 2 → bit_xor l s ≡ l - l % 2 + (l + s) % 2
xor_sign l s b =
    let e : s / 2 ≡ 0 = omega (arith, b) in
    let f : s % 2 ≡ s = omega (arith, b) in
    let g : bit_xor (l / 2) (s / 2) ≡ l / 2 = ap (bit_xor (l / 2)) e ∙ xor_zero_r (l / 2) in
    let h : differ (l % 2) (s % 2) ≡ (l % 2 + s) % 2 = ap (differ (l % 2)) f ∙ digits (l % 2) s (omega arith) b in
    omega (arith, xor_step l s, g, h)

pub xor_neg : (l : ℕ) → bit_xor l 1 ≡ neg l
xor_neg l = omega (arith, xor_sign l 1 (omega arith))

-- by the parity of a choice
pub xor_choice : (l c : ℕ) {r : ℕ} → l - l % 2 + (l + c) % 2 ≡ r → bit_xor l (c % 2) ≡ r
xor_choice l c e = omega (arith, xor_sign l (c % 2) (omega arith), e)
