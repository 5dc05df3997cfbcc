-- Weights are units modulo 65,521 (3 × 43,681 = 2 × 65,521 + 1), so one byte changed changes the weighted sum modulo 65,521.
-- Assumes nothing.
use mathlib.Core.Path.{◌≡◌, ◌∙◌, ap, sym, refl}
use mathlib.Core.List.{List}
use Prim.Native.Nat.{ℕ, zero, suc, ◌+◌, ◌-◌, ◌*◌, ◌/◌, ◌%◌, ◌<◌, ◌≤◌}
use native.Mathlib.Nat.{mul-one, mul-add, add-mul, mul_left_comm, mul-mod_right, div-add-mod}
use native.Mathlib.Omega.{arith}
use native.Mathlib.Decide.{ℕ_discrete, dec_le}
use lib.ListN.{get_or}
use Rattle.scope.specs.Block.{weight, weighted}
use Rattle.scope.specs.OneByte.{OneByte}

-- 3 has the inverse 43,681: three times a number is 0 modulo 65,521 only where the number is
third : (z u : ℕ) → 3 * z ≡ 65521 * u → z % 65521 ≡ 0
third z u e =
    let k : z ≡ 65521 * (43681 * u - 2 * z) = omega arith in
    ap (◌% 65521) k ∙ mul-mod_right 65521 (43681 * u - 2 * z)

-- every weight is a unit: a multiple of it is 0 modulo 65,521 only where the multiplier is
pub unit : (d i : ℕ) → d * weight i % 65521 ≡ 0 → d % 65521 ≡ 0
unfolding weight
unit d zero e = rw mul-one at e
unit d (suc i) e =
    let w : ℕ = weight i in
    let z : 3 * (d * w) ≡ 65521 * (d * (3 * w / 65521)) + d * ((3 * w) % 65521) =
    mul_left_comm 3 d w
    ∙ ap (d *◌) (sym (div-add-mod (3 * w) 65521))
    ∙ mul-add d (65521 * (3 * w / 65521)) ((3 * w) % 65521)
    ∙ ap (◌+ d * ((3 * w) % 65521)) (mul_left_comm d 65521 (3 * w / 65521)) in
    unit d i (third (d * w) (d * (3 * w / 65521) + d * ((3 * w) % 65521) / 65521) (omega (arith, z, e)))

-- two bytes whose multiples of a weight bring a sum to the same number modulo 65,521 are the same: their difference is below 256
pub same_multiple : (i x y s t : ℕ) → x < 256 → y < 256 → t + x * weight i ≡ s + y * weight i → s % 65521 ≡ t % 65521 → x ≡ y
same_multiple i x y s t hx hy e q = on (dec_le x y)
  where
    more : (a b : ℕ) → a ≤ b → b * weight i ≡ a * weight i + (b - a) * weight i
    more a b h =
        let z : b ≡ a + (b - a) = omega arith in
        ap (◌* weight i) z ∙ add-mul a (b - a) (weight i)

    on : Dec (x ≤ y) → x ≡ y
    on (yes h) = omega (arith, unit (y - x) i (omega (arith, more x y h)))
    on (no h) = omega (arith, unit (x - y) i (omega (arith, more y x (omega arith))))

module _ (b c : List ℕ) (i : ℕ) (o : OneByte b c i) where
  -- the sums up to the byte do not change
  pub sum_before : (n : ℕ) → n ≤ i → weighted c n ≡ weighted b n
  unfolding weighted
  sum_before zero l = refl
  sum_before (suc n) l = rw (sum_before n (omega arith), o.rest n (λ q. omega arith))

  -- .. and those past it change by the byte's multiple of its weight
  pub sum_past : (n : ℕ) → i < n → weighted c n + get_or b i 0 * weight i ≡ weighted b n + get_or c i 0 * weight i
  unfolding weighted
  sum_past zero l = absurd (omega arith)
  sum_past (suc n) l = on (ℕ_discrete n i) (sum_past n)
    where
      on : Dec (n ≡ i) → (i < n → weighted c n + get_or b i 0 * weight i ≡ weighted b n + get_or c i 0 * weight i)
          → weighted c n + get_or c n 0 * weight n + get_or b i 0 * weight i ≡ weighted b n + get_or b n 0 * weight n + get_or c i 0 * weight i
      on (yes q) ih = rw (q, sum_before i (omega arith)) (omega arith)
      on (no q) ih = rw (o.rest n q) (omega (arith, ih (omega arith)))
