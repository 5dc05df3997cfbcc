-- Bits of a word: one is set or cleared and no other changes; the lowest that is set. Assumes nothing.
use mathlib.Core.Path.{◌≡◌, refl, sym, ap, ap₂, ◌∙◌}
use mathlib.Core.Bool.{◌||◌}
use Prim.Native.Nat.{ℕ, zero, suc, ◌+◌, ◌-◌, ◌*◌, ◌/◌, ◌%◌, ◌^◌, ◌<◌, ◌≤◌, max}
use native.Mathlib.Nat.{pow-suc, div-one, zero-add}
use native.Mathlib.Numerals.{one-add}
use native.Mathlib.Omega.{arith}
use lib.Dec.{eqb}
use lib.Pow.{shr-shr}
use lib.Bits.{bit_and, bit_or, and_step, or_step, and_self}
use lib.Count.{under, count_trailing_zeros}
use Rattle.units.specs.Units.{bit}

-- ---- the lowest bit, and the others as bits of the half

pub bit-zero : (x : ℕ) → bit x 0 ≡ x % 2
unfolding bit
bit-zero x = ap (λ (y : ℕ). y % 2) (div-one x)

pub bit-suc : (x j : ℕ) → bit x (suc j) ≡ bit (x / 2) j
unfolding bit
bit-suc x j = ap (λ (y : ℕ). x / 2 ^ y % 2) (sym (one-add j)) ∙ sym (ap (λ (y : ℕ). y % 2) (shr-shr x 1 j))

-- two words with the same half have the same bits but the lowest
bit_half : (x y j : ℕ) → y / 2 ≡ x / 2 → bit y (suc j) ≡ bit x (suc j)
bit_half x y j e = bit-suc y j ∙ ap (λ (z : ℕ). bit z j) e ∙ sym (bit-suc x j)

-- ---- one bit is changed

-- bit i of y is v, and its other bits are those of x
pub record Turned (x y i v : ℕ) : Type 0 where
  pub here : bit y i ≡ v
  pub other : (j : ℕ) → (j ≡ i → ⊥) → bit y j ≡ bit x j

-- the lowest bit
turned_zero : (x y v : ℕ) → y % 2 ≡ v → y / 2 ≡ x / 2 → Turned x y 0 v
turned_zero x y v e h = record { here = bit-zero y ∙ e; other = other }
  where
    other : (j : ℕ) → (j ≡ 0 → ⊥) → bit y j ≡ bit x j
    other zero n = absurd (n refl)
    other (suc j) n = bit_half x y j h

-- a bit of the half
turned-suc : (x y i v : ℕ) → y % 2 ≡ x % 2 → Turned (x / 2) (y / 2) i v → Turned x y (suc i) v
turned-suc x y i v e t = record { here = bit-suc y i ∙ t.here; other = other }
  where
    other : (j : ℕ) → (j ≡ suc i → ⊥) → bit y j ≡ bit x j
    other zero n = bit-zero y ∙ e ∙ sym (bit-zero x)
    other (suc j) n = bit-suc y j ∙ t.other j (λ q. n (ap suc q)) ∙ sym (bit-suc x j)

-- no bit is changed
pub turned_none : (x i v : ℕ) → bit x i ≡ v → Turned x x i v
turned_none x i v e = record { here = e; other = λ j n. refl }

pub set-bit : (x i : ℕ) → bit x i ≡ 0 → Turned x (x + 2 ^ i) i 1
set-bit x zero h =
    let e : x % 2 ≡ 0 = sym (bit-zero x) ∙ h in
    turned_zero x (x + 1) 1 (omega arith) (omega arith)
set-bit x (suc i) h =
    let p : 2 ^ suc i ≡ 2 ^ i * 2 = pow-suc 2 i in
    let q : (x + 2 ^ suc i) / 2 ≡ x / 2 + 2 ^ i = omega arith in
    turned-suc x (x + 2 ^ suc i) i 1 (omega arith) (rw q (set-bit (x / 2) i (sym (bit-suc x i) ∙ h)))

pub clear_bit : (x i : ℕ) → bit x i ≡ 1 → (2 ^ i ≤ x) × Turned x (x - 2 ^ i) i 0
clear_bit x zero h =
    let e : x % 2 ≡ 1 = sym (bit-zero x) ∙ h in
    (omega arith, turned_zero x (x - 1) 0 (omega arith) (omega arith))
clear_bit x (suc i) h =
    let p : 2 ^ suc i ≡ 2 ^ i * 2 = pow-suc 2 i in
    let r = clear_bit (x / 2) i (sym (bit-suc x i) ∙ h) in
    let q : (x - 2 ^ suc i) / 2 ≡ x / 2 - 2 ^ i = omega (arith, r.0) in
    (omega (arith, r.0), turned-suc x (x - 2 ^ suc i) i 0 (omega (arith, r.0)) (rw q r.1))

-- ---- no bit, the lowest bit

pub bit-none : (j : ℕ) → bit 0 j ≡ 0
bit-none zero = bit-zero 0
bit-none (suc j) = bit-suc 0 j ∙ bit-none j

-- bit t is the lowest that is set in a word of n bits
pub record Lowest (n x t : ℕ) : Type 0 where
  pub low : t < n
  pub here : bit x t ≡ 1
  pub under : (j : ℕ) → j < t → bit x j ≡ 0

pub lowest : (n x : ℕ) → 0 < x → x < 2 ^ n → Lowest n x (count_trailing_zeros n x)
unfolding count_trailing_zeros
lowest zero x h f = absurd (omega (arith, h, f))
lowest (suc n) x h f = go (x % 2) refl (λ (e : x % 2 ≡ 0). lowest n (x / 2) (omega arith) (omega (arith, pow-suc 2 n)))
  where
    go : (d : ℕ) → x % 2 ≡ d → (x % 2 ≡ 0 → Lowest n (x / 2) (count_trailing_zeros n (x / 2))) → Lowest (suc n) x (under d (count_trailing_zeros n (x / 2)))
    go zero e r = record { low = omega (arith, (r e).low); here = bit-suc x _ ∙ (r e).here; under = least }
      where
        least : (j : ℕ) → j < suc (count_trailing_zeros n (x / 2)) → bit x j ≡ 0
        least zero l = bit-zero x ∙ e
        least (suc j) l = bit-suc x j ∙ (r e).under j (omega arith)
    go (suc d) e r = record { low = omega arith; here = bit-zero x ∙ omega arith; under = λ j l. absurd (omega (arith, l)) }

-- a number without its lowest bit
pub less_lowest : (n x : ℕ) → 0 < x → x < 2 ^ n → Turned x (bit_and x (x - 1)) (count_trailing_zeros n x) 0
unfolding count_trailing_zeros
less_lowest zero x h f = absurd (omega (arith, h, f))
less_lowest (suc n) x h f = go (x % 2) refl (λ (e : x % 2 ≡ 0). less_lowest n (x / 2) (omega arith) (omega (arith, pow-suc 2 n)))
  where
    go : (d : ℕ) → x % 2 ≡ d → (x % 2 ≡ 0 → Turned (x / 2) (bit_and (x / 2) (x / 2 - 1)) (count_trailing_zeros n (x / 2)) 0)
        → Turned x (bit_and x (x - 1)) (under d (count_trailing_zeros n (x / 2))) 0
    go zero e r =
        let a : (x - 1) / 2 ≡ x / 2 - 1 = omega arith in
        let b : (x - 1) % 2 ≡ 1 = omega arith in
        let s = rw (a, b, e) at (and_step x (x - 1)) in
        let half : bit_and x (x - 1) / 2 ≡ bit_and (x / 2) (x / 2 - 1) = omega (arith, s) in
        turned-suc x (bit_and x (x - 1)) (count_trailing_zeros n (x / 2)) 0 (omega (arith, s)) (rw half (r e))
    go (suc d) e r =
        let a : (x - 1) / 2 ≡ x / 2 = omega arith in
        let b : (x - 1) % 2 ≡ 0 = omega arith in
        let o : x % 2 ≡ 1 = omega arith in
        let s = rw (a, b, o, and_self (x / 2)) at (and_step x (x - 1)) in
        turned_zero x (bit_and x (x - 1)) 0 (omega (arith, s)) (omega (arith, s))

-- ---- the bits of `|`

-- the greater of two digits
max_low : (x y : ℕ) → x < 2 → y < 2 → (max x y < 2) × (eqb (max x y) 1 ≡ (eqb x 1 || eqb y 1))
max_low zero zero p q = (omega arith, refl)
max_low zero (suc zero) p q = (omega arith, refl)
max_low zero (suc (suc y)) p q = absurd (omega arith)
max_low (suc zero) zero p q = (omega arith, refl)
max_low (suc zero) (suc zero) p q = (omega arith, refl)
max_low (suc zero) (suc (suc y)) p q = absurd (omega arith)
max_low (suc (suc x)) y p q = absurd (omega arith)

bit_low : (x j : ℕ) → bit x j < 2
unfolding bit
bit_low x j = omega arith

bit-max : (j a b : ℕ) → bit (bit_or a b) j ≡ max (bit a j) (bit b j)
bit-max zero a b =
    let m = max_low (a % 2) (b % 2) (omega arith) (omega arith) in
    bit-zero (bit_or a b) ∙ omega (arith, or_step a b, m.0) ∙ sym (ap₂ max (bit-zero a) (bit-zero b))
bit-max (suc j) a b =
    let m = max_low (a % 2) (b % 2) (omega arith) (omega arith) in
    let h : bit_or a b / 2 ≡ bit_or (a / 2) (b / 2) = omega (arith, or_step a b, m.0) in
    bit-suc (bit_or a b) j ∙ ap (λ (x : ℕ). bit x j) h ∙ bit-max j (a / 2) (b / 2) ∙ sym (ap₂ max (bit-suc a j) (bit-suc b j))

pub bit_or_lem : (a b j : ℕ) → eqb (bit (bit_or a b) j) 1 ≡ (eqb (bit a j) 1 || eqb (bit b j) 1)
bit_or_lem a b j = rw (bit-max j a b) (max_low (bit a j) (bit b j) (bit_low a j) (bit_low b j)).1

-- the greater of a digit and 1, and of a digit and 0
max-one : (x : ℕ) → x < 2 → (max x 1 ≡ 1) × (max x 0 ≡ x)
max-one zero p = (refl, refl)
max-one (suc zero) p = (refl, refl)
max-one (suc (suc x)) p = absurd (omega arith)

-- a word of one bit, and a word with that bit
pub one_bit : (i : ℕ) → Turned 0 (2 ^ i) i 1
one_bit i = rw zero-add at (set-bit 0 i (bit-none i))

pub or_bit : (x i : ℕ) → Turned x (bit_or x (2 ^ i)) i 1
or_bit x i = record {
  here = bit-max i x (2 ^ i) ∙ ap (max (bit x i)) (one_bit i).here ∙ (max-one (bit x i) (bit_low x i)).0;
  other = λ j n. bit-max j x (2 ^ i) ∙ ap (max (bit x j)) ((one_bit i).other j n ∙ bit-none j) ∙ (max-one (bit x j) (bit_low x j)).1;
}
