-- Laws of the count of the numbers that pass a test. Assumes nothing.
use mathlib.Core.Path.{◌≡◌, refl, ap}
use mathlib.Core.Bool.{Bool, true, false}
use Prim.Native.Nat.{ℕ, zero, suc, ◌+◌, ◌<◌}
use native.Mathlib.Omega.{arith}
use native.Mathlib.Decide.{ℕ_discrete}
use Rattle.calculus.specs.Count.{one, tally}

-- tests that agree give one count
pub tally_same : (p q : ℕ → Bool) (m : ℕ) → ((j : ℕ) → j < m → p j ≡ q j) → tally p m ≡ tally q m
unfolding tally
tally_same p q zero h = refl
tally_same p q (suc m) h =
    let a : one (p m) ≡ one (q m) = ap one (h m (omega arith)) in
    let b = tally_same p q m (λ j k. h j (omega arith)) in
    omega (arith, a, b)

-- tests that agree but at k give counts that differ by what each says there
pub tally_change : (p q : ℕ → Bool) (k m : ℕ) → k < m → ((j : ℕ) → j < m → (j ≡ k → ⊥) → p j ≡ q j) → tally p m + one (q k) ≡ tally q m + one (p k)
unfolding tally
tally_change p q k zero i h = absurd (omega arith)
tally_change p q k (suc m) i h = go (ℕ_discrete m k) (tally_change p q k m)
  where
    go : Dec (m ≡ k) → (k < m → ((j : ℕ) → j < m → (j ≡ k → ⊥) → p j ≡ q j) → tally p m + one (q k) ≡ tally q m + one (p k))
        → one (p m) + tally p m + one (q k) ≡ one (q m) + tally q m + one (p k)
    go (yes e) r =
        let s : tally p m ≡ tally q m = tally_same p q m (λ j l. h j (omega arith) (λ z. omega (arith, z, e))) in
        let a : one (p m) ≡ one (p k) = ap (λ (x : ℕ). one (p x)) e in
        let b : one (q m) ≡ one (q k) = ap (λ (x : ℕ). one (q x)) e in
        omega (arith, s, a, b)
    go (no e) r =
        let a : one (p m) ≡ one (q m) = ap one (h m (omega arith) e) in
        let b = r (omega (arith, e)) (λ j l n. h j (omega arith) n) in
        omega (arith, a, b)

-- .. by one, where a number passes no more
pub tally-less : (p q : ℕ → Bool) (k m : ℕ) → k < m → ((j : ℕ) → (j ≡ k → ⊥) → p j ≡ q j) → p k ≡ true → q k ≡ false → suc (tally q m) ≡ tally p m
tally-less p q k m i h a b =
    let x : one (p k) ≡ 1 = ap one a in
    let y : one (q k) ≡ 0 = ap one b in
    omega (arith, tally_change p q k m i (λ j l n. h j n), x, y)

-- all pass
pub tally_all : (p : ℕ → Bool) (m : ℕ) → ((j : ℕ) → j < m → p j ≡ true) → tally p m ≡ m
unfolding tally
tally_all p zero h = refl
tally_all p (suc m) h =
    let a : one (p m) ≡ 1 = ap one (h m (omega arith)) in
    let b = tally_all p m (λ j k. h j (omega arith)) in
    omega (arith, a, b)
