-- How many positions are in the set. Assumes nothing.
use mathlib.Core.Path.{◌≡◌, refl, sym}
use mathlib.Core.List.{List}
use Prim.Native.Nat.{ℕ, zero, suc, ◌+◌, ◌<◌, ◌≤◌}
use native.Mathlib.Omega.{arith}
use native.Mathlib.Decide.{ℕ_discrete}
use Rattle.units.specs.Units.{positions, member, Putted, First}

-- how many of the first k positions are in the set
unfoldable pub size_below : List ℕ → ℕ → ℕ
size_below m zero = 0
size_below m (suc k) = member m k + size_below m k

size_same : (m m' : List ℕ) (q k : ℕ) → k ≤ q → k ≤ positions → ((j : ℕ) → j < positions → (j ≡ q → ⊥) → member m' j ≡ member m j)
    → size_below m' k ≡ size_below m k
unfolding size_below
size_same m m' q zero b i f = refl
size_same m m' q (suc k) b i f = rw (f k (omega (arith, i)) (λ e. omega (arith, e, b)), size_same m m' q k (omega (arith, b)) (omega (arith, i)) f)

size_less : (m m' : List ℕ) (q : ℕ) → member m q ≡ 1 → Putted m q 0 m' → (k : ℕ) → q < k → k ≤ positions → size_below m' k < size_below m k
unfolding size_below
size_less m m' q y p zero b i = absurd (omega (arith, b))
size_less m m' q y p (suc k) b i = go (ℕ_discrete q k) (size_less m m' q y p k)
  where
    go : Dec (q ≡ k) → (q < k → k ≤ positions → size_below m' k < size_below m k) → member m' k + size_below m' k < member m k + size_below m k
    go (yes e) f =
        let a : member m' k ≡ 0 = rw e at p.here in
        let c : member m k ≡ 1 = rw e at y in
        omega (arith, a, c, size_same m m' q k (omega (arith, e)) (omega (arith, i)) p.other)
    go (no e) f = omega (arith, f (omega (arith, b, e)) (omega (arith, i)), p.other k (omega (arith, i)) (λ z. e (sym z)))

-- where the first leaves, there are fewer
pub first-less : {m m' : List ℕ} {q : ℕ} → First m q → Putted m q 0 m' → size_below m' positions < size_below m positions
first-less {m} {m'} {q} f p = size_less m m' q f.here p positions f.low (omega arith)
