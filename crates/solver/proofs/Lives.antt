-- Positions that force decided literals leave the set of units. Assumes nothing.
use mathlib.Core.Path.{◌≡◌, refl, sym, ap, ◌∙◌}
use mathlib.Core.List.{List}
use Prim.Native.Nat.{ℕ, ◌/◌, ◌%◌, ◌<◌}
use native.Mathlib.Omega.{arith}
use native.Mathlib.Decide.{ℕ_discrete}
use Rattle.calculus.specs.Order.{undecided, value_of}
use Rattle.units.specs.Units.{positions, member, Empty, Putted, First}
use Rattle.index.specs.Index.{most_nodes}
use Rattle.state.specs.Work.{tail, code_at, g_of, value_code}
use Rattle.state.specs.Picked.{no_unit}
use Rattle.solver.specs.Changes.{Dropped, Fronts, Forcing}

-- ---- the first unit

pub front-none : {w m : List ℕ} → Empty m → Fronts w m no_unit
front-none e = record { some = λ y. absurd (y refl); none = λ y. e }

-- ---- the loop

-- a position of the set is one of a literal
pub forced_at : (n : ℕ) {w m₀ m : List ℕ} → Forcing n w m₀ → Dropped w m₀ m → (q : ℕ) → q < positions → member m q ≡ 1 → q < most_nodes
forced_at n F d q i y = (F q i (d.from q i y)).0

module _ {w m₀ m : List ℕ} {u : ℕ} (d : Dropped w m₀ m) (F : Fronts w m u) (some : u ≡ no_unit → ⊥) where
  abbrev q : ℕ
  q = u / 65536

  pub front-is : First m q
  front-is = (F.some some).0

  literal : code_at (tail w) q % 4096 ≡ u % 4096
  literal = omega (arith, (F.some some).1)

  was_in : member m₀ q ≡ 1
  was_in = d.from q front-is.low front-is.here

  pub dropped_goes : {m' : List ℕ} {v : ℕ} → v ≡ value_code (value_of (g_of w) (u % 4096)) → (v ≡ 0 → ⊥) → Putted m q 0 m' → Dropped w m₀ m'
  dropped_goes {m'} e z p = record {
    units = p.units;
    less = λ j i y. less j i (d.less j i y) (ℕ_discrete j q);
    from = λ j i y. from j i y (ℕ_discrete j q);
    kept = λ j i y o. kept j i (d.kept j i y o) o (ℕ_discrete j q);
  }
    where
      less : (j : ℕ) → j < positions → member m j ≡ 0 → Dec (j ≡ q) → member m' j ≡ 0
      less j i y (yes o) = rw o p.here
      less j i y (no o) = p.other j i o ∙ y

      from : (j : ℕ) → j < positions → member m' j ≡ 1 → Dec (j ≡ q) → member m₀ j ≡ 1
      from j i y (yes o) = rw o was_in
      from j i y (no o) = d.from j i (sym (p.other j i o) ∙ y)

      kept : (j : ℕ) → j < positions → member m j ≡ 1 → value_of (g_of w) (code_at (tail w) j % 4096) ≡ undecided → Dec (j ≡ q) → member m' j ≡ 1
      kept j i y o (yes a) =
          let s : code_at (tail w) j % 4096 ≡ u % 4096 = rw a literal in
          absurd (z (e ∙ ap (λ (l : ℕ). value_code (value_of (g_of w) l)) (sym s) ∙ ap value_code o))
      kept j i y o (no a) = p.other j i a ∙ y
