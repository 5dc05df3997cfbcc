-- The first unit of the set, as units are found. Assumes nothing.
use mathlib.Core.Path.{◌≡◌, ◌∙◌}
use mathlib.Core.List.{List}
use Prim.Native.Nat.{ℕ, ◌+◌, ◌*◌, ◌/◌, ◌%◌, ◌<◌, ◌≤◌}
use native.Mathlib.Omega.{arith}
use native.Mathlib.Decide.{dec_lt, ℕ_discrete}
use Rattle.units.specs.Units.{member, First}
use Rattle.index.specs.Index.{most_nodes}
use Rattle.state.specs.Work.{tail, Ready, trail_at, codes_at}
use Rattle.state.specs.Picked.{no_unit}
use Rattle.solver.specs.Changes.{Lowered, Flagged, Ahead, Earlier, Onward}
use Rattle.solver.proofs.Marks.{held_low, flagged_other, flagged_stored}

pub onward_same : {w m : List ℕ} {b : ℕ} → Onward w m b w m b
onward_same A = A

pub onward_lowered : {w m w' : List ℕ} {q b : ℕ} → Lowered w q w' → Onward w m b w' m b
onward_lowered {b = b} k A = record {
  some = λ y. ((A.some y).0, k.other (trail_at + (codes_at + b / 65536)) (λ e. omega (arith, e)) ∙ (A.some y).1);
  none = λ y j i. A.none y j (omega (arith, i, k.other (trail_at + 0) (λ e. omega (arith, e))));
}

-- position q has a unit, of which k is kept
module _ {n : ℕ} {w m w' m' : List ℕ} {q k : ℕ} (few : n ≤ most_nodes) (h : Ready n w) (i : q < tail w 0) (g : Flagged w m q k w' m') where
  same : (j : ℕ) → j < most_nodes → (j ≡ q → ⊥) → member m' j ≡ member m j
  same j a d = g.putted.other j (omega (arith, a)) d

  -- it is the first, where none was before it
  first_here : ((j : ℕ) → j < q → member m j ≡ 0) → First m' q
  first_here f = record {
    low = omega (arith, held_low few h i);
    here = g.putted.here;
    before = λ j a. same j (omega (arith, a, held_low few h i)) (λ e. omega (arith, e, a)) ∙ f j a;
  }

  -- or an earlier one is
  first_there : {p : ℕ} → p < q → First m p → First m' p
  first_there p f = record {
    low = f.low;
    here = same _ (omega (arith, p, held_low few h i)) (λ e. omega (arith, e, p)) ∙ f.here;
    before = λ j a. same j (omega (arith, a, p, held_low few h i)) (λ e. omega (arith, e, a, p)) ∙ f.before j a;
  }

  pub onward_flagged : {b r : ℕ} → k < 65536 → Earlier b q k r → Onward w m b w' m' r
  onward_flagged {b} {r} s e A = go (dec_lt (b / 65536) q)
    where
      before : q ≤ b / 65536 → (j : ℕ) → j < q → Dec (b ≡ no_unit) → member m j ≡ 0
      before z j a (yes o) = A.none o j (omega (arith, a, i))
      before z j a (no o) = (A.some o).0.before j (omega (arith, a, z))

      go : Dec (b / 65536 < q) → Ahead w' m' r
      go (no d) =
          let z : r ≡ 65536 * q + k = e.0 (omega (arith, d)) in
          let at : r / 65536 ≡ q = omega (arith, z, s) in
          let rest : r % 65536 ≡ k = omega (arith, z, s) in
          record {
            some = λ y. (rw at (first_here (λ j a. before (omega (arith, d)) j a (ℕ_discrete b no_unit))), rw (at, rest) (flagged_stored few h i g));
            none = λ y. absurd (omega (arith, y, z, s, held_low few h i));
          }
      go (yes d) =
          let z : r ≡ b = e.1 d in
          let o : b ≡ no_unit → ⊥ = λ y. omega (arith, y, d, held_low few h i) in
          rw z (record {
            some = λ y. (first_there d (A.some o).0, flagged_other few h i g (trail_at + (codes_at + b / 65536)) (λ a. omega (arith, a, d)) ∙ (A.some o).1);
            none = λ y. absurd (o y);
          })
