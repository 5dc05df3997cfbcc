-- What the literals of a trail, and the clauses of its list, rest on: the sets at the slots of their positions. Assumes nothing.
use mathlib.Core.Path.{◌≡◌, refl, sym, ap, ◌∙◌}
use mathlib.Core.List.{List, [], ◌∷◌}
use mathlib.Core.Bool.{false}
use Prim.Native.Nat.{ℕ, zero, suc, ◌+◌, ◌-◌, ◌*◌, ◌/◌, ◌%◌, ◌<◌, ◌≤◌}
use native.Mathlib.Omega.{arith}
use native.Mathlib.Decide.{ℕ_discrete}
use lib.Dec.{eqb}
use lib.ListN.{length, length-append}
use borrow.Author.Tests.{eq-eqb, ne_eqb, lt-ltb, le-ltb}
use Rattle.scope.proofs.Tests.{or_left, or_right}
use Rattle.calculus.specs.Expansion.{neg}
use Rattle.calculus.specs.Order.{mem, holds, undecided, value_of, clauses}
use Rattle.calculus.specs.Jump.{nothing, rest_of, origin_rest}
use Rattle.calculus.proofs.Literals.{undecided_mem}
use Rattle.trail.specs.Trail.{lit_at, entry_of, trail, held, Trail}
use Rattle.trail.proofs.Trails.{trail-length}
use Rattle.rests.specs.Words.{rest_at, held_of}
use Rattle.rests.proofs.Held.{held-literals}
use Rattle.grounds.specs.Ground.{slot_of}

-- a literal that is not held rests on nothing
rest-none : (m G : List ℕ) (l : ℕ) → mem l G ≡ false → rest_of (held_of m G) l ≡ nothing
unfolding held_of rest_of mem
rest-none m [] l e = refl
rest-none m (x ∷ G) l e = rw (or_left (eqb l x) (mem l G) e) (rest-none m G l (or_right (eqb l x) (mem l G) e))

module _ (r : ℕ → ℕ) (m : List ℕ) where
  -- a literal's set is at the slot of its position
  rest_position : (q p : ℕ) → ((j : ℕ) → j < q → entry_of r (lit_at r j / 2) ≡ 2 * j + lit_at r j % 2 + 1) → p < q
      → rest_of (held_of m (trail q r)) (lit_at r p) ≡ rest_at m (suc p)
  unfolding held_of rest_of trail
  rest_position zero p place h = absurd (omega arith)
  rest_position (suc q) p place h = go (ℕ_discrete p q) (λ (l : p < q). rest_position q p (λ j b. place j (omega arith)) l)
    where
      go : Dec (p ≡ q) → (p < q → rest_of (held_of m (trail q r)) (lit_at r p) ≡ rest_at m (suc p))
          → rest_of (held_of m (trail (suc q) r)) (lit_at r p) ≡ rest_at m (suc p)
      go (yes e) ih = rw (e, eq-eqb (lit_at r q) (lit_at r q) refl, trail-length q r)
      go (no e) ih =
          rw (ne_eqb (lit_at r p) (lit_at r q) (λ z. e (omega (arith, place p h, place q (omega arith), ap (λ (l : ℕ). entry_of r (l / 2)) z))))
          (ih (omega arith))

  module _ (expand : ℕ → List (List ℕ)) (goals : List ℕ) where
    -- how many clauses stand before those of position q
    abbrev pub before : ℕ → ℕ
    before q = length (clauses expand goals (trail q r))

    pub before-suc : (q : ℕ) → before (suc q) ≡ before q + length (expand (lit_at r q))
    unfolding trail clauses
    before-suc q = length-append (clauses expand goals (trail q r)) (expand (lit_at r q))

    before_more : (p q : ℕ) → p ≤ q → before p ≤ before q
    before_more p zero h =
        let e : p ≡ 0 = omega arith in
        rw e (omega arith)
    before_more p (suc q) h = go (ℕ_discrete p (suc q)) (λ (l : p ≤ q). before_more p q l)
      where
        go : Dec (p ≡ suc q) → (p ≤ q → before p ≤ before q) → before p ≤ before (suc q)
        go (yes e) ih = rw e (omega arith)
        go (no e) ih = omega (arith, before-suc q, ih (omega arith))

    -- the clauses of the literal at position p rest on its set
    pub origin-position : (q p k : ℕ) → p < q → before p ≤ k → k < before (suc p) → origin_rest expand goals (held_of m (trail q r)) k ≡ rest_at m (suc p)
    unfolding held_of origin_rest trail
    origin-position zero p k h a b = absurd (omega arith)
    origin-position (suc q) p k h a b = go (ℕ_discrete p q) (λ (l : p < q). origin-position q p k l a b)
      where
        go : Dec (p ≡ q) → (p < q → origin_rest expand goals (held_of m (trail q r)) k ≡ rest_at m (suc p))
            → origin_rest expand goals (held_of m (trail (suc q) r)) k ≡ rest_at m (suc p)
        go (yes e) ih = rw (held-literals m (trail q r), le-ltb k (before q) (rw e at a), e, trail-length q r)
        go (no e) ih = rw (held-literals m (trail q r), lt-ltb k (before q) (omega (arith, b, before_more (suc p) q (omega arith)))) (ih (omega arith))

-- ---- a literal that is not true: what its negation rests on, by its node's entry

module _ (n : ℕ) (r : ℕ → ℕ) (m : List ℕ) (h : Trail n r) (s : rest_at m 0 ≡ nothing) (l : ℕ) (b : l < 2 * n) (u : value_of (held r) l ≡ holds → ⊥) where
  pub false_slot : rest_of (held_of m (held r)) (neg l) ≡ rest_at m (slot_of r l)
  false_slot = go (ℕ_discrete (entry_of r (l / 2)) 0)
    where
      -- the position that the entry tells, and the literal there
      q : ℕ
      q = (entry_of r (l / 2) - 1) / 2

      not-sign : (entry_of r (l / 2) ≡ 0 → ⊥) → (entry_of r (l / 2) - 1) % 2 ≡ l % 2 → ⊥
      not-sign z e = u (sym (h.vals l b) ∙ rw (ne_eqb (entry_of r (l / 2)) 0 z, eq-eqb ((entry_of r (l / 2) - 1) % 2) (l % 2) e))

      there : (entry_of r (l / 2) ≡ 0 → ⊥) → q < r 0
      there z = omega (arith, h.low (l / 2) (omega arith))

      other : (z : entry_of r (l / 2) ≡ 0 → ⊥) → neg l ≡ lit_at r q
      other z =
          let f = h.from (l / 2) (omega arith) z in
          let p : entry_of r (l / 2) ≡ 2 * q + lit_at r q % 2 + 1 = rw f at (h.place q (there z)) in
          omega (arith, p, f, not-sign z)

      go : Dec (entry_of r (l / 2) ≡ 0) → rest_of (held_of m (held r)) (neg l) ≡ rest_at m (slot_of r l)
      go (yes z) =
          let v : value_of (held r) l ≡ undecided = sym (h.vals l b) ∙ rw (eq-eqb (entry_of r (l / 2)) 0 z) in
          let e : slot_of r l ≡ 0 = omega arith in
          rest-none m (held r) (neg l) (undecided_mem (held r) l v).1 ∙ rw e (sym s)
      go (no z) =
          let e : slot_of r l ≡ suc q = omega arith in
          rw (other z, e) (rest_position r m (r 0) q h.place (there z))
