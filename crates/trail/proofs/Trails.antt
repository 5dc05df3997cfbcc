-- Laws of the trail: its literals, and a value by an entry. Assumes nothing.
use mathlib.Core.Path.{◌≡◌, refl, sym, ap, ◌∙◌, subst}
use mathlib.Core.List.{List, [], ◌∷◌}
use Prim.Native.Nat.{ℕ, zero, suc, ◌+◌, ◌-◌, ◌*◌, ◌/◌, ◌%◌, ◌<◌, ◌≤◌}
use native.Mathlib.Omega.{arith}
use native.Mathlib.Decide.{ℕ_discrete}
use lib.ListN.{length, get_or}
use borrow.Author.Tests.{eq-eqb, ne_eqb}
use Rattle.calculus.specs.Order.{mem, Value, holds, fails, undecided, value_of}
use Rattle.calculus.specs.Model.{Fresh, Good}
use Rattle.calculus.proofs.Count.{at_most, room}
use Rattle.trail.specs.Trail.{lit_at, entry_of, trail, held, side, value_code, Trail}

-- the trail that stands in a work area from place b on
abbrev pub trail_from : ℕ → List ℕ → ℕ → ℕ
trail_from b w i = get_or w (b + i) 0

-- the trail has as many literals as positions
pub trail-length : (q : ℕ) (r : ℕ → ℕ) → length (trail q r) ≡ q
unfolding trail
trail-length zero r = refl
trail-length (suc q) r = ap suc (trail-length q r)

pub trail-suc : (c : ℕ) (r : ℕ → ℕ) → trail (suc c) r ≡ lit_at r c ∷ trail c r
unfolding trail
trail-suc c r = refl

-- trails that agree at each position
pub trail_same : (c : ℕ) (r s : ℕ → ℕ) → ((q : ℕ) → q < c → lit_at r q ≡ lit_at s q) → trail c r ≡ trail c s
unfolding trail
trail_same zero r s h = refl
trail_same (suc c) r s h =
    ap (λ (x : ℕ). x ∷ trail c r) (h c (omega arith)) ∙ ap (λ (l : List ℕ). lit_at s c ∷ l) (trail_same c r s (λ q i. h q (omega arith)))

-- a literal that is held is one of n nodes
pub literal_below : (n c : ℕ) (r : ℕ → ℕ) (q : ℕ) → Good n (trail c r) → q < c → lit_at r q < 2 * n
unfolding trail
literal_below n zero r q g h = absurd (omega arith)
literal_below n (suc c) r q g h = go (ℕ_discrete q c) (literal_below n c r q g.1)
  where
    go : Dec (q ≡ c) → (q < c → lit_at r q < 2 * n) → lit_at r q < 2 * n
    go (yes e) k = subst (λ (z : ℕ). lit_at r z < 2 * n) (sym e) g.0.0
    go (no e) k = k (omega (arith, e, h))

-- the first literals of a good trail are good
pub good_first : (n c : ℕ) (r : ℕ → ℕ) (q : ℕ) → Good n (trail c r) → q ≤ c → Good n (trail q r)
unfolding trail
good_first n zero r q g h =
    let z : 0 ≡ q = omega arith in
    subst (λ (k : ℕ). Good n (trail k r)) z g
good_first n (suc c) r q g h = go (ℕ_discrete q (suc c)) (good_first n c r q g.1)
  where
    go : Dec (q ≡ suc c) → (q ≤ c → Good n (trail q r)) → Good n (trail q r)
    go (yes e) k = subst (λ (k : ℕ). Good n (trail k r)) (sym e) g
    go (no e) k = k (omega (arith, e, h))

module _ (n : ℕ) (r : ℕ → ℕ) (h : Trail n r) where
  -- no more literals are held than there are nodes
  pub count_most : r 0 ≤ n
  count_most = omega (arith, trail-length (r 0) r, at_most n (held r) h.good)

  -- where a literal may join, there is room
  pub room_left : (l : ℕ) → Fresh n (held r) l → r 0 < n
  room_left l f = omega (arith, trail-length (r 0) r, room n (held r) l h.good f)

-- a trail of no literals
module _ (n : ℕ) (r : ℕ → ℕ) (none : r 0 ≡ 0) where
  pub empty-held : held r ≡ []
  unfolding trail
  empty-held = ap (λ (k : ℕ). trail k r) none

  pub empty-trail : ((m : ℕ) → m < n → entry_of r m ≡ 0) → Trail n r
  unfolding value_of mem
  empty-trail z = record {
    good = subst (Good n) (sym empty-held) tt;
    vals = λ l i. ap (λ (e : ℕ). side e (l % 2)) (z (l / 2) (omega (arith, i))) ∙ ap (λ (G : List ℕ). value_of G l) (sym empty-held);
    place = λ q i. absurd (omega (arith, i, none));
    low = λ m i. omega (arith, z m i);
    from = λ m i y. absurd (y (z m i));
  }

-- ---- a value by an entry, as a number

-- no entry: undecided
pub side-none : (e s : ℕ) (v : Value) → e ≡ 0 → side e s ≡ v → 0 ≡ value_code v
side-none e s v z h =
    let q : side e s ≡ undecided = simp (eq-eqb e 0 z) in
    ap value_code (sym q ∙ h)

-- the entry has the sign: true
pub side-true : (e s : ℕ) (v : Value) → (e ≡ 0 → ⊥) → (e - 1) % 2 ≡ s → side e s ≡ v → 1 ≡ value_code v
side-true e s v z k h =
    let q : side e s ≡ holds = simp (ne_eqb e 0 z, eq-eqb ((e - 1) % 2) s k) in
    ap value_code (sym q ∙ h)

-- it has the other: false
pub side-false : (e s : ℕ) (v : Value) → (e ≡ 0 → ⊥) → ((e - 1) % 2 ≡ s → ⊥) → side e s ≡ v → 2 ≡ value_code v
side-false e s v z k h =
    let q : side e s ≡ fails = simp (ne_eqb e 0 z, ne_eqb ((e - 1) % 2) s k) in
    ap value_code (sym q ∙ h)
