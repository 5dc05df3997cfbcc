-- Laws of the trail: the newest literal leaves. Assumes nothing.
use mathlib.Core.Path.{◌≡◌, sym, ap, ◌∙◌, subst}
use mathlib.Core.Logic.{◌⊎◌, inl, inr}
use mathlib.Core.List.{List, ◌∷◌}
use Prim.Native.Nat.{ℕ, suc, ◌+◌, ◌-◌, ◌*◌, ◌/◌, ◌%◌, ◌<◌, ◌≤◌}
use native.Mathlib.Omega.{arith}
use native.Mathlib.Decide.{ℕ_discrete}
use lib.ListN.{length, get_or, set, length-set}
use lib.Seq.{get_or-set_same, get_or-set_other}
use Rattle.calculus.specs.Expansion.{neg}
use Rattle.calculus.specs.Order.{undecided, value_of}
use Rattle.calculus.specs.Model.{Good}
use Rattle.calculus.proofs.Literals.{value_other, undecided_neg}
use Rattle.trail.specs.Trail.{lit_at, entry_of, trail, held, side, Vals, Trail}
use Rattle.trail.proofs.Trails.{trail_from, trail-suc, trail_same, literal_below, count_most}

-- a literal of an undecided literal's node is undecided
node_undecided : (G : List ℕ) (l m : ℕ) → m / 2 ≡ l / 2 → value_of G l ≡ undecided → value_of G m ≡ undecided
node_undecided G l m h e = go (ℕ_discrete m l)
  where
    go : Dec (m ≡ l) → value_of G m ≡ undecided
    go (yes q) = ap (value_of G) q ∙ e
    go (no q) =
        let z : m ≡ neg l = omega (arith, h, q) in
        ap (value_of G) z ∙ undecided_neg G l e

-- ---- r before, s after

module _ (n : ℕ) (r s : ℕ → ℕ) (h : Trail n r) (few : n ≤ 2016) (p : 0 < r 0)
    (count : s 0 ≡ r 0 - 1) (at : entry_of s (lit_at r (r 0 - 1) / 2) ≡ 0)
    (away : (i : ℕ) → (i ≡ 0 → ⊥) → (i ≡ 2017 + lit_at r (r 0 - 1) / 2 → ⊥) → s i ≡ r i) where
  c : ℕ
  c = r 0 - 1

  top : ℕ
  top = lit_at r (r 0 - 1)

  split : held r ≡ top ∷ trail c r
  unfolding c top
  split =
      let e : r 0 ≡ suc (r 0 - 1) = omega (arith, p) in
      ap (λ (k : ℕ). trail k r) e ∙ trail-suc (r 0 - 1) r

  good : Good n (top ∷ trail c r)
  good = subst (Good n) split h.good

  last : c < r 0
  unfolding c
  last = omega (arith, p)

  at' : entry_of s (top / 2) ≡ 0
  unfolding top
  at' = at

  count' : s 0 ≡ c
  unfolding c
  count' = count

  away' : (i : ℕ) → (i ≡ 0 → ⊥) → (i ≡ 2017 + top / 2 → ⊥) → s i ≡ r i
  unfolding top
  away' = away

  place_top : entry_of r (top / 2) ≡ 2 * c + top % 2 + 1
  unfolding top c
  place_top = h.place (r 0 - 1) last

  lits : (q : ℕ) → q < r 0 → lit_at s q ≡ lit_at r q
  lits q i = away' (1 + q) (λ e. omega (arith, e)) (λ e. omega (arith, e, i, count_most n r h, few))

  lower : (q : ℕ) → q ≤ r 0 → trail q s ≡ trail q r
  lower q i = trail_same q s r (λ k j. lits k (omega (arith, i, j)))

  rest : held s ≡ trail c r
  rest = ap (λ (k : ℕ). trail k s) count' ∙ lower c (omega (arith, last))

  entry : (m : ℕ) → (m ≡ top / 2 → ⊥) → entry_of s m ≡ entry_of r m
  entry m d = away' (2017 + m) (λ e. omega (arith, e)) (λ e. d (omega (arith, e)))

  -- another node's place is below the last
  lower_place : (m : ℕ) → m < n → (m ≡ top / 2 → ⊥) → (entry_of r m ≡ 0 → ⊥) → (entry_of r m - 1) / 2 < c
  unfolding c top
  lower_place m i d z =
      let f = h.from m i z in
      let g : (entry_of r m - 1) / 2 ≡ r 0 - 1 → ⊥ = λ e. d (sym f ∙ ap (λ (k : ℕ). lit_at r k / 2) e) in
      omega (arith, h.low m i, z, g)

  vals : Vals n s
  vals m i = go (ℕ_discrete (m / 2) (top / 2))
    where
      now : value_of (held s) m ≡ value_of (trail c r) m
      now = ap (λ (G : List ℕ). value_of G m) rest

      go : Dec (m / 2 ≡ top / 2) → side (entry_of s (m / 2)) (m % 2) ≡ value_of (held s) m
      go (yes d) =
          let z : entry_of s (m / 2) ≡ 0 = ap (λ (k : ℕ). entry_of s k) d ∙ at' in
          ap (λ (e : ℕ). side e (m % 2)) z ∙ sym (now ∙ node_undecided (trail c r) top m d good.0.1)
      go (no d) =
          ap (λ (e : ℕ). side e (m % 2)) (entry (m / 2) d) ∙ h.vals m i
          ∙ ap (λ (G : List ℕ). value_of G m) split ∙ value_other (trail c r) top m d ∙ sym now

  place : (q : ℕ) → q < s 0 → entry_of s (lit_at s q / 2) ≡ 2 * q + lit_at s q % 2 + 1
  place q i =
      let j : q < c = omega (arith, i, count') in
      let k : q < r 0 = omega (arith, j, last) in
      let x = lits q k in
      let d : lit_at r q / 2 ≡ top / 2 → ⊥ = λ y. omega (arith, h.place q k, ap (λ (m : ℕ). entry_of r m) y, place_top, j) in
      ap (λ (m : ℕ). entry_of s (m / 2)) x ∙ entry (lit_at r q / 2) d ∙ h.place q k ∙ ap (λ (m : ℕ). 2 * q + m % 2 + 1) (sym x)

  low : (m : ℕ) → m < n → entry_of s m ≤ 2 * s 0
  low m i = go (ℕ_discrete m (top / 2)) (ℕ_discrete (entry_of r m) 0)
    where
      go : Dec (m ≡ top / 2) → Dec (entry_of r m ≡ 0) → entry_of s m ≤ 2 * s 0
      go (yes d) z = omega (arith, ap (λ (k : ℕ). entry_of s k) d, at')
      go (no d) (yes z) = omega (arith, entry m d, z)
      go (no d) (no z) = omega (arith, entry m d, lower_place m i d z, count')

  from : (m : ℕ) → m < n → (entry_of s m ≡ 0 → ⊥) → lit_at s ((entry_of s m - 1) / 2) / 2 ≡ m
  from m i z = go (ℕ_discrete m (top / 2))
    where
      go : Dec (m ≡ top / 2) → lit_at s ((entry_of s m - 1) / 2) / 2 ≡ m
      go (yes d) = absurd (z (ap (λ (k : ℕ). entry_of s k) d ∙ at'))
      go (no d) =
          let e = entry m d in
          let y : entry_of r m ≡ 0 → ⊥ = λ x. z (e ∙ x) in
          ap (λ (k : ℕ). lit_at s ((k - 1) / 2) / 2) e
          ∙ ap (λ (k : ℕ). k / 2) (lits ((entry_of r m - 1) / 2) (omega (arith, h.low m i, y)))
          ∙ h.from m i y

  -- the trail is right
  left : Trail n s
  left = record {
    good = subst (Good n) (sym rest) good.1;
    vals = vals;
    place = place;
    low = low;
    from = from;
  }

  -- and without its newest literal
  list_left : held r ≡ lit_at r (r 0 - 1) ∷ held s
  unfolding top
  list_left = split ∙ ap (λ (G : List ℕ). top ∷ G) (sym rest)

  lits_left : (q : ℕ) → q < s 0 → lit_at s q ≡ lit_at r q
  lits_left q i = lits q (omega (arith, i, count', last))

-- ---- the stores

-- the newest literal of a work area's trail
abbrev pub newest_from : ℕ → List ℕ → ℕ
newest_from b w = get_or w (b + (1 + (get_or w (b + 0) 0 - 1))) 0

-- what the newest literal, l, stores when it leaves
abbrev pub dropped : ℕ → List ℕ → ℕ → List ℕ
dropped b w l = set (set w (b + (2017 + l / 2)) 0) (b + 0) (get_or w (b + 0) 0 - 1)

-- the newest literal has left the trail from b on
pub record Leaves (n b : ℕ) (w w' : List ℕ) : Type 0 where
  pub size : length w' ≡ length w
  pub trail : Trail n (trail_from b w')
  pub list : held (trail_from b w) ≡ newest_from b w ∷ held (trail_from b w')
  pub count : trail_from b w 0 ≡ suc (trail_from b w' 0)
  pub lits : (q : ℕ) → q < trail_from b w' 0 → lit_at (trail_from b w') q ≡ lit_at (trail_from b w) q
  pub else : (i : ℕ) → (i < b) ⊎ (b + 4033 ≤ i) → get_or w' i 0 ≡ get_or w i 0

module _ (n b : ℕ) (w : List ℕ) (size : b + 4033 ≤ length w) (few : n ≤ 2016) (h : Trail n (trail_from b w)) (p : 0 < trail_from b w 0) where
  -- it is one of n nodes
  pub top_below : newest_from b w < 2 * n
  top_below = literal_below n (trail_from b w 0) (trail_from b w) (get_or w (b + 0) 0 - 1) h.good (omega (arith, p))

  k₁ : ℕ
  k₁ = b + (2017 + newest_from b w / 2)

  w₁ : List ℕ
  w₁ = set w k₁ 0

  w₂ : List ℕ
  w₂ = set w₁ (b + 0) (get_or w (b + 0) 0 - 1)

  z₁ : length w₁ ≡ length w
  unfolding w₁
  z₁ = length-set w k₁ 0

  z₂ : length w₂ ≡ length w
  unfolding w₂
  z₂ = length-set w₁ (b + 0) (get_or w (b + 0) 0 - 1) ∙ z₁

  t₁ : (i : ℕ) → (i ≡ k₁ → ⊥) → get_or w₁ i 0 ≡ get_or w i 0
  unfolding w₁
  t₁ i e = get_or-set_other w k₁ i 0 0 e

  t₂ : (i : ℕ) → (i ≡ b + 0 → ⊥) → get_or w₂ i 0 ≡ get_or w₁ i 0
  unfolding w₂
  t₂ i e = get_or-set_other w₁ (b + 0) i (get_or w (b + 0) 0 - 1) 0 e

  d_count : trail_from b w₂ 0 ≡ trail_from b w 0 - 1
  unfolding w₂
  d_count = get_or-set_same w₁ (b + 0) (get_or w (b + 0) 0 - 1) 0 (omega (arith, z₁, size))

  d_at : entry_of (trail_from b w₂) (newest_from b w / 2) ≡ 0
  unfolding w₁ k₁
  d_at =
      t₂ (b + (2017 + newest_from b w / 2)) (λ e. omega (arith, e))
      ∙ get_or-set_same w (b + (2017 + newest_from b w / 2)) 0 0 (omega (arith, size, top_below, few))

  d_away : (i : ℕ) → (i ≡ 0 → ⊥) → (i ≡ 2017 + newest_from b w / 2 → ⊥) → trail_from b w₂ i ≡ trail_from b w i
  unfolding k₁
  d_away i a c = t₂ (b + i) (λ y. a (omega (arith, y))) ∙ t₁ (b + i) (λ y. c (omega (arith, y)))

  d_else : (i : ℕ) → (i < b) ⊎ (b + 4033 ≤ i) → get_or w₂ i 0 ≡ get_or w i 0
  unfolding k₁
  d_else i (inl k) = t₂ i (λ e. omega (arith, e, k)) ∙ t₁ i (λ e. omega (arith, e, k))
  d_else i (inr k) = t₂ i (λ e. omega (arith, e, k)) ∙ t₁ i (λ e. omega (arith, e, k, top_below, few))

  leaves₂ : Leaves n b w w₂
  leaves₂ = record {
    size = z₂;
    trail = left n (trail_from b w) (trail_from b w₂) h few p d_count d_at d_away;
    list = list_left n (trail_from b w) (trail_from b w₂) h few p d_count d_at d_away;
    count = omega (arith, p, d_count);
    lits = lits_left n (trail_from b w) (trail_from b w₂) h few p d_count d_at d_away;
    else = d_else;
  }

  pub leaves : Leaves n b w (dropped b w (newest_from b w))
  unfolding w₂ w₁ k₁
  leaves = leaves₂
