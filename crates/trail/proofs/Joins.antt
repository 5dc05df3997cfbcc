-- Laws of the trail: a literal joins. Assumes nothing.
use mathlib.Core.Path.{◌≡◌, sym, ap, ◌∙◌, subst}
use mathlib.Core.Logic.{◌⊎◌, inl, inr}
use mathlib.Core.List.{List, ◌∷◌}
use Prim.Native.Nat.{ℕ, suc, ◌+◌, ◌-◌, ◌*◌, ◌/◌, ◌%◌, ◌<◌, ◌≤◌}
use native.Mathlib.Omega.{arith}
use native.Mathlib.Numerals.{add-one}
use native.Mathlib.Decide.{ℕ_discrete}
use lib.ListN.{length, get_or, set, length-set}
use lib.Seq.{get_or-set_same, get_or-set_other}
use borrow.Author.Tests.{eq-eqb, ne_eqb}
use Rattle.calculus.specs.Expansion.{neg}
use Rattle.calculus.specs.Order.{holds, fails, undecided, value_of}
use Rattle.calculus.specs.Model.{Fresh, Good}
use Rattle.calculus.proofs.Literals.{value_joined, value_negated, value_other}
use Rattle.trail.specs.Trail.{lit_at, entry_of, trail, held, side, Vals, Trail}
use Rattle.trail.proofs.Trails.{trail_from, trail-suc, trail_same, literal_below, room_left}

-- ---- a value by an entry

-- an undecided literal's node has no entry
side_open : (e s : ℕ) → side e s ≡ undecided → e ≡ 0
side_open e s h = go (ℕ_discrete e 0) (ℕ_discrete ((e - 1) % 2) s)
  where
    go : Dec (e ≡ 0) → Dec ((e - 1) % 2 ≡ s) → e ≡ 0
    go (yes z) q = z
    go (no z) (yes q) =
        let x : side e s ≡ holds = simp (ne_eqb e 0 z, eq-eqb _ _ q) in
        absurd (let y : ◌≡◌ {A = ℕ} 0 1 = cc in omega arith)
    go (no z) (no q) =
        let x : side e s ≡ fails = simp (ne_eqb e 0 z, ne_eqb _ _ q) in
        absurd (let y : ◌≡◌ {A = ℕ} 0 1 = cc in omega arith)

side-holds : (q s : ℕ) → s < 2 → side (2 * q + s + 1) s ≡ holds
side-holds q s h =
    let z : 2 * q + s + 1 ≡ 0 → ⊥ = λ e. omega (arith, e) in
    let y : (2 * q + s + 1 - 1) % 2 ≡ s = omega arith in
    simp (ne_eqb (2 * q + s + 1) 0 z, eq-eqb _ _ y)

side_fails : (q s u : ℕ) → s < 2 → (s ≡ u → ⊥) → side (2 * q + s + 1) u ≡ fails
side_fails q s u h n =
    let z : 2 * q + s + 1 ≡ 0 → ⊥ = λ e. omega (arith, e) in
    let y : (2 * q + s + 1 - 1) % 2 ≡ u → ⊥ = λ e. n (omega (arith, e)) in
    simp (ne_eqb (2 * q + s + 1) 0 z, ne_eqb ((2 * q + s + 1 - 1) % 2) u y)

-- ---- r before, s after; what stands past the entries is free

module _ (n : ℕ) (r s : ℕ → ℕ) (l : ℕ) (h : Trail n r) (few : n ≤ 2016) (f : Fresh n (held r) l)
    (count : s 0 ≡ r 0 + 1) (top : lit_at s (r 0) ≡ l) (at : entry_of s (l / 2) ≡ 2 * r 0 + l % 2 + 1)
    (away : (i : ℕ) → i < 4033 → (i ≡ 0 → ⊥) → (i ≡ 1 + r 0 → ⊥) → (i ≡ 2017 + l / 2 → ⊥) → s i ≡ r i) where
  full : r 0 < n
  full = room_left n r h l f

  none : entry_of r (l / 2) ≡ 0
  none = side_open (entry_of r (l / 2)) (l % 2) (h.vals l f.0 ∙ f.1)

  -- the literals before it stay
  lits : (q : ℕ) → q < r 0 → lit_at s q ≡ lit_at r q
  lits q i = away (1 + q) (omega (arith, i, full, few)) (λ e. omega (arith, e)) (λ e. omega (arith, e, i)) (λ e. omega (arith, e, i, full, few))

  -- it is in front
  list : held s ≡ l ∷ held r
  list =
      ap (λ (k : ℕ). trail k s) (count ∙ add-one (r 0)) ∙ trail-suc (r 0) s ∙ ap (λ (x : ℕ). x ∷ trail (r 0) s) top
      ∙ ap (λ (G : List ℕ). l ∷ G) (trail_same (r 0) s r lits)

  entry : (m : ℕ) → m < n → (m ≡ l / 2 → ⊥) → entry_of s m ≡ entry_of r m
  entry m i d = away (2017 + m) (omega (arith, i, few)) (λ e. omega (arith, e)) (λ e. omega (arith, e, full, few)) (λ e. d (omega (arith, e)))

  vals : Vals n s
  vals m i = go (ℕ_discrete (m / 2) (l / 2)) (ℕ_discrete m l)
    where
      at' : m / 2 ≡ l / 2 → entry_of s (m / 2) ≡ 2 * r 0 + l % 2 + 1
      at' d = ap (λ (k : ℕ). entry_of s k) d ∙ at

      now : value_of (held s) m ≡ value_of (l ∷ held r) m
      now = ap (λ (G : List ℕ). value_of G m) list

      go : Dec (m / 2 ≡ l / 2) → Dec (m ≡ l) → side (entry_of s (m / 2)) (m % 2) ≡ value_of (held s) m
      go (yes d) (yes q) =
          ap (λ (e : ℕ). side e (m % 2)) (at' d) ∙ ap (λ (x : ℕ). side (2 * r 0 + l % 2 + 1) (x % 2)) q ∙ side-holds (r 0) (l % 2) (omega arith)
          ∙ sym (now ∙ ap (value_of (l ∷ held r)) q ∙ value_joined (held r) l)
      go (yes d) (no q) =
          let z : m ≡ neg l = omega (arith, d, q) in
          ap (λ (e : ℕ). side e (m % 2)) (at' d) ∙ side_fails (r 0) (l % 2) (m % 2) (omega arith) (λ e. q (omega (arith, e, d)))
          ∙ sym (now ∙ ap (value_of (l ∷ held r)) z ∙ value_negated (held r) l f.1)
      go (no d) q =
          ap (λ (e : ℕ). side e (m % 2)) (entry (m / 2) (omega (arith, i)) d) ∙ h.vals m i
          ∙ sym (now ∙ value_other (held r) l m d)

  place : (q : ℕ) → q < s 0 → entry_of s (lit_at s q / 2) ≡ 2 * q + lit_at s q % 2 + 1
  place q i = go (ℕ_discrete q (r 0))
    where
      go : Dec (q ≡ r 0) → entry_of s (lit_at s q / 2) ≡ 2 * q + lit_at s q % 2 + 1
      go (yes e) =
          let x : lit_at s q ≡ l = ap (λ (k : ℕ). lit_at s k) e ∙ top in
          ap (λ (k : ℕ). entry_of s (k / 2)) x ∙ at ∙ omega (arith, x, e)
      go (no e) =
          let j : q < r 0 = omega (arith, i, count, e) in
          let x : lit_at s q ≡ lit_at r q = lits q j in
          let d : lit_at r q / 2 ≡ l / 2 → ⊥ = λ y. omega (arith, h.place q j, ap (λ (k : ℕ). entry_of r k) y, none) in
          ap (λ (k : ℕ). entry_of s (k / 2)) x ∙ entry (lit_at r q / 2) (omega (arith, literal_below n (r 0) r q h.good j)) d
          ∙ h.place q j ∙ ap (λ (k : ℕ). 2 * q + k % 2 + 1) (sym x)

  low : (m : ℕ) → m < n → entry_of s m ≤ 2 * s 0
  low m i = go (ℕ_discrete m (l / 2))
    where
      go : Dec (m ≡ l / 2) → entry_of s m ≤ 2 * s 0
      go (yes d) = omega (arith, ap (λ (k : ℕ). entry_of s k) d, at, count)
      go (no d) = omega (arith, entry m i d, h.low m i, count)

  from : (m : ℕ) → m < n → (entry_of s m ≡ 0 → ⊥) → lit_at s ((entry_of s m - 1) / 2) / 2 ≡ m
  from m i z = go (ℕ_discrete m (l / 2))
    where
      go : Dec (m ≡ l / 2) → lit_at s ((entry_of s m - 1) / 2) / 2 ≡ m
      go (yes d) =
          let x : (entry_of s m - 1) / 2 ≡ r 0 = omega (arith, ap (λ (k : ℕ). entry_of s k) d, at) in
          ap (λ (k : ℕ). lit_at s k / 2) x ∙ ap (λ (k : ℕ). k / 2) top ∙ sym d
      go (no d) =
          let e = entry m i d in
          ap (λ (k : ℕ). lit_at s ((k - 1) / 2) / 2) e
          ∙ ap (λ (k : ℕ). k / 2) (lits ((entry_of r m - 1) / 2) (omega (arith, h.low m i, z, e)))
          ∙ h.from m i (λ y. z (e ∙ y))

  -- the trail is right
  joined : Trail n s
  joined = record {
    good = subst (Good n) (sym list) (f, h.good);
    vals = vals;
    place = place;
    low = low;
    from = from;
  }

-- ---- the stores

-- what a joining literal stores in u: its entry, itself, and the count, by the trail of w
abbrev pub entered : ℕ → List ℕ → List ℕ → ℕ → List ℕ
entered b w u l =
    set (set (set u (b + (2017 + l / 2)) (2 * get_or w (b + 0) 0 + l % 2 + 1)) (b + (1 + get_or w (b + 0) 0)) l) (b + 0) (get_or w (b + 0) 0 + 1)

-- l has joined the trail from b on; beside it w' is u
pub record Joins (n b l : ℕ) (w u w' : List ℕ) : Type 0 where
  pub size : length w' ≡ length u
  pub trail : Trail n (trail_from b w')
  pub list : held (trail_from b w') ≡ l ∷ held (trail_from b w)
  pub count : trail_from b w' 0 ≡ suc (trail_from b w 0)
  pub lits : (q : ℕ) → q < trail_from b w 0 → lit_at (trail_from b w') q ≡ lit_at (trail_from b w) q
  pub top : lit_at (trail_from b w') (trail_from b w 0) ≡ l
  pub else : (i : ℕ) → (i < b) ⊎ (b + 4033 ≤ i) → get_or w' i 0 ≡ get_or u i 0

-- u has the trail of w
module _ (n b l : ℕ) (w u : List ℕ) (size : b + 4033 ≤ length u) (few : n ≤ 2016) (same : (i : ℕ) → i < 4033 → trail_from b u i ≡ trail_from b w i)
    (h : Trail n (trail_from b w)) (f : Fresh n (held (trail_from b w)) l) where
  H : ℕ
  H = get_or w (b + 0) 0

  w₁ : List ℕ
  w₁ = set u (b + (2017 + l / 2)) (2 * H + l % 2 + 1)

  w₂ : List ℕ
  w₂ = set w₁ (b + (1 + H)) l

  w₃ : List ℕ
  w₃ = set w₂ (b + 0) (H + 1)

  hn : H < n
  unfolding H
  hn = room_left n (trail_from b w) h l f

  ln : l / 2 < 2016
  ln = omega (arith, f.0, few)

  hm : H < 2016
  hm = omega (arith, hn, few)

  z₁ : length w₁ ≡ length u
  unfolding w₁
  z₁ = length-set u (b + (2017 + l / 2)) (2 * H + l % 2 + 1)

  z₂ : length w₂ ≡ length u
  unfolding w₂
  z₂ = length-set w₁ (b + (1 + H)) l ∙ z₁

  z₃ : length w₃ ≡ length u
  unfolding w₃
  z₃ = length-set w₂ (b + 0) (H + 1) ∙ z₂

  t₁ : (i : ℕ) → (i ≡ b + (2017 + l / 2) → ⊥) → get_or w₁ i 0 ≡ get_or u i 0
  unfolding w₁
  t₁ i e = get_or-set_other u (b + (2017 + l / 2)) i (2 * H + l % 2 + 1) 0 e

  t₂ : (i : ℕ) → (i ≡ b + (1 + H) → ⊥) → get_or w₂ i 0 ≡ get_or w₁ i 0
  unfolding w₂
  t₂ i e = get_or-set_other w₁ (b + (1 + H)) i l 0 e

  t₃ : (i : ℕ) → (i ≡ b + 0 → ⊥) → get_or w₃ i 0 ≡ get_or w₂ i 0
  unfolding w₃
  t₃ i e = get_or-set_other w₂ (b + 0) i (H + 1) 0 e

  n_count : trail_from b w₃ 0 ≡ H + 1
  unfolding w₃
  n_count = get_or-set_same w₂ (b + 0) (H + 1) 0 (omega (arith, z₂, size))

  n_top : trail_from b w₃ (1 + H) ≡ l
  unfolding w₂
  n_top = t₃ (b + (1 + H)) (λ e. omega (arith, e)) ∙ get_or-set_same w₁ (b + (1 + H)) l 0 (omega (arith, z₁, size, hm))

  n_at : trail_from b w₃ (2017 + l / 2) ≡ 2 * H + l % 2 + 1
  unfolding w₁
  n_at =
      t₃ (b + (2017 + l / 2)) (λ e. omega (arith, e)) ∙ t₂ (b + (2017 + l / 2)) (λ e. omega (arith, e, hm))
      ∙ get_or-set_same u (b + (2017 + l / 2)) (2 * H + l % 2 + 1) 0 (omega (arith, size, ln))

  n_away : (i : ℕ) → i < 4033 → (i ≡ 0 → ⊥) → (i ≡ 1 + H → ⊥) → (i ≡ 2017 + l / 2 → ⊥) → trail_from b w₃ i ≡ trail_from b w i
  n_away i k a c d =
      t₃ (b + i) (λ y. a (omega (arith, y))) ∙ t₂ (b + i) (λ y. c (omega (arith, y))) ∙ t₁ (b + i) (λ y. d (omega (arith, y))) ∙ same i k

  n_else : (i : ℕ) → (i < b) ⊎ (b + 4033 ≤ i) → get_or w₃ i 0 ≡ get_or u i 0
  n_else i (inl k) = t₃ i (λ e. omega (arith, e, k)) ∙ t₂ i (λ e. omega (arith, e, k)) ∙ t₁ i (λ e. omega (arith, e, k))
  n_else i (inr k) = t₃ i (λ e. omega (arith, e, k)) ∙ t₂ i (λ e. omega (arith, e, k, hm)) ∙ t₁ i (λ e. omega (arith, e, k, ln))

  joins₃ : Joins n b l w u w₃
  unfolding H
  joins₃ = record {
    size = z₃;
    trail = joined n (trail_from b w) (trail_from b w₃) l h few f n_count n_top n_at n_away;
    list = list n (trail_from b w) (trail_from b w₃) l h few f n_count n_top n_at n_away;
    count = n_count ∙ add-one (get_or w (b + 0) 0);
    lits = lits n (trail_from b w) (trail_from b w₃) l h few f n_count n_top n_at n_away;
    top = n_top;
    else = n_else;
  }

  pub joins : Joins n b l w u (entered b w u l)
  unfolding w₃ w₂ w₁ H
  joins = joins₃
