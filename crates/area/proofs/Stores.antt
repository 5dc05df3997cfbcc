-- What the stores of each function leave in the work area. Assumes nothing.
use mathlib.Core.Path.{◌≡◌, refl, sym, ap, ◌∙◌, subst}
use mathlib.Core.Logic.{◌⊎◌, inl, inr}
use mathlib.Core.List.{List}
use Prim.Native.Nat.{ℕ, ◌+◌, ◌-◌, ◌%◌, ◌<◌, ◌≤◌}
use native.Mathlib.Omega.{arith}
use native.Mathlib.Numerals.{add-one}
use native.Mathlib.Decide.{ℕ_discrete}
use lib.ListN.{length, get_or, set, length-set}
use lib.Seq.{get_or-set_same, get_or-set_other}
use Rattle.area.specs.Area.{area_size, most_nodes, most_slots, slots_from, strikes_from, counts_from, sizes_from, heads_from, notes, whole, clause_count, depth, newest, packed_at, flag_of, note_at, slot_at, strike_at, split_count, split_size, split_head, trail_at, Trail, Shrunk, Struck, Saved}
use Rattle.area.proofs.Packed.{flagged_literal, flagged_flag}

-- ---- literals leave

pub shrink_starts : {n c : ℕ} {w : List ℕ} → Trail n (trail_at w) → c ≤ trail_at w 0 → (c ≤ trail_at w 0) × Shrunk n (trail_at w 0) w w
shrink_starts r b = (b, record { size = refl; trail = r; count = refl; lits = λ q i. refl; under = λ i x y. refl })

pub shrink_goes : {n c : ℕ} {w₀ w w' : List ℕ} → c < trail_at w 0 → Shrunk n (trail_at w 0) w₀ w → Shrunk n (trail_at w 0 - 1) w w'
    → (c ≤ trail_at w' 0) × Shrunk n (trail_at w' 0) w₀ w'
shrink_goes b p q = (
  omega (arith, b, q.count),
  record {
    size = q.size ∙ p.size;
    trail = q.trail;
    count = refl;
    lits = λ k i. q.lits k (omega (arith, i, q.count)) ∙ p.lits k (omega (arith, i, q.count));
    under = λ i x y. q.under i x y ∙ p.under i x y;
  },
)

pub shrink_ends : {n c : ℕ} {w₀ w : List ℕ} → trail_at w 0 ≤ c → c ≤ trail_at w 0 → Shrunk n (trail_at w 0) w₀ w → Shrunk n c w₀ w
shrink_ends {n} {c} {w₀} {w} f b p =
    let z : trail_at w 0 ≡ c = omega (arith, f, b) in
    subst (λ (x : ℕ). Shrunk n x w₀ w) z p

-- ---- a strike, a split

module _ (w : List ℕ) (m kind : ℕ) (size : area_size ≤ length w) (b : m < most_slots) (few : newest w ≤ most_slots) (z : kind % notes ≡ 0)
    (none : strike_at w m ≡ 0) where
  I : ℕ
  I = newest w

  few' : I ≤ most_slots
  unfolding I
  few' = few

  w₁ : List ℕ
  w₁ = set w (strikes_from + I) m

  w₂ : List ℕ
  w₂ = set w₁ (slots_from + m) (packed_at w₁ m + (notes + kind))

  w₃ : List ℕ
  w₃ = set w₂ 2 (I + 1)

  z₁ : length w₁ ≡ length w
  unfolding w₁
  z₁ = length-set w (strikes_from + I) m

  z₂ : length w₂ ≡ length w
  unfolding w₂
  z₂ = length-set w₁ (slots_from + m) (packed_at w₁ m + (notes + kind)) ∙ z₁

  here₁ : note_at w₁ I ≡ m
  unfolding w₁
  here₁ = get_or-set_same w (strikes_from + I) m 0 (omega (arith, size, few'))

  away₁ : (i : ℕ) → (i ≡ strikes_from + I → ⊥) → get_or w₁ i 0 ≡ get_or w i 0
  unfolding w₁
  away₁ i e = get_or-set_other w (strikes_from + I) i m 0 e

  packed₁ : packed_at w₁ m ≡ packed_at w m
  packed₁ = away₁ (slots_from + m) (λ q. omega (arith, q, b))

  here₂ : packed_at w₂ m ≡ packed_at w m + (notes + kind)
  unfolding w₂
  here₂ = get_or-set_same w₁ (slots_from + m) (packed_at w₁ m + (notes + kind)) 0 (omega (arith, z₁, size, b)) ∙ ap (◌+ (notes + kind)) packed₁

  away₂ : (i : ℕ) → (i ≡ slots_from + m → ⊥) → get_or w₂ i 0 ≡ get_or w₁ i 0
  unfolding w₂
  away₂ i e = get_or-set_other w₁ (slots_from + m) i (packed_at w₁ m + (notes + kind)) 0 e

  away₃ : (i : ℕ) → (i ≡ 2 → ⊥) → get_or w₃ i 0 ≡ get_or w₂ i 0
  unfolding w₃
  away₃ i e = get_or-set_other w₂ 2 i (I + 1) 0 e

  here₃ : packed_at w₃ m ≡ packed_at w m + (notes + kind)
  here₃ = away₃ (slots_from + m) (λ q. omega (arith, q)) ∙ here₂

  -- a slot lies before all notes
  packed₃ : (s : ℕ) → s < most_slots → (s ≡ m → ⊥) → packed_at w₃ s ≡ packed_at w s
  packed₃ s h e = away₃ (slots_from + s) (λ q. omega (arith, q)) ∙ away₂ (slots_from + s) (λ q. e (omega (arith, q)))
      ∙ away₁ (slots_from + s) (λ q. omega (arith, q, h))

  note₃ : (i : ℕ) → note_at w₃ i ≡ note_at w₁ i
  note₃ i = away₃ (strikes_from + i) (λ q. omega (arith, q)) ∙ away₂ (strikes_from + i) (λ q. omega (arith, q, b))

  slot₃ : (s : ℕ) → s < most_slots → slot_at w₃ s ≡ slot_at w s
  slot₃ s h = go (ℕ_discrete s m)
    where
      go : Dec (s ≡ m) → slot_at w₃ s ≡ slot_at w s
      go (yes e) = ap (slot_at w₃) e ∙ ap (◌% notes) here₃ ∙ flagged_literal (packed_at w m) kind z ∙ ap (slot_at w) (sym e)
      go (no e) = ap (◌% notes) (packed₃ s h e)

  beside : (i : ℕ) → (i < slots_from) ⊎ (counts_from ≤ i) → (i ≡ slots_from + m → ⊥) × (i ≡ strikes_from + I → ⊥)
  beside i (inl a) = (λ e. omega (arith, a, e), λ e. omega (arith, a, e))
  beside i (inr a) = (λ e. omega (arith, a, e, b), λ e. omega (arith, a, e, few'))

  struck₃ : Struck kind m w w₃
  struck₃ = record {
    size = unfold w₃ in length-set w₂ 2 (I + 1) ∙ z₂;
    head = unfold w₃ I in get_or-set_same w₂ 2 (newest w + 1) 0 (omega (arith, z₂, size)) ∙ add-one (newest w);
    note = unfold I in note₃ (newest w) ∙ here₁;
    here = ap flag_of here₃ ∙ flagged_flag (packed_at w m) kind z none;
    older = λ i e. note₃ i ∙ away₁ (strikes_from + i) (λ q. e (unfold I in omega (arith, q)));
    others = λ s h e. ap flag_of (packed₃ s h e);
    slots = slot₃;
    else = λ i p q. away₃ i p ∙ away₂ i (beside i q).0 ∙ away₁ i (beside i q).1;
  }

  -- what is stored is a number of 16 bits
  pub struck_fits : kind ≤ whole → packed_at (set w (strikes_from + newest w) m) m + (notes + kind) < 65536
  unfolding w₁ I
  struck_fits h = omega (arith, packed₁, none, h)

  pub is_struck : Struck kind m w (set (set (set w (strikes_from + newest w) m) (slots_from + m)
      (packed_at (set w (strikes_from + newest w) m) m + (notes + kind))) 2 (newest w + 1))
  unfolding w₃ w₂ w₁ I
  is_struck = struck₃

module _ (w : List ℕ) (size : area_size ≤ length w) (low : depth w < most_nodes) where
  D : ℕ
  D = depth w

  low' : D < most_nodes
  unfolding D
  low' = low

  v₁ : List ℕ
  v₁ = set w (counts_from + D) (trail_at w 0)

  v₂ : List ℕ
  v₂ = set v₁ (sizes_from + D) (clause_count v₁)

  v₃ : List ℕ
  v₃ = set v₂ (heads_from + D) (newest v₂)

  v₄ : List ℕ
  v₄ = set v₃ 1 (D + 1)

  l₁ : length v₁ ≡ length w
  unfolding v₁
  l₁ = length-set w (counts_from + D) (trail_at w 0)

  l₂ : length v₂ ≡ length w
  unfolding v₂
  l₂ = length-set v₁ (sizes_from + D) (clause_count v₁) ∙ l₁

  l₃ : length v₃ ≡ length w
  unfolding v₃
  l₃ = length-set v₂ (heads_from + D) (newest v₂) ∙ l₂

  t₁ : (i : ℕ) → (i ≡ counts_from + D → ⊥) → get_or v₁ i 0 ≡ get_or w i 0
  unfolding v₁
  t₁ i e = get_or-set_other w (counts_from + D) i (trail_at w 0) 0 e

  t₂ : (i : ℕ) → (i ≡ sizes_from + D → ⊥) → get_or v₂ i 0 ≡ get_or v₁ i 0
  unfolding v₂
  t₂ i e = get_or-set_other v₁ (sizes_from + D) i (clause_count v₁) 0 e

  t₃ : (i : ℕ) → (i ≡ heads_from + D → ⊥) → get_or v₃ i 0 ≡ get_or v₂ i 0
  unfolding v₃
  t₃ i e = get_or-set_other v₂ (heads_from + D) i (newest v₂) 0 e

  t₄ : (i : ℕ) → (i ≡ 1 → ⊥) → get_or v₄ i 0 ≡ get_or v₃ i 0
  unfolding v₄
  t₄ i e = get_or-set_other v₃ 1 i (D + 1) 0 e

  depth₄ : depth v₄ ≡ D + 1
  unfolding v₄
  depth₄ = get_or-set_same v₃ 1 (D + 1) 0 (omega (arith, l₃, size))

  count₄ : split_count v₄ D ≡ trail_at w 0
  unfolding v₁
  count₄ =
      t₄ (counts_from + D) (λ e. omega (arith, e)) ∙ t₃ (counts_from + D) (λ e. omega (arith, e, low')) ∙ t₂ (counts_from + D) (λ e. omega (arith, e, low'))
      ∙ get_or-set_same w (counts_from + D) (trail_at w 0) 0 (omega (arith, size, low'))

  clauses₄ : split_size v₄ D ≡ clause_count w
  unfolding v₂
  clauses₄ =
      t₄ (sizes_from + D) (λ e. omega (arith, e)) ∙ t₃ (sizes_from + D) (λ e. omega (arith, e, low'))
      ∙ get_or-set_same v₁ (sizes_from + D) (clause_count v₁) 0 (omega (arith, l₁, size, low')) ∙ t₁ 0 (λ e. omega (arith, e))

  head₄ : split_head v₄ D ≡ newest w
  unfolding v₃
  head₄ =
      t₄ (heads_from + D) (λ e. omega (arith, e)) ∙ get_or-set_same v₂ (heads_from + D) (newest v₂) 0 (omega (arith, l₂, size, low'))
      ∙ t₂ 2 (λ e. omega (arith, e)) ∙ t₁ 2 (λ e. omega (arith, e))

  saved₄ : Saved w v₄
  unfolding D
  saved₄ = record {
    size = unfold v₄ in length-set v₃ 1 (depth w + 1) ∙ l₃;
    depths = depth₄ ∙ add-one (depth w);
    count = count₄;
    clauses = clauses₄;
    head = head₄;
    else = λ i a b c d. t₄ i a ∙ t₃ i d ∙ t₂ i c ∙ t₁ i b;
  }

  pub is_saved : Saved w (set (set (set (set w (counts_from + depth w) (trail_at w 0)) (sizes_from + depth w)
      (clause_count (set w (counts_from + depth w) (trail_at w 0)))) (heads_from + depth w)
      (newest (set (set w (counts_from + depth w) (trail_at w 0)) (sizes_from + depth w) (clause_count (set w (counts_from + depth w) (trail_at w 0)))))) 1
      (depth w + 1))
  unfolding v₄ v₃ v₂ v₁ D
  is_saved = saved₄
