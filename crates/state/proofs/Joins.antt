-- A literal joins what is held, and the newest leaves. Assumes nothing.
use Rattle.index.specs.Index.{most_nodes}
use mathlib.Core.Path.{◌≡◌, sym, ap, ◌∙◌, subst}
use mathlib.Core.Logic.{inl, inr}
use mathlib.Core.List.{List, ◌∷◌}
use Prim.Native.Nat.{ℕ, ◌+◌, ◌-◌, ◌/◌, ◌<◌, ◌≤◌}
use native.Mathlib.Omega.{arith}
use lib.ListN.{length, get_or, set, length-set}
use lib.Seq.{get_or-set_same, get_or-set_other}
use Rattle.calculus.specs.Expansion.{neg}
use Rattle.calculus.specs.Order.{undecided, value_of}
use Rattle.calculus.specs.Model.{Fresh, Good}
use Rattle.trail.proofs.Trails.{trail_same, empty-trail, empty-held}
use Rattle.trail.proofs.Joins.{Joins, joins}
use Rattle.trail.proofs.Leaves.{Leaves, leaves, dropped}
use Rattle.state.specs.Work.{tail, value_at, cursor_at, cursor_of, lit_at, g_of, held, trail, Ready, trail_at, literals_at, entries_at, entries_end, bases_at, values_at, values_size, cursors_at, area}
use Rattle.state.specs.Changes.{values_set, entry_set, Kept, Still, Pushed, Popped, Wiped, Blank}
use Rattle.state.proofs.Areas.{count_most, room_left, held_below, trail_still}
use Rattle.state.proofs.Values.{number, number_nil, number-joined, number_negated, number_before, number_before_neg, number_other, set_other, set_as, set-length}

-- ---- a literal joins: its values, the cursor, its entry

module _ {n : ℕ} {w : List ℕ} {l : ℕ} (few : n ≤ most_nodes) (h : Ready n w) (f : Fresh n (g_of w) l) where
  H : ℕ
  H = tail w 0

  low : l < values_size
  low = omega (arith, f.0, few)

  room : H < most_nodes
  unfolding H
  room = omega (arith, room_left h f, few)

  v : List ℕ
  v = values_set w l 1 2

  u : List ℕ
  u = set v (trail_at + (cursors_at + H)) (cursor_of w)

  u_size : length u ≡ length w
  unfolding u v
  u_size = length-set v (trail_at + (cursors_at + H)) (cursor_of w) ∙ set-length w l 1 2 low (omega (arith, h.size))

  u_other : (i : ℕ) → (i ≡ trail_at + (values_at + l) → ⊥) → (i ≡ trail_at + (values_at + neg l) → ⊥) → (i ≡ trail_at + (cursors_at + H) → ⊥)
      → get_or u i 0 ≡ get_or w i 0
  unfolding u v
  u_other i a b c = get_or-set_other v (trail_at + (cursors_at + H)) i (cursor_of w) 0 c ∙ set_other w l 1 2 low (omega (arith, h.size)) i a b

  u_value : (k : ℕ) → k < values_size → value_at (tail u) k ≡ value_at (tail v) k
  unfolding u
  u_value k i = get_or-set_other v (trail_at + (cursors_at + H)) (trail_at + (values_at + k)) (cursor_of w) 0 (λ e. omega (arith, e, i))

  j : Joins n 4 l w u (entry_set u H l)
  unfolding H
  j =
      joins n 4 l w u (omega (arith, u_size, h.size)) few
      (λ i b. u_other (trail_at + i) (λ e. omega (arith, e, b)) (λ e. omega (arith, e, b)) (λ e. omega (arith, e, b))) h.trail f

  values : (k : ℕ) → k < values_size → value_at (tail (entry_set u H l)) k ≡ number (held (tail (entry_set u H l))) k
  unfolding v
  values k i =
      j.else (trail_at + (values_at + k)) (inr (omega arith)) ∙ u_value k i
      ∙ set_as w l 1 2 low (omega (arith, h.size)) (number (l ∷ g_of w)) (sym (number-joined (g_of w) l f.1)) (sym (number_negated (g_of w) l f.1))
      (λ k i e d. h.values k i ∙ sym (number_other (g_of w) l f.1 k e d)) k i
      ∙ ap (λ (G : List ℕ). number G k) (sym j.list)

  kept : (i : ℕ) → Kept H i → get_or (entry_set u H l) i 0 ≡ get_or w i 0
  unfolding H
  kept i (inl b) = j.else i (inl b) ∙ u_other i (λ e. omega (arith, e, b)) (λ e. omega (arith, e, b)) (λ e. omega (arith, e, b))
  kept i (inr (inl b)) =
      let e : trail_at + (literals_at + (i - 5)) ≡ i = omega arith in
      subst (λ (k : ℕ). get_or (entry_set u (tail w 0) l) k 0 ≡ get_or w k 0) e (j.lits (i - 5) (omega arith))
  kept i (inr (inr (inl b))) =
      j.else i (inr (omega arith)) ∙ u_other i (λ e. omega (arith, e, b)) (λ e. omega (arith, e, b)) (λ e. omega (arith, e, b))
  kept i (inr (inr (inr b))) =
      j.else i (inr (omega arith)) ∙ u_other i (λ e. omega (arith, e, b, low)) (λ e. omega (arith, e, b, low)) (λ e. b.1 (omega (arith, e)))

  cursor : cursor_at (tail (entry_set u H l)) H ≡ cursor_of w
  unfolding u v
  cursor =
      j.else (trail_at + (cursors_at + H)) (inr (omega arith))
      ∙ get_or-set_same v (trail_at + (cursors_at + H)) (cursor_of w) 0 (omega (arith, set-length w l 1 2 low (omega (arith, h.size)), h.size, room))

  pushed' : Pushed n l w (entry_set u H l)
  unfolding H
  pushed' = record {
    ready = record { size = omega (arith, j.size, u_size, h.size); trail = j.trail; values = values };
    size = j.size ∙ u_size;
    list = j.list;
    count = j.count;
    top = j.top;
    cursor = cursor;
    kept = kept;
  }

  -- of the work area before the last stores
  pub pushed : {c : ℕ} {w₁ w₂ : List ℕ} → w₁ ≡ values_set w l 1 2 → c ≡ get_or w₁ 0 0 → w₂ ≡ entry_set (set w₁ (trail_at + (cursors_at + tail w 0)) c) (tail w 0) l
      → Pushed n l w w₂
  unfolding H u v
  pushed {c} {w₁} {w₂} a b e =
      let z : c ≡ cursor_of w = b ∙ ap (λ (k : List ℕ). get_or k 0 0) a
      ∙ set_other w l 1 2 low (omega (arith, h.size)) 0 (λ x. omega (arith, x)) (λ x. omega (arith, x)) in
      rw (e, a, z) pushed'

-- ---- the newest leaves: its values, its entry

module _ {n : ℕ} {w : List ℕ} {l : ℕ} (few : n ≤ most_nodes) (h : Ready n w) (p : 0 < tail w 0) (top : l ≡ lit_at (tail w) (tail w 0 - 1)) where
  newest_low : l < values_size
  newest_low = omega (arith, top, held_below h (tail w 0 - 1) (omega arith), few)

  o : List ℕ
  o = values_set w l 0 0

  o_size : length o ≡ length w
  unfolding o
  o_size = set-length w l 0 0 newest_low (omega (arith, h.size))

  o_other : (i : ℕ) → (i ≡ trail_at + (values_at + l) → ⊥) → (i ≡ trail_at + (values_at + neg l) → ⊥) → get_or o i 0 ≡ get_or w i 0
  unfolding o
  o_other = set_other w l 0 0 newest_low (omega (arith, h.size))

  o_same : (i : ℕ) → i < entries_end → tail o i ≡ tail w i
  o_same i b = o_other (trail_at + i) (λ e. omega (arith, e, b)) (λ e. omega (arith, e, b))

  o_top : l ≡ lit_at (tail o) (tail o 0 - 1)
  o_top =
      top
      ∙ sym (o_same (1 + (tail w 0 - 1)) (omega (arith, count_most h, few)))
      ∙ ap (λ (k : ℕ). lit_at (tail o) (k - 1)) (sym (o_same 0 (omega arith)))

  g : Leaves n 4 o (dropped 4 o l)
  g =
      subst (λ (k : ℕ). Leaves n 4 o (dropped 4 o k)) (sym o_top)
      (leaves n 4 o (omega (arith, o_size, h.size)) few (trail_still few h.trail o_same) (omega (arith, p, o_same 0 (omega arith))))

  -- what was held: l, and what is held now
  list : g_of w ≡ l ∷ held (tail (dropped 4 o l))
  list = sym (held-is) ∙ g.list ∙ ap (◌∷ held (tail (dropped 4 o l))) (sym o_top)
    where
      held-is : held (tail o) ≡ g_of w
      held-is =
          ap (λ (k : ℕ). trail k (tail o)) (o_same 0 (omega arith))
          ∙ trail_same (tail w 0) (tail o) (tail w) (λ q i. o_same (1 + q) (omega (arith, i, count_most h, few)))

  fresh : value_of (held (tail (dropped 4 o l))) l ≡ undecided
  fresh = (subst (Good n) list h.trail.good).0.1

  leave_values : (k : ℕ) → k < values_size → value_at (tail (dropped 4 o l)) k ≡ number (held (tail (dropped 4 o l))) k
  unfolding o
  leave_values k i =
      let F = held (tail (dropped 4 (values_set w l 0 0) l)) in
      g.else (trail_at + (values_at + k)) (inr (omega arith))
      ∙ set_as w l 0 0 newest_low (omega (arith, h.size)) (number F) (sym (number_before F l fresh)) (sym (number_before_neg F l fresh))
      (λ k i e d. h.values k i ∙ ap (λ (G : List ℕ). number G k) list ∙ number_other F l fresh k e d) k i

  leave_kept : (i : ℕ) → Still i → get_or (dropped 4 o l) i 0 ≡ get_or w i 0
  leave_kept i (inl b) = g.else i (inl b) ∙ o_other i (λ e. omega (arith, e, b)) (λ e. omega (arith, e, b))
  leave_kept i (inr (inl b)) =
      get_or-set_other (set o (trail_at + (entries_at + l / 2)) 0) 4 i (get_or o 4 0 - 1) 0 (λ e. omega (arith, e, b))
      ∙ get_or-set_other o (trail_at + (entries_at + l / 2)) i 0 0 (λ e. omega (arith, e, b)) ∙ o_other i (λ e. omega (arith, e, b)) (λ e. omega (arith, e, b))
  leave_kept i (inr (inr (inl b))) = g.else i (inr (omega arith)) ∙ o_other i (λ e. omega (arith, e, b)) (λ e. omega (arith, e, b))
  leave_kept i (inr (inr (inr b))) =
      g.else i (inr (omega arith)) ∙ o_other i (λ e. omega (arith, e, b, newest_low)) (λ e. omega (arith, e, b, newest_low))

  popped' : Popped n w (dropped 4 o l)
  popped' = record {
    ready = record { size = omega (arith, g.size, o_size, h.size); trail = g.trail; values = leave_values };
    size = g.size ∙ o_size;
    count = sym (o_same 0 (omega arith)) ∙ g.count;
    kept = leave_kept;
  }

  pub popped : {w₁ : List ℕ} {c : ℕ} → w₁ ≡ values_set w l 0 0 → c ≡ tail w 0 - 1 → Popped n w (set (set w₁ (trail_at + (entries_at + l / 2)) 0) 4 c)
  unfolding o
  popped {w₁} {c} a b =
      let z : c ≡ get_or (values_set w l 0 0) 4 0 - 1 = b ∙ ap (◌- 1) (sym (o_same 0 (omega arith))) in
      rw (a, z) popped'

-- ---- nothing is held

-- the cell of the first base
abbrev first_base : ℕ
first_base = trail_at + bases_at

module _ {n : ℕ} {w w₁ w₂ : List ℕ} (more : ℕ) (few : n ≤ most_nodes) (size : area ≤ length w) (y : Wiped w (trail_at + entries_at) n w₁)
    (z : Wiped w₁ (trail_at + values_at) values_size w₂) where
  b : List ℕ
  b = set (set w₂ (trail_at + 0) 0) first_base more

  b_other : (i : ℕ) → (i ≡ first_base → ⊥) → (i ≡ 4 → ⊥) → get_or b i 0 ≡ get_or w₂ i 0
  unfolding b
  b_other i d e = get_or-set_other (set w₂ (trail_at + 0) 0) first_base i more 0 d ∙ get_or-set_other w₂ (trail_at + 0) i 0 0 e

  none : tail b 0 ≡ 0
  unfolding b
  none =
      get_or-set_other (set w₂ (trail_at + 0) 0) first_base (trail_at + 0) more 0 (λ e. omega (arith, e))
      ∙ get_or-set_same w₂ (trail_at + 0) 0 0 (omega (arith, z.size, y.size, size))

  entry_zero : (m : ℕ) → m < n → get_or b (trail_at + (entries_at + m)) 0 ≡ 0
  entry_zero m i =
      b_other (trail_at + (entries_at + m)) (λ e. omega (arith, e, i, few)) (λ e. omega (arith, e))
      ∙ z.kept (trail_at + (entries_at + m)) (λ a c. omega (arith, a, i, few))
      ∙ y.zero (trail_at + (entries_at + m)) (omega arith) (omega (arith, i))

  value_zero : (l : ℕ) → l < values_size → get_or b (trail_at + (values_at + l)) 0 ≡ 0
  value_zero l i =
      b_other (trail_at + (values_at + l)) (λ e. omega (arith, e)) (λ e. omega (arith, e))
      ∙ z.zero (trail_at + (values_at + l)) (omega arith) (omega (arith, i))

  blanked' : Blank n more b
  unfolding b
  blanked' = record {
    ready = record {
      size = omega (arith, length-set (set w₂ (trail_at + 0) 0) first_base more, length-set w₂ (trail_at + 0) 0, z.size, y.size, size);
      trail = empty-trail n (tail b) none entry_zero;
      values = λ l i. value_zero l i ∙ sym (number_nil l) ∙ ap (λ (G : List ℕ). number G l) (sym (empty-held n (tail b) none));
    };
    count = none;
    base = get_or-set_same (set w₂ (trail_at + 0) 0) first_base more 0 (omega (arith, length-set w₂ (trail_at + 0) 0, z.size, y.size, size));
  }

  pub blanked : Blank n more (set (set w₂ (trail_at + 0) 0) (trail_at + bases_at) more)
  unfolding b
  blanked = blanked'
