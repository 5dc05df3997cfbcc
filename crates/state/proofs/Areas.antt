-- Laws of the work area: what it holds, and what stands where the numbers that it is read off do not change. Assumes nothing.
use Rattle.index.specs.Index.{most_nodes}
use mathlib.Core.Path.{◌≡◌, sym, ap, ◌∙◌, subst}
use mathlib.Core.List.{List}
use Prim.Native.Nat.{ℕ, ◌+◌, ◌-◌, ◌*◌, ◌/◌, ◌%◌, ◌<◌, ◌≤◌}
use native.Mathlib.Omega.{arith}
use lib.ListN.{length}
use Rattle.scope.specs.declared.Node.{Node}
use Rattle.calculus.specs.Model.{Fresh, Good}
use Rattle.calculus.specs.Order.{value_of}
use Rattle.calculus.proofs.Sizes.{clauses-few}
use Rattle.trail.specs.Trail.{side}
use Rattle.trail.proofs.Trails.{trail-length, trail_same, literal_below, count_most as most-held, room_left as room-held}
use Rattle.state.specs.Work.{tail, value_at, value_code, lit_at, entry_of, base_of, trail, held, g_of, Goals, Trail, Ready, Numbered, entries_end, values_size, entries_at, literals_at}

-- ---- the literals held

module _ {n : ℕ} {w : List ℕ} (h : Ready n w) where
  -- no more literals are held than there are nodes
  pub count_most : tail w 0 ≤ n
  count_most = most-held n (tail w) h.trail

  -- each is a literal of the nodes
  pub held_below : (q : ℕ) → q < tail w 0 → lit_at (tail w) q < 2 * n
  held_below q i = literal_below n (tail w 0) (tail w) q h.trail.good i

  -- where a literal may join, there is room
  pub room_left : {l : ℕ} → Fresh n (g_of w) l → tail w 0 < n
  room_left {l} f = room-held n (tail w) h.trail l f

  -- how many clauses stand before a position
  pub base_most : (t : ℕ → Node) {goals : List ℕ} → n ≤ most_nodes → Goals n goals → Numbered t goals (tail w) → (q : ℕ) → q ≤ tail w 0
      → base_of (tail w) q ≤ 8192
  base_most t {goals} few gs e q i =
      omega (arith, e q i, clauses-few t goals (trail q (tail w)), trail-length q (tail w), count_most, gs.most)

-- ---- what stands where the numbers that it is read off do not change

-- the trail, of which nothing stands past the entries
module _ {n : ℕ} {r r' : ℕ → ℕ} (few : n ≤ most_nodes) (h : Trail n r) (e : (i : ℕ) → i < entries_end → r' i ≡ r i) where
  count : r' 0 ≡ r 0
  count = e 0 (omega arith)

  lits : (q : ℕ) → q < r 0 → lit_at r' q ≡ lit_at r q
  lits q i = e (literals_at + q) (omega (arith, i, most-held n r h))

  entry : (m : ℕ) → m < n → entry_of r' m ≡ entry_of r m
  entry m i = e (entries_at + m) (omega arith)

  pub held_still : held r' ≡ held r
  held_still = ap (λ (k : ℕ). trail k r') count ∙ trail_same (r 0) r' r lits

  place : (q : ℕ) → q < r' 0 → entry_of r' (lit_at r' q / 2) ≡ 2 * q + lit_at r' q % 2 + 1
  place q i =
      let j : q < r 0 = omega (arith, count) in
      let x : lit_at r' q ≡ lit_at r q = lits q j in
      ap (λ (k : ℕ). entry_of r' (k / 2)) x ∙ entry (lit_at r q / 2) (omega (arith, literal_below n (r 0) r q h.good j))
      ∙ h.place q j ∙ ap (λ (k : ℕ). 2 * q + k % 2 + 1) (sym x)

  from : (m : ℕ) → m < n → (entry_of r' m ≡ 0 → ⊥) → lit_at r' ((entry_of r' m - 1) / 2) / 2 ≡ m
  from m i z =
      let x : entry_of r' m ≡ entry_of r m = entry m i in
      ap (λ (k : ℕ). lit_at r' ((k - 1) / 2) / 2) x ∙ ap (◌/ 2) (lits ((entry_of r m - 1) / 2) (omega (arith, x, z, h.low m i)))
      ∙ h.from m i (λ y. z (x ∙ y))

  pub trail_still : Trail n r'
  trail_still = record {
    good = subst (Good n) (sym held_still) h.good;
    vals = λ l i. ap (λ (k : ℕ). side k (l % 2)) (entry (l / 2) (omega (arith, i))) ∙ h.vals l i ∙ ap (λ (G : List ℕ). value_of G l) (sym held_still);
    place = place;
    low = λ m i. omega (arith, entry m i, h.low m i, count);
    from = from;
  }

-- all that Ready reads
pub ready_same : {n : ℕ} {w w' : List ℕ} → n ≤ most_nodes → Ready n w → length w' ≡ length w → ((i : ℕ) → i < entries_end → tail w' i ≡ tail w i)
    → ((l : ℕ) → l < values_size → value_at (tail w') l ≡ value_at (tail w) l) → Ready n w'
ready_same few h z e f = record {
  size = omega (arith, z, h.size);
  trail = trail_still few h.trail e;
  values = λ l i. f l i ∙ h.values l i ∙ ap (λ (G : List ℕ). value_code (value_of G l)) (sym (held_still few h.trail e));
}
