-- The walk along the parents of a node: which positions are entered. Assumes nothing.
use mathlib.Core.Path.{◌≡◌, refl, sym, ap, ◌∙◌, subst}
use mathlib.Core.Logic.{◌⊎◌, inl, inr, ⊎_elim}
use mathlib.Core.List.{List}
use Prim.Native.Nat.{ℕ, ◌+◌, ◌-◌, ◌*◌, ◌/◌, ◌%◌, ◌<◌, ◌≤◌}
use native.Mathlib.Omega.{arith}
use native.Mathlib.Decide.{ℕ_discrete}
use Rattle.scope.specs.declared.Node.{Node}
use Rattle.calculus.specs.Order.{holds, value_of}
use Rattle.trail.proofs.Trails.{side-none, side-true}
use Rattle.index.specs.Index.{most_nodes, index_node}
use Rattle.index.specs.Edges.{first_of, mid_of, end_of, Names, PairAt, Parent, parent_of, edge_at}
use Rattle.index.specs.Indexed.{Indexed}
use Rattle.units.specs.Units.{Units}
use Rattle.clause.specs.Classed.{kept_by, Says, Classed}
use Rattle.state.specs.Work.{tail, lit_at, entry_of, g_of, conflict_of, Ready}
use Rattle.state.specs.Holds.{states_at, Entered}
use Rattle.state.proofs.Areas.{count_most, held_below}
use Rattle.solver.specs.Changes.{Beside, Lowered, Flagged, Visited, PairFrom, ThreeFrom, Walk, Touchable, Touched}
use Rattle.trail.proofs.Codes.{code_holds, code_undecided}
use Rattle.solver.proofs.Marks.{beside_same, still_at, still_ready, still_literal, still_states, entered_still, held_low}
use Rattle.solver.proofs.Marks.{renewed_empty, renewed_unit, renewed_same, at_low, at-node, visited_same, visited}

-- one change after another
pub beside_on : {w₀ w w' : List ℕ} → Beside w₀ w → Beside w w' → Beside w₀ w'
beside_on a b = record { size = b.size ∙ a.size; other = λ i e k. b.other i e k ∙ a.other i e k }

-- what is to come may be said in another way
pub walk_same : {t : ℕ → Node} {n : ℕ} {C D : ℕ → Type 0} {w₀ m₀ w m : List ℕ} → Walk t n C w₀ m₀ w m → ((p : ℕ) → C p → D p) → Walk t n D w₀ m₀ w m
walk_same v f = record {
  beside = v.beside;
  units = v.units;
  closed = v.closed;
  waits = λ q i. ⊎_elim inl (λ y. inr (f _ y)) (v.waits q i);
  late = v.late;
  else = v.else;
}

-- a parent is visited, and others are still to come
module _ {t : ℕ → Node} {n p : ℕ} {w₀ m₀ w m w' m' : List ℕ} {C D : ℕ → Type 0} (few : n ≤ most_nodes) (h : Ready n w₀) (v : Walk t n C w₀ m₀ w m) (k : Visited t n w m p w' m')
    (f : (j : ℕ) → (j ≡ p → ⊥) → C j → D j) where
  ready : Ready n w
  ready = still_ready few h v.beside

  count : tail w 0 ≡ tail w₀ 0
  count = still_at few h v.beside 0 (omega arith)

  literal : (q : ℕ) → q < tail w₀ 0 → lit_at (tail w) q ≡ lit_at (tail w₀) q
  literal = still_literal few h v.beside

  waits : (q : ℕ) → q < tail w₀ 0 → Dec (lit_at (tail w₀) q / 2 ≡ p) → Entered t (g_of w) (tail w) (conflict_of w) m q ⊎ C (lit_at (tail w₀) q / 2)
      → Entered t (g_of w') (tail w') (conflict_of w') m' q ⊎ D (lit_at (tail w₀) q / 2)
  waits q i (yes e) u = inl (k.here q (omega (arith, i, count)) (ap (◌/ 2) (literal q i) ∙ e))
  waits q i (no e) (inl u) =
      let d = k.else q (omega (arith, i, count_most h, few)) (λ a y. e (sym (ap (◌/ 2) (literal q i)) ∙ y)) in
      inl (entered_still (still_states few ready k.beside t q (omega (arith, i, count))) k.lower d u)
  waits q i (no e) (inr y) = inr (f (lit_at (tail w₀) q / 2) e y)

  pub walk_visited : Walk t n D w₀ m₀ w' m'
  walk_visited = record {
    beside = beside_on v.beside k.beside;
    units = k.units;
    closed = k.closed v.closed;
    waits = λ q i. waits q i (ℕ_discrete (lit_at (tail w₀) q / 2) p) (v.waits q i);
    late = λ q i. k.late q (omega (arith, i, count)) (v.late q i);
    else = λ q i a. (k.else q a (λ y. absurd (omega (arith, count, y, i)))).0 ∙ v.else q i a;
  }

-- a walk from where another stopped, and both together
module _ {t : ℕ → Node} {n : ℕ} {w₀ m₀ w m : List ℕ} {C : ℕ → Type 0} (few : n ≤ most_nodes) (h : Ready n w₀) (v : Walk t n C w₀ m₀ w m) where
  held₀ : tail w 0 ≡ tail w₀ 0
  held₀ = still_at few h v.beside 0 (omega arith)

  pub walk_from : Walk t n C w m w m
  walk_from = record {
    beside = beside_same w;
    units = v.units;
    closed = v.closed;
    waits = λ q i.
        let b : q < tail w₀ 0 = omega (arith, i, held₀) in
        subst (λ (l : ℕ). Entered t (g_of w) (tail w) (conflict_of w) m q ⊎ C (l / 2)) (sym (still_literal few h v.beside q b)) (v.waits q b);
    late = λ q i. v.late q (omega (arith, i, held₀));
    else = λ q i k. refl;
  }

  pub walk-both : {w' m' : List ℕ} {D : ℕ → Type 0} → Walk t n D w m w' m' → Walk t n D w₀ m₀ w' m'
  walk-both {w'} {m'} {D} k = record {
    beside = beside_on v.beside k.beside;
    units = k.units;
    closed = k.closed;
    waits = λ q i.
        subst (λ (l : ℕ). Entered t (g_of w') (tail w') (conflict_of w') m' q ⊎ D (l / 2)) (still_literal few h v.beside q i) (k.waits q (omega (arith, i, held₀)));
    late = λ q i. k.late q (omega (arith, i, held₀));
    else = λ q i a. k.else q (omega (arith, i, held₀)) a ∙ v.else q i a;
  }

-- ---- along the edges of a node

module _ {x : List ℕ} {n node : ℕ} {w₀ : List ℕ} (I : Indexed x n) (h : Ready n w₀) (b : node < n) where
  abbrev t : ℕ → Node
  t = index_node x

  -- it starts at the node's first edge
  pub pairs_start : {k : ℕ} {m₀ : List ℕ} → k ≡ first_of x node → Touchable t n node w₀ m₀ → Walk t n (λ p. PairFrom x node k p ⊎ ThreeFrom x node 0 p) w₀ m₀ w₀ m₀
  pairs_start {k = f} d v = walk_same v go
    where
      go : (p : ℕ) → Names t n node p → PairFrom x node f p ⊎ ThreeFrom x node 0 p
      go p (y, i, e, k) =
          ⊎_elim (λ (j, a, o). inl (j, omega (arith, a.0, d), a, o ∙ k)) (λ (j, a, o). inr (j, omega arith, a, o ∙ k))
          (subst (λ (m : ℕ). Parent x m (y / 4)) e (I.edges.complete y i (subst (λ (m : ℕ). m < n) (sym e) b)))

  -- an edge from a node of two operands is left behind
  pub pairs_go : {k : ℕ} {m₀ w m w' m' : List ℕ} → PairAt x node k → Walk t n (λ p. PairFrom x node k p ⊎ ThreeFrom x node 0 p) w₀ m₀ w m
      → Visited t n w m (parent_of x k) w' m' → Walk t n (λ p. PairFrom x node (k + 2) p ⊎ ThreeFrom x node 0 p) w₀ m₀ w' m'
  pairs_go {k} at v y = walk_visited I.few h v y go
    where
      go : (p : ℕ) → (p ≡ parent_of x k → ⊥) → PairFrom x node k p ⊎ ThreeFrom x node 0 p → PairFrom x node (k + 2) p ⊎ ThreeFrom x node 0 p
      go p d (inr z) = inr z
      go p d (inl (j, i, a, o)) =
          let e : j ≡ k → ⊥ = λ z. d (sym o ∙ ap (parent_of x) z) in
          inl (j, omega (arith, i, e, a.2, at.2), a, o)

  pub pairs_end : {e k : ℕ} {m₀ w m : List ℕ} → e ≡ mid_of x node → e ≤ k → Walk t n (λ p. PairFrom x node k p ⊎ ThreeFrom x node 0 p) w₀ m₀ w m
      → Walk t n (ThreeFrom x node 0) w₀ m₀ w m
  pairs_end d e v = walk_same v (λ p. ⊎_elim (λ (j, i, a, o). absurd (omega (arith, i, d, e, a.1))) (λ z. z))

  -- then come those from nodes of three
  pub threes_start : {k : ℕ} {m₀ w m : List ℕ} → k ≡ mid_of x node → Walk t n (ThreeFrom x node 0) w₀ m₀ w m → Walk t n (ThreeFrom x node k) w₀ m₀ w m
  threes_start d v = walk_same v (λ p (j, i, a, o). (j, omega (arith, a.0, d), a, o))

  threes_go : {k : ℕ} {m₀ w m w' m' : List ℕ} → Walk t n (ThreeFrom x node k) w₀ m₀ w m → Visited t n w m (edge_at x k) w' m'
      → Walk t n (ThreeFrom x node (k + 1)) w₀ m₀ w' m'
  threes_go {k} v y = walk_visited I.few h v y go
    where
      go : (p : ℕ) → (p ≡ edge_at x k → ⊥) → ThreeFrom x node k p → ThreeFrom x node (k + 1) p
      go p d (j, i, a, o) =
          let e : j ≡ k → ⊥ = λ z. d (sym o ∙ ap (edge_at x) z) in
          (j, omega (arith, i, e), a, o)

  pub threes_seen : {k p : ℕ} {m₀ w m w' m' : List ℕ} → Walk t n (ThreeFrom x node k) w₀ m₀ w m → p ≡ edge_at x k → Visited t n w m p w' m'
      → Walk t n (ThreeFrom x node (k + 1)) w₀ m₀ w' m'
  threes_seen {k} {p} {m₀} {w} {m} {w'} {m'} v e y = threes_go v (subst (λ (j : ℕ). Visited t n w m j w' m') e y)

  pub threes_end : {e k : ℕ} {m₀ w m : List ℕ} → e ≡ end_of x node → e ≤ k → Walk t n (ThreeFrom x node k) w₀ m₀ w m → Touched t n w₀ m₀ w m
  threes_end d e v = walk_same v (λ p (j, i, a, o). absurd (omega (arith, i, d, e, a.1)))

-- ---- what an edge's class does to the position of its parent

module _ {t : ℕ → Node} {n : ℕ} {w : List ℕ} {p o c : ℕ} (few : n ≤ most_nodes) (h : Ready n w) (C : Classed t n (g_of w) p o c) where
  -- a literal that is held is true
  held-true : (q : ℕ) → q < tail w 0 → value_of (g_of w) (lit_at (tail w) q) ≡ holds
  held-true q i =
      let l = lit_at (tail w) q in
      let e = h.trail.place q i in
      code_holds (value_of (g_of w) l)
      (sym (side-true (entry_of (tail w) (l / 2)) (l % 2) (value_of (g_of w) l) (λ z. omega (arith, z, e)) (omega (arith, e))
      (h.trail.vals l (held_below h q i))))

  -- what the class says of the position of a literal of p
  says : (q : ℕ) → q < tail w 0 → lit_at (tail w) q / 2 ≡ p → Says n (states_at t (g_of w) (tail w) q) o c
  says q i e = C.held (lit_at (tail w) q) e (held-true q i)

  -- nothing
  pub looked_none : {m : List ℕ} → Units m → c ≡ 0 → Visited t n w m p w m
  looked_none u z =
      visited_same u (λ q i e.
      let s = (says q i e).none z in
      (renewed_same t few h i u s.1 s.0).here)

  -- the parent's entry is read
  module _ {r e : ℕ} (parent : (r ≡ p) × (r < n)) (entry : e ≡ entry_of (tail w) r) (d : c ≡ 0 → ⊥) where
    b : p < n
    b = omega (arith, parent)

    entry-is : e ≡ entry_of (tail w) p
    entry-is = entry ∙ ap (entry_of (tail w)) parent.0

    pub looked-some : e ≡ 0 → ⊥
    looked-some z =
        let k : 2 * p / 2 ≡ p = omega arith in
        let y : entry_of (tail w) (2 * p / 2) ≡ 0 = rw k (sym entry-is ∙ z) in
        d (C.idle (code_undecided (value_of (g_of w) (2 * p))
        (sym (side-none (entry_of (tail w) (2 * p / 2)) (2 * p % 2) (value_of (g_of w) (2 * p)) y (h.trail.vals (2 * p) (omega (arith, b)))))))

    abbrev at : ℕ
    at = (e - 1) / 2

    pub looked-held : at < tail w 0
    looked-held = at_low h b entry-is looked-some

    pub looked-low : at < most_nodes
    looked-low = held_low few h looked-held

    at-says : Says n (states_at t (g_of w) (tail w) at) o c
    at-says = says at looked-held (at-node h b entry-is looked-some)

    pub looked-conflict : {m w' : List ℕ} → Units m → c ≡ 1 → Lowered w at w' → Visited t n w m p w' m
    looked-conflict u z k = visited h b entry-is looked-some few (renewed_empty t few h looked-held u (at-says.conflict z) k)

    module _ {o' : ℕ} (other : o' ≡ o) (z : c ≡ 1 → ⊥) where
      unit : 2 ≤ c
      unit = omega (arith, d, z)

      pub looked-kept : kept_by o' c < 65536
      looked-kept = rw other (at-says.kept_low unit).0

      pub looked-unit : {m w' m' : List ℕ} {k : ℕ} → k ≡ kept_by o' c → Flagged w m at k w' m' → Visited t n w m p w' m'
      looked-unit y g =
          let s = y ∙ ap (λ (i : ℕ). kept_by i c) other in
          visited h b entry-is looked-some few
          (renewed_unit t few h looked-held (at-says.free unit) (at-says.unit unit) (rw s (at-says.kept unit)) (rw s (at-says.kept_low unit).1) g)
