-- Tables of which both have the nodes that a search comes to give one search; so do nodes that agree below n. Assumes nothing.
use mathlib.Core.Path.{◌≡◌, refl, sym}
use mathlib.Core.List.{List, [], ◌∷◌}
use Prim.Native.Nat.{ℕ, zero, suc, ◌+◌, ◌*◌, ◌/◌, ◌<◌, ◌≤◌}
use native.Mathlib.Omega.{arith}
use lib.ListN.{length}
use Rattle.scope.specs.declared.Node.{Node}
use Rattle.scope.specs.Table.{operands}
use Rattle.calculus.specs.Expansion.{neg, expand}
use Rattle.calculus.specs.Order.{clauses, move, Tree, tree}
use Rattle.calculus.specs.Model.{All, Table, Below, Good}
use Rattle.calculus.specs.Agree.{Alike, Closed}
use Rattle.calculus.specs.declared.Move.TheVariants.{Unit as Single, Split}
use Rattle.calculus.proofs.Lists.{all_imply}
use Rattle.calculus.proofs.Literals.{neg-node, good_below}
use Rattle.calculus.proofs.Count.{room}
use Rattle.calculus.proofs.Fresh.{expand_all, clauses_all, unit-named, split-named}
use Rattle.calculus.proofs.Search.{Grown, closes, joins, ends, parts, grown-whole}

-- ---- both have the nodes of the literals held

module _ (t u : ℕ → Node) where
  pub neg-alike : (l : ℕ) → Alike t u l → Alike t u (neg l)
  neg-alike l e = rw (neg-node l) e

  expand-alike : (l : ℕ) → Alike t u l → expand t l ≡ expand u l
  unfolding expand
  expand-alike l e = rw e

  module _ (goals : List ℕ) where
    pub clauses-alike : (G : List ℕ) → All (Alike t u) G → clauses (expand t) goals G ≡ clauses (expand u) goals G
    unfolding clauses
    clauses-alike [] a = refl
    clauses-alike (l ∷ G) a = rw (clauses-alike G a.1, expand-alike l a.0)

    pub move-alike : (G : List ℕ) → All (Alike t u) G → move (expand t) goals G ≡ move (expand u) goals G
    unfolding move
    move-alike G a = rw (clauses-alike G a)

-- ---- and of the goals, and the operands'

module _ (n : ℕ) (t u : ℕ → Node) (T : Table n t) (C : Closed n t u) (goals : List ℕ) (A : All (Alike t u) goals) where
  module _ (G : List ℕ) (g : Good n G) (a : All (Alike t u) G) where
    both : All (All (Alike t u)) (clauses (expand t) goals G)
    both = clauses_all (Alike t u) t goals A G (go G g a)
      where
        go : (H : List ℕ) → Good n H → All (Alike t u) H → All (λ l. All (All (Alike t u)) (expand t l)) H
        go [] h b = tt
        go (l ∷ H) h b =
            let s : l / 2 < n = omega (arith, h.0.0) in
            (expand_all (Alike t u) (neg-alike t u) t l (T.kinds (l / 2) s).1 (C (l / 2) s b.0), go H h.1 b.1)

    pub unit-alike : (k l : ℕ) → move (expand t) goals G ≡ Single k l → Alike t u l
    unit-alike k l e = (unit-named (Alike t u) G (expand t) goals both k l e).0

    pub split-alike : (l : ℕ) → move (expand t) goals G ≡ Split l → Alike t u l
    split-alike l e = (split-named (Alike t u) G (expand t) goals both l e).0

  -- the tree that is grown over t is that over u
  pub grown-alike : (fuel : ℕ) {G : List ℕ} {tr : Tree} → Grown n t goals G tr → All (Alike t u) G → n ≤ fuel + length G → tree (expand u) goals fuel G ≡ tr
  unfolding tree
  grown-alike zero {G} (closes g m) a h = rw (← move-alike t u goals G a, m)
  grown-alike (suc fuel) {G} (closes g m) a h = rw (← move-alike t u goals G a, m)
  grown-alike zero {G} (ends g m) a h = rw (← move-alike t u goals G a, m)
  grown-alike (suc fuel) {G} (ends g m) a h = rw (← move-alike t u goals G a, m)
  grown-alike zero {G} (joins {l = l} g m f r) a h = absurd (omega (arith, room n G l g f))
  grown-alike (suc fuel) {G} (joins {k = k} {l = l} g m f r) a h =
      rw (← move-alike t u goals G a, m, grown-alike fuel r (unit-alike G g a k l m, a) (omega arith))
  grown-alike zero {G} (parts {l = l} g m f p q) a h = absurd (omega (arith, room n G l g f))
  grown-alike (suc fuel) {G} (parts {l = l} g m f p q) a h =
      let s = split-alike G g a l m in
      rw (← move-alike t u goals G a, m, grown-alike fuel p (s, a) (omega arith), grown-alike fuel q (neg-alike t u l s, a) (omega arith))

  -- more fuel than there are nodes changes nothing
  pub search_alike : Below n goals → (fuel : ℕ) → n ≤ fuel → tree (expand t) goals n [] ≡ tree (expand u) goals fuel []
  search_alike B fuel h = sym (grown-alike fuel (grown-whole n t goals T B) tt (omega arith))

-- ---- nodes that agree below n

module _ (n : ℕ) (t u : ℕ → Node) (same : (i : ℕ) → i < n → t i ≡ u i) where
  pub table_same : Table n u → Table n t
  table_same T = record {
    kinds = λ i h. rw (same i h) (T.kinds i h);
    earlier = λ i h. rw (same i h) (T.earlier i h);
    atoms = λ i j h b. rw (same i h, same j b) (T.atoms i j h b);
  }

  pub below_alike : (ls : List ℕ) → Below n ls → All (Alike t u) ls
  below_alike ls b = all_imply (λ l. l < 2 * n) (Alike t u) (λ l h. same (l / 2) (omega arith)) ls b

  pub below_closed : Table n t → Closed n t u
  below_closed T i h e = all_imply (λ l. l / 2 < i) (Alike t u) (λ l b. same (l / 2) (omega arith)) (operands (t i)) (T.earlier i h)

  module _ (goals : List ℕ) where
    pub clauses_same : (G : List ℕ) → Good n G → clauses (expand t) goals G ≡ clauses (expand u) goals G
    clauses_same G g = clauses-alike t u goals G (below_alike G (good_below n G g))

    pub search-same : Table n t → Below n goals → tree (expand t) goals n [] ≡ tree (expand u) goals n []
    search-same T B = search_alike n t u T (below_closed T) goals (below_alike goals B) B n (omega arith)
