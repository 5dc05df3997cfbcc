-- Laws of the edges' places as they are given from the highest node down. Assumes nothing.
use mathlib.Core.Path.{◌≡◌, refl, sym, ap, ◌∙◌, subst}
use mathlib.Core.Logic.{◌⊎◌, inl, inr}
use mathlib.Core.List.{List}
use Prim.Native.Nat.{ℕ, zero, suc, ◌+◌, ◌*◌, ◌/◌, ◌<◌, ◌≤◌}
use native.Mathlib.Omega.{arith}
use native.Mathlib.Decide.{ℕ_discrete}
use lib.ListN.{length, get_or, length-set}
use borrow.Author.Tests.{eq-eqb, ne_eqb}
use Rattle.scope.specs.declared.Node.{Node}
use Rattle.scope.specs.Table.{operands, node_at}
use Rattle.scope.proofs.Operands.{operands-none}
use Rattle.calculus.specs.Model.{All, Below}
use Rattle.calculus.proofs.Lists.{all_imply}
use Rattle.index.specs.declared.Descent.{Descent}
use Rattle.index.specs.Index.{index_size, most_nodes, first_at, mid_at, end_at, edges_at, codes_at, index_node, stored}
use Rattle.index.specs.Edges.{first_of, mid_of, end_of}
use Rattle.index.specs.Built.{Early, Records, sum, pairs_in, threes_in, pairs_to, threes_to, Counted, count_node, Chain, Placing}
use Rattle.index.specs.Marks.{bare, mark_all, placed_at, met_at, Wanted, passed, descended, sunk, top, Fits, Flagged, Unfilled}
use Rattle.index.proofs.Sums.{sum-zero, sum_same, sum_plus, sum-part, node-four, brings_none, brings_nothing, early_none}
use Rattle.index.proofs.Counts.{counted-by, count_same, count_other}
use Rattle.index.proofs.Chains.{chain_none, chain_more, chain_over, chain_same}
use Rattle.index.proofs.Nodes.{stored_other}
use Rattle.index.proofs.Marks.{marks_kept, marks_stand, marks_other, flags_marked, placed_other, placed_first, placed-mid, placed_end, marking, marking-size, marking-node, marking-places, Sinking, sinks_none, sinks_passed}

-- ---- what passing node p, which is then y, does to the places and the counts

-- it is in the chain, or left out
abbrev Link : ℕ → Descent → Node → Descent → List ℕ → Type 0
Link p d y d' x' = ((first_of x' p ≡ d.last) × (d'.last ≡ p)) ⊎ ((y.kind < 3) × (first_of x' p ≡ mid_of x' p) × (d'.last ≡ d.last))

pub record Moved (p : ℕ) (d : Descent) (y : Node) (x : List ℕ) (d' : Descent) (x' : List ℕ) : Type 0 where
  pub node : index_node x' p ≡ y
  pub nodes : (m : ℕ) → p < m → m < most_nodes → index_node x' m ≡ index_node x m
  -- nodes that are not met yet: what y brings is counted, where it is marked
  pub first_before : (m : ℕ) → m < p → first_of x' m ≡ first_of x m
  pub mid_before : (m : ℕ) → m < p → mid_of x' m ≡ mid_of x m + pairs_in y m
  pub end_before : (m : ℕ) → m < p → end_of x' m ≡ end_of x m + threes_in y m
  pub marks : (m : ℕ) → m < p → get_or x' (4 * m) 0 ≡ 0 → (get_or x (4 * m) 0 ≡ 0) × (pairs_in y m ≡ 0) × (threes_in y m ≡ 0)
  -- the node itself: its places, from the start on where it has edges
  pub end : end_of x' p ≡ mid_of x' p + mid_of x p
  pub start : 0 < mid_of x p + end_of x p → mid_of x' p ≡ d.start
  pub low : mid_of x' p ≤ d.start
  pub next : d'.start ≡ d.start + (mid_of x p + end_of x p)
  pub link : Link p d y d' x'
  -- nodes that were met
  pub behind : (m : ℕ) → p < m → m < most_nodes → (first_of x' m ≡ first_of x m) × (mid_of x' m ≡ mid_of x m) × (end_of x' m ≡ end_of x m)

-- ---- there is room

-- the numbers that are counted for the first p nodes
abbrev counted : List ℕ → ℕ → ℕ
counted x i = mid_of x i + end_of x i

fits_moved : {p : ℕ} {d : Descent} {y : Node} {x : List ℕ} {d' : Descent} {x' : List ℕ} → p < most_nodes → Moved p d y x d' x' → Fits (suc p) d x → Fits p d' x'
unfolding sum
fits_moved {p} {d} {y} {x} {d'} {x'} few M f =
    let g : ℕ → ℕ = λ i. pairs_in y i + threes_in y i in
    let e : sum (counted x') p ≡ sum (λ i. counted x i + g i) p = sum_same (counted x') (λ i. counted x i + g i) p
    (λ i h. omega (arith, M.mid_before i h, M.end_before i h)) in
    (omega (arith, f.0, e, sum_plus (λ i. counted x i + g i) (counted x) g (λ i. refl) p, node-four y p, M.next), go M.link)
  where
    go : Link p d y d' x' → d'.last ≤ most_nodes
    go (inl (e, l)) = omega (arith, l, few)
    go (inr (b, e, l)) = omega (arith, l, f.1)

-- .. for fewer nodes too
pub fits_fewer : (d : Descent) (x : List ℕ) (r e : ℕ) → r ≤ e → Fits e d x → Fits r d x
fits_fewer d x r e h f = go (ℕ_discrete r e)
  where
    go : Dec (r ≡ e) → Fits r d x
    go (yes q) = rw q f
    go (no q) = (omega (arith, f.0, h, sum-part (counted x) r e (omega (arith, h, q))), f.1)

-- ---- a node that is not marked

module _ (x : List ℕ) (p : ℕ) (d : Descent) (e : get_or x (4 * p) 0 ≡ 0) where
  bare_kind : (index_node x p).kind < 3
  unfolding index_node
  bare_kind = omega (arith, e)

  moved_bare : first_of x p ≡ 0 → mid_of x p ≡ 0 → end_of x p ≡ 0 → Moved p d (index_node x p) x d x
  moved_bare a b c = record {
    node = refl;
    nodes = λ m h l. refl;
    first_before = λ m h. refl;
    mid_before = λ m h. omega (arith, (brings_none (index_node x p) m bare_kind).0);
    end_before = λ m h. omega (arith, (brings_none (index_node x p) m bare_kind).1);
    marks = λ m h e. (e, (brings_none (index_node x p) m bare_kind).0, (brings_none (index_node x p) m bare_kind).1);
    end = omega (arith, b, c);
    start = λ h. absurd (omega (arith, h, b, c));
    low = omega (arith, b);
    next = omega (arith, b, c);
    link = inr (bare_kind, omega (arith, a, b), refl);
    behind = λ m h l. (refl, refl, refl);
  }

-- ---- a marked node

module _ (t x : List ℕ) (d : Descent) (p : ℕ) (few : p < most_nodes) (z : length x ≡ index_size) (a : All (λ l. l / 2 < p) (operands (node_at t p)))
    (k : 0 < (node_at t p).kind) where
  abbrev y : Node
  y = node_at t p

  abbrev x₂ : List ℕ
  x₂ = marking t x d p

  abbrev x₃ : List ℕ
  x₃ = count_node x₂ y

  low : All (λ l. l / 2 < most_nodes) (operands y)
  low = all_imply (λ l. l / 2 < p) (λ l. l / 2 < most_nodes) (λ l h. omega (arith, h)) (operands y) a

  -- what its edges raise
  raises : Counted (index_node x₂) most_nodes (λ m. mid_of x₂ m + pairs_in y m) (λ m. end_of x₂ m + threes_in y m) x₃
  raises = counted-by (omega arith) record { size = marking-size t x d p few z a; nodes = λ m h. refl; mid = λ m h. refl; end = λ m h. refl } y low

  -- .. is none of its own, nor of a later node
  brings : (m : ℕ) → p ≤ m → (pairs_in y m ≡ 0) × (threes_in y m ≡ 0)
  brings m h = brings_nothing y m (all_imply (λ l. l / 2 < p) (λ l. l / 2 ≡ m → ⊥) (λ l b e. omega (arith, b, e)) (operands y) a)

  first-is : (m : ℕ) → m < most_nodes → first_of x₃ m ≡ first_of (placed_at x p d) m
  first-is m h = count_same x₂ y (first_at + m) (omega arith) ∙ marking-places t x d p few z a (first_at + m) (omega arith) (omega arith)

  mid_is : (m : ℕ) → m < most_nodes → mid_of x₃ m ≡ mid_of (placed_at x p d) m + pairs_in y m
  mid_is m h = omega (arith, raises.mid m h, marking-places t x d p few z a (mid_at + m) (omega arith) (omega arith))

  end_is : (m : ℕ) → m < most_nodes → end_of x₃ m ≡ end_of (placed_at x p d) m + threes_in y m
  end_is m h = omega (arith, raises.end m h, marking-places t x d p few z a (end_at + m) (omega arith) (omega arith))

  -- another node's places
  kept : (m : ℕ) → (m ≡ p → ⊥) → m < most_nodes → (first_of (placed_at x p d) m ≡ first_of x m) × (mid_of (placed_at x p d) m ≡ mid_of x m)
      × (end_of (placed_at x p d) m ≡ end_of x m)
  kept m e h = (
    placed_other x p d (first_at + m) (λ q. e (omega (arith, q))) (λ q. omega (arith, q)) (λ q. omega (arith, q)),
    placed_other x p d (mid_at + m) (λ q. omega (arith, q)) (λ q. e (omega (arith, q))) (λ q. omega (arith, q)),
    placed_other x p d (end_at + m) (λ q. omega (arith, q)) (λ q. omega (arith, q)) (λ q. e (omega (arith, q))),
  )

  -- behind its own cells no number of a node has changed
  stays : (i : ℕ) → 4 * p + 4 ≤ i → i < first_at → get_or x₃ i 0 ≡ get_or x i 0
  stays i h l =
      count_same x₂ y i (omega arith)
      ∙ marks_other (stored (placed_at x p d) p y) (operands y) i (omega arith) (all_imply (λ l. l / 2 < p) _ (λ l b q. omega (arith, q, b)) (operands y) a)
      ∙ stored_other (placed_at x p d) p y i (λ b c. omega arith)
      ∙ placed_other x p d i (λ q. omega (arith, q)) (λ q. omega (arith, q)) (λ q. omega (arith, q))

  node_stays : (m : ℕ) → p < m → m < most_nodes → index_node x₃ m ≡ index_node x m
  unfolding index_node
  node_stays m h l = rw (
    stays (4 * m) (omega arith) (omega arith),
    stays (4 * m + 1) (omega arith) (omega arith),
    stays (4 * m + 2) (omega arith) (omega arith),
    stays (4 * m + 3) (omega arith) (omega arith),
  )

  -- a node that is not marked was not, and is not one of its operands'
  unmarked : (m : ℕ) → m < p → get_or x₃ (4 * m) 0 ≡ 0 → (get_or x (4 * m) 0 ≡ 0) × (pairs_in y m ≡ 0) × (threes_in y m ≡ 0)
  unmarked m h e =
      let w = stored (placed_at x p d) p y in
      let e₂ : get_or x₂ (4 * m) 0 ≡ 0 = sym (count_same x₂ y (4 * m) (omega arith)) ∙ e in
      let z₁ : length w ≡ index_size = marked-size in
      let n = brings_nothing y m (apart (operands y) (marks_stand w (operands y) z₁ low) e₂) in
      (go (ℕ_discrete (get_or x (4 * m) 0) 0) z₁ e₂, n.0, n.1)
    where
      marked-size : length (stored (placed_at x p d) p y) ≡ index_size
      marked-size = simp length-set z

      before : get_or (stored (placed_at x p d) p y) (4 * m) 0 ≡ get_or x (4 * m) 0
      before = stored_other (placed_at x p d) p y (4 * m) (λ b c. omega arith) ∙ placed_other x p d (4 * m) (λ q. omega (arith, q))
          (λ q. omega (arith, q)) (λ q. omega (arith, q))

      go : Dec (get_or x (4 * m) 0 ≡ 0) → length (stored (placed_at x p d) p y) ≡ index_size → get_or x₂ (4 * m) 0 ≡ 0 → get_or x (4 * m) 0 ≡ 0
      go (yes e) q r = e
      go (no e) q r = absurd (omega (arith, r, marks_kept (stored (placed_at x p d) p y) (operands y) (4 * m) q low (omega (arith, before, e))))

      apart : (ls : List ℕ) → All (λ l. 0 < get_or x₂ (4 * (l / 2)) 0) ls → get_or x₂ (4 * m) 0 ≡ 0 → All (λ l. l / 2 ≡ m → ⊥) ls
      apart ls b r = all_imply (λ l. 0 < get_or x₂ (4 * (l / 2)) 0) (λ l. l / 2 ≡ m → ⊥)
          (λ l c q. omega (arith, ap (λ (i : ℕ). get_or x₂ (4 * i) 0) q, r, c)) ls b

  moved_node : Moved p d y x (met_at x d p) x₃
  moved_node = record {
    node = nodes_at ∙ marking-node t x d p few z a k;
    nodes = node_stays;
    first_before = λ m h. first-is m (omega arith) ∙ (kept m (λ q. omega (arith, q)) (omega arith)).0;
    mid_before = λ m h. omega (arith, mid_is m (omega arith), (kept m (λ q. omega (arith, q)) (omega arith)).1);
    end_before = λ m h. omega (arith, end_is m (omega arith), (kept m (λ q. omega (arith, q)) (omega arith)).2);
    marks = unmarked;
    end = omega (arith, end_is p few, placed_end x p d few z, (brings p (omega arith)).1, own);
    start = λ h. own;
    low = omega (arith, own);
    next = refl;
    link = inl (first-is p few ∙ placed_first x p d few z, refl);
    behind = λ m h l.
        let k = kept m (λ q. omega (arith, q, h)) l in
        let b = brings m (omega (arith, h)) in
        (first-is m l ∙ k.0, omega (arith, mid_is m l, k.1, b.0), omega (arith, end_is m l, k.2, b.1));
  }
    where
      nodes_at : index_node x₃ p ≡ index_node x₂ p
      nodes_at = raises.nodes p few

      own : mid_of x₃ p ≡ d.start
      own = omega (arith, mid_is p few, placed-mid x p d few z, (brings p (omega arith)).0)

-- ---- on the way down, before node p - 1: the nodes from p on have their places, the edges from them are counted

-- nodes that are those of x from p on, with operands of earlier nodes
abbrev From : (ℕ → Node) → ℕ → ℕ → List ℕ → Type 0
From u n p x = ((m : ℕ) → p ≤ m → m < n → u m ≡ index_node x m) × Early u n

pub record Down (u : ℕ → Node) (n p s : ℕ) (x : List ℕ) : Type 0 where
  pub mid_left : (m : ℕ) → m < p → mid_of x m + pairs_to u p m ≡ pairs_to u n m
  pub end-left : (m : ℕ) → m < p → end_of x m + threes_to u p m ≡ threes_to u n m
  pub end : (m : ℕ) → p ≤ m → m < n → end_of x m ≡ mid_of x m + pairs_to u n m
  pub low : (m : ℕ) → p ≤ m → m < n → mid_of x m + (pairs_to u n m + threes_to u n m) ≤ s
  pub apart : (m d k e : ℕ) → p ≤ m → m < n → p ≤ k → k < n → (m ≡ k → ⊥) → d < pairs_to u n m + threes_to u n m → e < pairs_to u n k + threes_to u n k
      → mid_of x m + d ≡ mid_of x k + e → ⊥

pub record Falling (n p : ℕ) (d : Descent) (x : List ℕ) : Type 0 where
  pub fits : Fits p d x
  pub first : (m : ℕ) → m < p → first_of x m ≡ 0
  pub blank : (m : ℕ) → m < p → get_or x (4 * m) 0 ≡ 0 → (mid_of x m ≡ 0) × (end_of x m ≡ 0)
  pub edges : (u : ℕ → Node) → From u n p x → Down u n p d.start x
  pub chained : Chain (index_node x) (mid_of x) (first_of x) n p d.last

module _ {u : ℕ → Node} {n p : ℕ} {w : Descent} {y : Node} {x : List ℕ} {w' : Descent} {x' : List ℕ} (few : n ≤ most_nodes) (h : p < n)
    (M : Moved p w y x w' x')
    (f : From u n p x') (D : Down u n (suc p) w.start x) where
  is : u p ≡ y
  is = f.0 p (omega arith) h ∙ M.node

  pairs_next : (m : ℕ) → pairs_to u (suc p) m ≡ pairs_to u p m + pairs_in y m
  unfolding sum
  pairs_next m = ap (λ (w : Node). pairs_to u p m + pairs_in w m) is

  threes_next : (m : ℕ) → threes_to u (suc p) m ≡ threes_to u p m + threes_in y m
  unfolding sum
  threes_next m = ap (λ (w : Node). threes_to u p m + threes_in w m) is

  -- its own edges are all counted
  pairs_own : mid_of x p ≡ pairs_to u n p
  pairs_own = omega (arith, D.mid_left p (omega arith), (early_none u n f.1 p (suc p) (omega arith) (omega arith)).0)

  threes_own : end_of x p ≡ threes_to u n p
  threes_own = omega (arith, D.end-left p (omega arith), (early_none u n f.1 p (suc p) (omega arith) (omega arith)).1)

  from : (P : ℕ → Type 0) → P p → ((m : ℕ) → p < m → m < n → P m) → (m : ℕ) → p ≤ m → m < n → P m
  from P own later m a b = go (ℕ_discrete m p)
    where
      go : Dec (m ≡ p) → P m
      go (yes e) = subst P (sym e) own
      go (no d) = later m (omega (arith, a, d)) b

  new_apart : (d k e : ℕ) → p < k → k < n → d < pairs_to u n p + threes_to u n p → e < pairs_to u n k + threes_to u n k → mid_of x' p + d ≡ mid_of x' k + e → ⊥
  new_apart d k e a b l r q =
      omega (arith, q, r, M.start (omega (arith, l, pairs_own, threes_own)), (M.behind k a (omega arith)).1, D.low k (omega (arith, a)) b)

  down : Down u n p w'.start x'
  down = record {
    mid_left = λ m l. omega (arith, M.mid_before m l, D.mid_left m (omega arith), pairs_next m);
    end-left = λ m l. omega (arith, M.end_before m l, D.end-left m (omega arith), threes_next m);
    end = from (λ m. end_of x' m ≡ mid_of x' m + pairs_to u n m) (omega (arith, M.end, pairs_own))
        (λ m a b. omega (arith, M.behind m a (omega arith), D.end m (omega (arith, a)) b));
    low = from (λ m. mid_of x' m + (pairs_to u n m + threes_to u n m) ≤ w'.start) (omega (arith, M.low, M.next, pairs_own, threes_own))
        (λ m a b. omega (arith, M.behind m a (omega arith), D.low m (omega (arith, a)) b, M.next));
    apart = λ m d k e a b a' b' c l r q. go m d k e a b a' b' c l r q (ℕ_discrete m p) (ℕ_discrete k p);
  }
    where
      go : (m d k e : ℕ) → p ≤ m → m < n → p ≤ k → k < n → (m ≡ k → ⊥) → d < pairs_to u n m + threes_to u n m → e < pairs_to u n k + threes_to u n k
          → mid_of x' m + d ≡ mid_of x' k + e → Dec (m ≡ p) → Dec (k ≡ p) → ⊥
      go m d k e a b a' b' c l r q (yes i) (yes j) = c (i ∙ sym j)
      go m d k e a b a' b' c l r q (yes i) (no j) =
          new_apart d k e (omega (arith, a', j)) b' (subst (λ (i : ℕ). d < pairs_to u n i + threes_to u n i) i l) r
          (subst (λ (i : ℕ). mid_of x' i + d ≡ mid_of x' k + e) i q)
      go m d k e a b a' b' c l r q (no i) (yes j) =
          new_apart e m d (omega (arith, a, i)) b (subst (λ (i : ℕ). e < pairs_to u n i + threes_to u n i) j r) l
          (subst (λ (i : ℕ). mid_of x' i + e ≡ mid_of x' m + d) j (sym q))
      go m d k e a b a' b' c l r q (no i) (no j) =
          D.apart m d k e (omega (arith, a, i)) b (omega (arith, a', j)) b' c l r
          (omega (arith, q, (M.behind m (omega (arith, a, i)) (omega arith)).1, (M.behind k (omega (arith, a', j)) (omega arith)).1))

-- the chain goes on with node p, or leaves it out
chain_moved : {n p : ℕ} {d : Descent} {y : Node} {x : List ℕ} {d' : Descent} {x' : List ℕ} → n ≤ most_nodes → p < n → Moved p d y x d' x'
    → Chain (index_node x) (mid_of x) (first_of x) n (suc p) d.last → Chain (index_node x') (mid_of x') (first_of x') n p d'.last
chain_moved {n} {p} {d} {y} {x} {d'} {x'} few h M c = go M.link
  where
    kept : Chain (index_node x') (mid_of x') (first_of x') n (suc p) d.last
    kept = chain_same (λ m a b.
        let l = M.behind m a (omega (arith, b, few)) in
        (M.nodes m a (omega (arith, b, few)), l.1, l.0)) c

    go : Link p d y d' x' → Chain (index_node x') (mid_of x') (first_of x') n p d'.last
    go (inl (e, l)) = rw l (chain_more p h (rw e kept))
    go (inr (b, e, l)) = rw l (chain_over (rw M.node b) e kept)

falls_moved : {n p : ℕ} {d : Descent} {y : Node} {x : List ℕ} {d' : Descent} {x' : List ℕ} → n ≤ most_nodes → p < n → Moved p d y x d' x'
    → Falling n (suc p) d x → Falling n p d' x'
falls_moved {n} {p} {d} {y} {x} {d'} {x'} few h M F = record {
  fits = fits_moved (omega (arith, h, few)) M F.fits;
  first = λ m l. M.first_before m l ∙ F.first m (omega arith);
  blank = λ m l e.
      let k = M.marks m l e in
      let b = F.blank m (omega arith) k.0 in
      (omega (arith, M.mid_before m l, b.0, k.1), omega (arith, M.end_before m l, b.1, k.2));
  edges = λ u f. down few h M f (F.edges u (λ m a b. f.0 m (omega (arith, a)) b ∙ M.nodes m a (omega (arith, b)), f.1));
  chained = chain_moved few h M F.chained;
}

module _ (t x : List ℕ) (d : Descent) (p : ℕ) (few : p < most_nodes) (z : length x ≡ index_size) (a : All (λ l. l / 2 < p) (operands (node_at t p)))
    (k : 0 < (node_at t p).kind) where
  pub fits_passed : Wanted x p → Fits (suc p) d x → Fits p (descended x d p) (passed t x d p)
  unfolding passed descended
  fits_passed w f = rw (ne_eqb (get_or x (4 * p) 0) 0 (λ q. omega (arith, q, w))) (fits_moved few (moved_node t x d p few z a k) f)

  falls-passed : {n : ℕ} → n ≤ most_nodes → p < n → Falling n (suc p) d x → Falling n p (descended x d p) (passed t x d p)
  unfolding passed descended
  falls-passed {n} l h F = go (ℕ_discrete (get_or x (4 * p) 0) 0)
    where
      go : Dec (get_or x (4 * p) 0 ≡ 0) → Falling n p (descended x d p) (passed t x d p)
      go (yes e) =
          let b = F.blank p (omega arith) e in
          rw (eq-eqb (get_or x (4 * p) 0) 0 e) (falls_moved l h (moved_bare x p d e (F.first p (omega arith)) b.0 b.1) F)
      go (no e) = rw (ne_eqb (get_or x (4 * p) 0) 0 e) (falls_moved l h (moved_node t x d p few z a k) F)

-- flags stay, and what is marked is flagged
pub flags_passed : (t x : List ℕ) (d : Descent) (p : ℕ) → p < most_nodes → length x ≡ index_size → All (λ l. l / 2 < p) (operands (node_at t p))
    → Wanted x p → Flagged (suc p) x → Flagged p (passed t x d p)
unfolding passed
flags_passed t x d p few z a w f =
    rw (ne_eqb (get_or x (4 * p) 0) 0 (λ q. omega (arith, q, w)))
    (λ m h. rw (kept (4 * m) (inl (omega arith)), kept (codes_at + m / 63) (inr (omega arith)))
    (flags_marked p y (operands (node_at t p)) size low (omega arith) before m h))
  where
    y : List ℕ
    y = stored (placed_at x p d) p (node_at t p)

    size : length y ≡ index_size
    size = simp length-set z

    low : All (λ l. l / 2 < most_nodes) (operands (node_at t p))
    low = all_imply (λ l. l / 2 < p) (λ l. l / 2 < most_nodes) (λ l h. omega (arith, h)) (operands (node_at t p)) a

    other : (i : ℕ) → (4 * p ≤ i → i < 4 * p + 4 → ⊥) → (i < first_at) ⊎ (codes_at ≤ i) → get_or y i 0 ≡ get_or x i 0
    other i n o = stored_other (placed_at x p d) p (node_at t p) i n ∙ go o
      where
        go : (i < first_at) ⊎ (codes_at ≤ i) → get_or (placed_at x p d) i 0 ≡ get_or x i 0
        go (inl h) = placed_other x p d i (λ q. omega (arith, q)) (λ q. omega (arith, q)) (λ q. omega (arith, q))
        go (inr h) = placed_other x p d i (λ q. omega (arith, q)) (λ q. omega (arith, q)) (λ q. omega (arith, q))

    before : Flagged p y
    before m h = rw (other (4 * m) (λ b c. omega arith) (inl (omega arith)), other (codes_at + m / 63) (λ b c. omega arith) (inr (omega arith)))
        (f m (omega arith))

    kept : (i : ℕ) → (i < mid_at) ⊎ (codes_at ≤ i) → get_or (count_node (mark_all y (operands (node_at t p))) (node_at t p)) i 0
        ≡ get_or (mark_all y (operands (node_at t p))) i 0
    kept i (inl h) = count_same (mark_all y (operands (node_at t p))) (node_at t p) i h
    kept i (inr h) =
        count_other (mark_all y (operands (node_at t p))) (node_at t p) i
        (all_imply (λ l. l / 2 < p) (λ l. (i ≡ mid_at + l / 2 → ⊥) × (i ≡ end_at + l / 2 → ⊥))
        (λ l b. (λ q. omega (arith, q, b), λ q. omega (arith, q, b))) (operands (node_at t p)) a)

-- nothing is met
pub fits_none : (n : ℕ) (x : List ℕ) → n ≤ most_nodes → ((i : ℕ) → first_at ≤ i → i < edges_at → get_or x i 0 ≡ 0) → Fits n (top n) x
fits_none n x few none =
    let e : sum (counted x) n ≡ sum (λ i. 0) n = sum_same (counted x) (λ i. 0) n
    (λ i h. omega (arith, none (mid_at + i) (omega arith) (omega (arith, h, few)), none (end_at + i) (omega arith) (omega (arith, h, few)))) in
    (omega (arith, e, sum-zero (λ i. 0) (λ i. refl) n), few)

falls-none : (n : ℕ) (x : List ℕ) → n ≤ most_nodes → ((i : ℕ) → first_at ≤ i → i < edges_at → get_or x i 0 ≡ 0) → Falling n n (top n) x
falls-none n x few none = record {
  fits = fits_none n x few none;
  first = λ m h. none (first_at + m) (omega arith) (omega (arith, h, few));
  blank = λ m h e. (none (mid_at + m) (omega arith) (omega (arith, h, few)), none (end_at + m) (omega arith) (omega (arith, h, few)));
  edges = λ u f. record {
    mid_left = λ m h. omega (arith, none (mid_at + m) (omega arith) (omega (arith, h, few)));
    end-left = λ m h. omega (arith, none (end_at + m) (omega arith) (omega (arith, h, few)));
    end = λ m a h. absurd (omega (arith, a, h));
    low = λ m a h. absurd (omega (arith, a, h));
    apart = λ m d k e a h. absurd (omega (arith, a, h));
  };
  chained = chain_none;
}

-- ---- all are met

-- the nodes are there, and their edges have places
record Sunk (t ls : List ℕ) (n : ℕ) (r : List ℕ × Descent) : Type 0 where
  sinking : Sinking t ls n 0 r.0
  falling : Falling n 0 r.1 r.0

sinks : (t ls : List ℕ) (n p : ℕ) (d : Descent) (x : List ℕ) → n ≤ most_nodes → p ≤ n → Early (node_at t) n → Records t n → Sinking t ls n p x
    → Falling n p d x → Sunk t ls n (sunk t x d p)
unfolding sunk
sinks t ls n zero d x few h a r S F = record { sinking = S; falling = F }
sinks t ls n (suc p) d x few h a r S F =
    sinks t ls n p (descended x d p) (passed t x d p) few (omega arith) a r
    (sinks_passed t ls n p d x S few (omega arith) (a p (omega arith)) (r p (omega arith)).1)
    (falls-passed t x d p (omega arith) S.size (a p (omega arith)) (r p (omega arith)).1 few (omega arith) F)

-- the literals are marked: marks are before the places, and flags behind the edges
pub marks_zeros : (n : ℕ) (x ls : List ℕ) → n ≤ most_nodes → Below n ls → Unfilled x → (i : ℕ) → first_at ≤ i → i < edges_at → get_or (mark_all x ls) i 0 ≡ 0
marks_zeros n x ls few b none i h l = marks_other x ls i (omega arith) (all_imply (λ l. l < 2 * n) _ (λ l c q. omega (arith, q, c, few, h)) ls b) ∙ none i l

-- operands are of earlier nodes
sunk_early : (t ls : List ℕ) (n : ℕ) (x : List ℕ) → Early (node_at t) n → Sinking t ls n 0 x → Early (index_node x) n
sunk_early t ls n x a S m h = go (S.nodes m (omega arith) h)
  where
    go : (index_node x m ≡ node_at t m) ⊎ (index_node x m ≡ bare) → All (λ l. l / 2 < m) (operands (index_node x m))
    go (inl e) = rw e (a m h)
    go (inr e) = rw (e, operands-none bare (omega arith)) tt

sunk_placing : (t ls : List ℕ) (n : ℕ) (r : List ℕ × Descent) → Early (node_at t) n → Sunk t ls n r → Placing n r.1.last r.0
unfolding sum
sunk_placing t ls n (x, d) a S =
    let F = S.falling in
    let early = sunk_early t ls n x a S.sinking in
    let D = F.edges (index_node x) (λ m b h. refl, early) in (
      index_node x,
      early,
      record {
        size = S.sinking.size;
        nodes = λ m h. refl;
        starts = record {
          low = λ m h. omega (arith, D.low m (omega arith) h, F.fits.0);
          apart = λ m d k e h b. D.apart m d k e (omega arith) h (omega arith) b;
        };
        end = λ m h. D.end m (omega arith) h;
        chained = F.chained;
      },
    )

pub sinks_whole : (t ls : List ℕ) (n : ℕ) (x x₁ x₂ : List ℕ) (head : ℕ) → n ≤ most_nodes → Records t n → Early (node_at t) n → Below n ls
    → length x ≡ index_size → Unfilled x
    → x₁ ≡ mark_all x ls → x₂ ≡ (sunk t x₁ (top n) n).0 → head ≡ (sunk t x₁ (top n) n).1.last → Sinking t ls n 0 x₂ × Placing n head x₂
sinks_whole t ls n x x₁ x₂ head few r a b z none e f g =
    let y = mark_all x ls in
    let S = sinks t ls n n (top n) y few (omega arith) a r (sinks_none t ls n x few b z none) (falls-none n y few (marks_zeros n x ls few b none)) in
    rw (f, g, e) (S.sinking, sunk_placing t ls n (sunk t y (top n) n) a S)
