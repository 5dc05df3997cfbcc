-- Laws of putting the edges at their places, one after another. Assumes nothing.
use mathlib.Core.Path.{◌≡◌, refl, sym, ap, ◌∙◌, fun_ext, subst}
use mathlib.Core.Logic.{◌⊎◌, inl, inr, ⊎_elim}
use mathlib.Core.List.{List}
use Prim.Native.Nat.{ℕ, ◌+◌, ◌*◌, ◌/◌, ◌%◌, ◌<◌, ◌≤◌}
use native.Mathlib.Omega.{arith}
use native.Mathlib.Decide.{ℕ_discrete, dec_lt}
use lib.ListN.{length, get_or, set, length-set}
use lib.Seq.{get_or-set_same, get_or-set_other}
use Rattle.scope.specs.declared.Node.{Node}
use Rattle.index.specs.Index.{index_size, most_nodes, most_edges, first_at, mid_at, end_at, edges_at}
use Rattle.index.specs.Edges.{mid_of, end_of, edge_at, parent_of, type_of, other_of, Pair, Triple}
use Rattle.index.specs.Built.{Agree, is, pairs_to, threes_to, Starts}
use Rattle.index.proofs.Sums.{is_own}
use Rattle.index.proofs.Counts.{agree_same, each}

-- node m has an edge from q, where u and v numbers of its edges stand
abbrev pub Has : (ℕ → Node) → ℕ → (ℕ → ℕ) → (ℕ → ℕ) → (ℕ → ℕ) → List ℕ → ℕ → ℕ → Type 0
Has t n S u v x m q =
    ((j : ℕ) × (2 * j < u m) × (parent_of x (S m + 2 * j) ≡ q))
    ⊎ ((j : ℕ) × (j < v m) × (edge_at x (S m + (pairs_to t n m + j)) ≡ q))

-- u and v numbers of each node's edges stand at its places, those of D among them
pub record Filled (t : ℕ → Node) (n : ℕ) (S u v : ℕ → ℕ) (D : ℕ → ℕ → Type 0) (x : List ℕ) : Type 0 where
  pub size : length x ≡ index_size
  pub nodes : Agree t n x
  pub starts : Starts t n S
  pub even : (m : ℕ) → u m % 2 ≡ 0
  pub pairs_few : (m : ℕ) → m < n → u m ≤ pairs_to t n m
  pub threes_few : (m : ℕ) → m < n → v m ≤ threes_to t n m
  pub mid : (m : ℕ) → m < n → mid_of x m ≡ S m + u m
  pub end : (m : ℕ) → m < n → end_of x m ≡ S m + (pairs_to t n m + v m)
  pub pairs : (m j : ℕ) → m < n → 2 * j < u m
      → Pair t n m (parent_of x (S m + 2 * j)) (type_of x (S m + 2 * j)) (other_of x (S m + 2 * j))
  pub threes : (m j : ℕ) → m < n → j < v m → Triple t n (edge_at x (S m + (pairs_to t n m + j)))
  pub has : (m q : ℕ) → m < n → D m q → Has t n S u v x m q

-- the same said otherwise
pub filled_as : {t : ℕ → Node} {n : ℕ} {S u v u' v' : ℕ → ℕ} {D E : ℕ → ℕ → Type 0} {x : List ℕ} → ((m : ℕ) → u m ≡ u' m) → ((m : ℕ) → v m ≡ v' m)
    → ((m q : ℕ) → m < n → E m q → D m q) → Filled t n S u v D x → Filled t n S u' v' E x
filled_as {t} {n} {S} {u} {v} {u'} {v'} {D} {E} {x} e f g F =
    subst (λ (w : ℕ → ℕ). Filled t n S w v' E x) (fun_ext e) (subst (λ (w : ℕ → ℕ). Filled t n S u w E x) (fun_ext f) record {
      size = F.size;
      nodes = F.nodes;
      starts = F.starts;
      even = F.even;
      pairs_few = F.pairs_few;
      threes_few = F.threes_few;
      mid = F.mid;
      end = F.end;
      pairs = F.pairs;
      threes = F.threes;
      has = λ m q h d. F.has m q h (g m q h d);
    })

-- no first place counts
pub filled_first : {t : ℕ → Node} {n : ℕ} {S u v : ℕ → ℕ} {D : ℕ → ℕ → Type 0} {x : List ℕ} → n ≤ most_nodes → (p w : ℕ) → p < n
    → Filled t n S u v D x → Filled t n S u v D (set x (first_at + p) w)
filled_first {t} {n} {S} {u} {v} {D} {x} few p w h F = record {
  size = length-set x (first_at + p) w ∙ F.size;
  nodes = agree_same x _ few (λ i b. other i (λ q. omega (arith, q))) F.nodes;
  starts = F.starts;
  even = F.even;
  pairs_few = F.pairs_few;
  threes_few = F.threes_few;
  mid = λ m b. other (mid_at + m) (λ q. omega (arith, q)) ∙ F.mid m b;
  end = λ m b. other (end_at + m) (λ q. omega (arith, q)) ∙ F.end m b;
  pairs = λ m j b c. rw (edge (S m + 2 * j), edge (S m + 2 * j + 1)) (F.pairs m j b c);
  threes = λ m j b c. rw (edge (S m + (pairs_to t n m + j))) (F.threes m j b c);
  has = λ m q b d. old m q (F.has m q b d);
}
  where
    other : (i : ℕ) → (i ≡ first_at + p → ⊥) → get_or (set x (first_at + p) w) i 0 ≡ get_or x i 0
    other i d = get_or-set_other x (first_at + p) i w 0 d

    edge : (k : ℕ) → edge_at (set x (first_at + p) w) k ≡ edge_at x k
    edge k = other (edges_at + k) (λ q. omega (arith, q))

    old : (m q : ℕ) → Has t n S u v x m q → Has t n S u v (set x (first_at + p) w) m q
    old m q (inl (j, c, z)) = inl (j, c, ap (◌% 2048) (edge (S m + 2 * j)) ∙ z)
    old m q (inr (j, c, z)) = inr (j, c, edge (S m + (pairs_to t n m + j)) ∙ z)

module _ {t : ℕ → Node} {n : ℕ} {S u v : ℕ → ℕ} {D : ℕ → ℕ → Type 0} {x : List ℕ} (few : n ≤ most_nodes) (F : Filled t n S u v D x)
    (p l : ℕ) (h : l / 2 < n) where
  abbrev L : ℕ → ℕ
  L m = pairs_to t n m

  abbrev W : ℕ → ℕ
  W m = threes_to t n m

  abbrev More : ℕ → ℕ → Type 0
  More m q = D m q ⊎ ((m ≡ l / 2) × (q ≡ p))

  -- ---- an edge of two numbers
  module _ (o y : ℕ) (room : u (l / 2) + 2 ≤ L (l / 2)) (low : p < n) (new : Pair t n (l / 2) p (y + l % 2) o) where
    abbrev k : ℕ
    k = mid_of x (l / 2)

    abbrev e : ℕ
    e = p + 2048 * (y + l % 2)

    abbrev x₁ : List ℕ
    x₁ = set x (mid_at + l / 2) (k + 2)

    abbrev x₂ : List ℕ
    x₂ = set x₁ (edges_at + k) e

    abbrev x₃ : List ℕ
    x₃ = set x₂ (edges_at + (k + 1)) o

    k-is : k ≡ S (l / 2) + u (l / 2)
    k-is = F.mid (l / 2) h

    k-low : k + 2 ≤ most_edges
    k-low = omega (arith, k-is, room, F.starts.low (l / 2) h)

    elsewhere : (i : ℕ) → (i ≡ mid_at + l / 2 → ⊥) → (i ≡ edges_at + k → ⊥) → (i ≡ edges_at + (k + 1) → ⊥) → get_or x₃ i 0 ≡ get_or x i 0
    elsewhere i a b c = get_or-set_other x₂ (edges_at + (k + 1)) i o 0 c ∙ get_or-set_other x₁ (edges_at + k) i e 0 b
        ∙ get_or-set_other x (mid_at + l / 2) i (k + 2) 0 a

    new-mid : mid_of x₃ (l / 2) ≡ k + 2
    new-mid =
        get_or-set_other x₂ (edges_at + (k + 1)) (mid_at + l / 2) o 0 (λ q. omega (arith, q))
        ∙ get_or-set_other x₁ (edges_at + k) (mid_at + l / 2) e 0 (λ q. omega (arith, q))
        ∙ get_or-set_same x (mid_at + l / 2) (k + 2) 0 (omega (arith, F.size))

    size₂ : length x₂ ≡ index_size
    size₂ = length-set x₁ (edges_at + k) e ∙ length-set x (mid_at + l / 2) (k + 2) ∙ F.size

    new-edge : edge_at x₃ k ≡ e
    new-edge =
        get_or-set_other x₂ (edges_at + (k + 1)) (edges_at + k) o 0 (λ q. omega (arith, q))
        ∙ get_or-set_same x₁ (edges_at + k) e 0 (omega (arith, length-set x (mid_at + l / 2) (k + 2), F.size, k-low))

    new-other : edge_at x₃ (k + 1) ≡ o
    new-other = get_or-set_same x₂ (edges_at + (k + 1)) o 0 (omega (arith, size₂, k-low))

    -- the numbers of other edges stay
    stays : (m d i : ℕ) → m < n → i ≡ S m + d → d < L m + W m → (m ≡ l / 2 → (d ≡ u (l / 2) → ⊥) × (d ≡ u (l / 2) + 1 → ⊥)) → edge_at x₃ i ≡ edge_at x i
    stays m d i b q c f = elsewhere (edges_at + i) (λ z. omega (arith, z, h)) (λ z. go (ℕ_discrete m (l / 2)) (inl (omega (arith, z))))
        (λ z. go (ℕ_discrete m (l / 2)) (inr (omega (arith, z))))
      where
        go : Dec (m ≡ l / 2) → (i ≡ k) ⊎ (i ≡ k + 1) → ⊥
        go (yes r) (inl z) = (f r).0 (omega (arith, z, q, k-is, ap S r))
        go (yes r) (inr z) = (f r).1 (omega (arith, z, q, k-is, ap S r))
        go (no r) (inl z) = F.starts.apart m d (l / 2) (u (l / 2)) b h r c (omega (arith, room)) (omega (arith, z, q, k-is))
        go (no r) (inr z) = F.starts.apart m d (l / 2) (u (l / 2) + 1) b h r c (omega (arith, room)) (omega (arith, z, q, k-is))

    pair-stays : (m j i : ℕ) → m < n → 2 * j < u m → (i ≡ S m + 2 * j) ⊎ (i ≡ S m + 2 * j + 1) → edge_at x₃ i ≡ edge_at x i
    pair-stays m j i b c (inl z) =
        stays m (2 * j) i b z (omega (arith, F.pairs_few m b)) (λ r. (λ q. omega (arith, q, ap u r), λ q. omega (arith, q, ap u r)))
    pair-stays m j i b c (inr z) =
        stays m (2 * j + 1) i b (omega (arith, z)) (omega (arith, F.pairs_few m b, F.even m))
        (λ r. (λ q. omega (arith, q, ap u r, F.even m), λ q. omega (arith, q, ap u r)))

    three-stays : (m j : ℕ) → m < n → j < v m → edge_at x₃ (S m + (L m + j)) ≡ edge_at x (S m + (L m + j))
    three-stays m j b c =
        stays m (L m + j) _ b refl (omega (arith, F.threes_few m b))
        (λ r. (λ q. omega (arith, q, ap L r, room), λ q. omega (arith, q, ap L r, room)))

    abbrev u' : ℕ → ℕ
    u' m = u m + 2 * is l m

    pair-kept : (m j : ℕ) → m < n → 2 * j < u m → Pair t n m (parent_of x₃ (S m + 2 * j)) (type_of x₃ (S m + 2 * j)) (other_of x₃ (S m + 2 * j))
    pair-kept m j b c = rw (pair-stays m j (S m + 2 * j) b c (inl refl), pair-stays m j (S m + 2 * j + 1) b c (inr refl)) (F.pairs m j b c)

    pair-new : Pair t n (l / 2) (parent_of x₃ k) (type_of x₃ k) (other_of x₃ k)
    pair-new =
        let a : e % 2048 ≡ p = omega (arith, low, few) in
        let b : e / 2048 ≡ y + l % 2 = omega (arith, low, few) in
        rw (new-edge, new-other, a, b) new

    pub filled-pair : Filled t n S u' v More x₃
    filled-pair = record {
      size = length-set x₂ (edges_at + (k + 1)) o ∙ size₂;
      nodes = agree_same x x₃ few (λ i b. elsewhere i (λ q. omega (arith, q)) (λ q. omega (arith, q)) (λ q. omega (arith, q))) F.nodes;
      starts = F.starts;
      even = λ m. omega (arith, F.even m);
      pairs_few = each l (λ m w. m < n → u m + 2 * w ≤ L m) (λ b. room) (λ m d b. omega (arith, F.pairs_few m b));
      threes_few = F.threes_few;
      mid =
          each l (λ m w. m < n → mid_of x₃ m ≡ S m + (u m + 2 * w)) (λ b. new-mid ∙ omega (arith, k-is))
          (λ m d b. elsewhere (mid_at + m) (λ q. d (omega (arith, q))) (λ q. omega (arith, q)) (λ q. omega (arith, q)) ∙ omega (arith, F.mid m b));
      end = λ m b. elsewhere (end_at + m) (λ q. omega (arith, q)) (λ q. omega (arith, q)) (λ q. omega (arith, q)) ∙ F.end m b;
      pairs = λ m j. each l (λ m w. m < n → 2 * j < u m + 2 * w → PairHere m j) (λ b c. go j b c (dec_lt (2 * j) (u (l / 2))))
          (λ m d b c. pair-kept m j b (omega (arith, c))) m;
      threes = λ m j b c. rw (three-stays m j b c) (F.threes m j b c);
      has = λ m q b. ⊎_elim (λ d. old m q b (F.has m q b d)) (λ d. newly m q d.0 d.1);
    }
      where
        PairHere : ℕ → ℕ → Type 0
        PairHere m j = Pair t n m (parent_of x₃ (S m + 2 * j)) (type_of x₃ (S m + 2 * j)) (other_of x₃ (S m + 2 * j))

        go : (j : ℕ) → l / 2 < n → 2 * j < u (l / 2) + 2 * 1 → Dec (2 * j < u (l / 2)) → PairHere (l / 2) j
        go j b c (yes d) = pair-kept (l / 2) j b d
        go j b c (no d) =
            let z : k ≡ S (l / 2) + 2 * j = omega (arith, k-is, c, d, F.even (l / 2)) in
            subst (λ (i : ℕ). Pair t n (l / 2) (parent_of x₃ i) (type_of x₃ i) (other_of x₃ i)) z pair-new

        old : (m q : ℕ) → m < n → Has t n S u v x m q → Has t n S u' v x₃ m q
        old m q b (inl (j, c, z)) = inl (j, omega (arith, c), ap (◌% 2048) (pair-stays m j (S m + 2 * j) b c (inl refl)) ∙ z)
        old m q b (inr (j, c, z)) = inr (j, c, three-stays m j b c ∙ z)

        newly : (m q : ℕ) → m ≡ l / 2 → q ≡ p → Has t n S u' v x₃ m q
        newly m q a b =
            let j : ℕ = u (l / 2) / 2 in
            let z : S (l / 2) + 2 * j ≡ k = omega (arith, k-is, F.even (l / 2)) in
            let c : e % 2048 ≡ p = omega (arith, low, few) in
            subst (λ (i : ℕ). Has t n S u' v x₃ i q) (sym a) (inl (j, omega (arith, is_own l), ap (parent_of x₃) z ∙ ap (◌% 2048) new-edge ∙ c ∙ sym b))

  -- ---- an edge of one number
  module _ (room : v (l / 2) + 1 ≤ W (l / 2)) (new : Triple t n p) where
    abbrev c : ℕ
    c = end_of x (l / 2)

    abbrev z₁ : List ℕ
    z₁ = set x (end_at + l / 2) (c + 1)

    abbrev z₂ : List ℕ
    z₂ = set z₁ (edges_at + c) p

    c-is : c ≡ S (l / 2) + (L (l / 2) + v (l / 2))
    c-is = F.end (l / 2) h

    c-low : c + 1 ≤ most_edges
    c-low = omega (arith, c-is, room, F.starts.low (l / 2) h)

    besides : (i : ℕ) → (i ≡ end_at + l / 2 → ⊥) → (i ≡ edges_at + c → ⊥) → get_or z₂ i 0 ≡ get_or x i 0
    besides i a b = get_or-set_other z₁ (edges_at + c) i p 0 b ∙ get_or-set_other x (end_at + l / 2) i (c + 1) 0 a

    new-end : end_of z₂ (l / 2) ≡ c + 1
    new-end = get_or-set_other z₁ (edges_at + c) (end_at + l / 2) p 0 (λ q. omega (arith, q))
        ∙ get_or-set_same x (end_at + l / 2) (c + 1) 0 (omega (arith, F.size))

    new-three : edge_at z₂ c ≡ p
    new-three = get_or-set_same z₁ (edges_at + c) p 0 (omega (arith, length-set x (end_at + l / 2) (c + 1), F.size, c-low))

    remains : (m d i : ℕ) → m < n → i ≡ S m + d → d < L m + W m → (m ≡ l / 2 → d ≡ L (l / 2) + v (l / 2) → ⊥) → edge_at z₂ i ≡ edge_at x i
    remains m d i b q f g = besides (edges_at + i) (λ r. omega (arith, r, h)) (λ r. go (ℕ_discrete m (l / 2)) (omega (arith, r)))
      where
        go : Dec (m ≡ l / 2) → i ≡ c → ⊥
        go (yes r) w = g r (omega (arith, w, q, c-is, ap S r))
        go (no r) w = F.starts.apart m d (l / 2) (L (l / 2) + v (l / 2)) b h r f (omega (arith, room)) (omega (arith, w, q, c-is))

    pair-remains : (m j i : ℕ) → m < n → 2 * j < u m → (i ≡ S m + 2 * j) ⊎ (i ≡ S m + 2 * j + 1) → edge_at z₂ i ≡ edge_at x i
    pair-remains m j i b f (inl r) =
        remains m (2 * j) i b r (omega (arith, F.pairs_few m b)) (λ q w. omega (arith, w, ap L q, F.pairs_few m b))
    pair-remains m j i b f (inr r) =
        remains m (2 * j + 1) i b (omega (arith, r)) (omega (arith, F.pairs_few m b, F.even m)) (λ q w. omega (arith, w, ap L q, F.pairs_few m b, F.even m))

    three-remains : (m j : ℕ) → m < n → j < v m → edge_at z₂ (S m + (L m + j)) ≡ edge_at x (S m + (L m + j))
    three-remains m j b f = remains m (L m + j) _ b refl (omega (arith, F.threes_few m b)) (λ q w. omega (arith, w, ap L q, ap v q))

    abbrev v' : ℕ → ℕ
    v' m = v m + is l m

    pub filled-three : Filled t n S u v' More z₂
    filled-three = record {
      size = length-set z₁ (edges_at + c) p ∙ length-set x (end_at + l / 2) (c + 1) ∙ F.size;
      nodes = agree_same x z₂ few (λ i b. besides i (λ q. omega (arith, q)) (λ q. omega (arith, q))) F.nodes;
      starts = F.starts;
      even = F.even;
      pairs_few = F.pairs_few;
      threes_few = each l (λ m w. m < n → v m + w ≤ W m) (λ b. room) (λ m d b. omega (arith, F.threes_few m b));
      mid = λ m b. besides (mid_at + m) (λ q. omega (arith, q)) (λ q. omega (arith, q)) ∙ F.mid m b;
      end =
          each l (λ m w. m < n → end_of z₂ m ≡ S m + (L m + (v m + w))) (λ b. new-end ∙ omega (arith, c-is))
          (λ m d b. besides (end_at + m) (λ q. d (omega (arith, q))) (λ q. omega (arith, q)) ∙ omega (arith, F.end m b));
      pairs = λ m j b f. rw (pair-remains m j (S m + 2 * j) b f (inl refl), pair-remains m j (S m + 2 * j + 1) b f (inr refl)) (F.pairs m j b f);
      threes = λ m j. each l (λ m w. m < n → j < v m + w → Triple t n (edge_at z₂ (S m + (L m + j)))) (λ b f. go j b f (dec_lt j (v (l / 2))))
          (λ m d b f. kept m j b (omega (arith, f))) m;
      has = λ m q b. ⊎_elim (λ d. old m q b (F.has m q b d)) (λ d. newly m q d.0 d.1);
    }
      where
        kept : (m j : ℕ) → m < n → j < v m → Triple t n (edge_at z₂ (S m + (L m + j)))
        kept m j b f = rw (three-remains m j b f) (F.threes m j b f)

        go : (j : ℕ) → l / 2 < n → j < v (l / 2) + 1 → Dec (j < v (l / 2)) → Triple t n (edge_at z₂ (S (l / 2) + (L (l / 2) + j)))
        go j b f (yes d) = kept (l / 2) j b d
        go j b f (no d) =
            let r : S (l / 2) + (L (l / 2) + j) ≡ c = omega (arith, c-is, f, d) in
            rw (r, new-three) new

        old : (m q : ℕ) → m < n → Has t n S u v x m q → Has t n S u v' z₂ m q
        old m q b (inl (j, f, r)) = inl (j, f, ap (◌% 2048) (pair-remains m j (S m + 2 * j) b f (inl refl)) ∙ r)
        old m q b (inr (j, f, r)) = inr (j, omega (arith, f), three-remains m j b f ∙ r)

        newly : (m q : ℕ) → m ≡ l / 2 → q ≡ p → Has t n S u v' z₂ m q
        newly m q a b =
            subst (λ (i : ℕ). Has t n S u v' z₂ i q) (sym a) (inr (v (l / 2), omega (arith, is_own l), ap (edge_at z₂) (sym c-is) ∙ new-three ∙ sym b))
