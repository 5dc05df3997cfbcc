-- Laws of the room that counting and putting a node's edges need, edge by edge. Assumes nothing.
use mathlib.Core.Path.{◌≡◌, ap, ◌∙◌}
use mathlib.Core.List.{List}
use Prim.Native.Nat.{ℕ, ◌+◌, ◌-◌, ◌*◌, ◌/◌, ◌%◌, ◌<◌, ◌≤◌}
use native.Mathlib.Omega.{arith}
use lib.ListN.{length, set, length-set}
use borrow.Author.Tests.{lt-ltb, le-ltb}
use lib.Seq.{get_or-set_same, get_or-set_other}
use Rattle.scope.specs.declared.Node.{Node}
use Rattle.scope.proofs.Operands.{operands-two, operands-three}
use Rattle.index.specs.Index.{index_size, most_nodes, most_edges, mid_at, end_at, edges_at}
use Rattle.index.specs.Edges.{mid_of, end_of}
use Rattle.index.specs.Built.{is, raised, count_node, put_pair, put_three, put_node, Room}
use Rattle.index.proofs.Sums.{is_own, brings_two, brings_three}
use Rattle.index.proofs.Counts.{each}

-- ---- what counting or putting an edge makes of the places

module _ (x : List ℕ) (l : ℕ) (z : length x ≡ index_size) (h : l / 2 < most_nodes) where
  pub mid_raised : (m : ℕ) → mid_of (raised x (mid_at + l / 2) 2) m ≡ mid_of x m + 2 * is l m
  mid_raised =
      each l (λ m w. mid_of (raised x (mid_at + l / 2) 2) m ≡ mid_of x m + 2 * w) (get_or-set_same x (mid_at + l / 2) _ 0 (omega arith))
      (λ m d. get_or-set_other x (mid_at + l / 2) (mid_at + m) _ 0 (λ q. d (omega (arith, q))) ∙ omega arith)

  pub end-raised : (m : ℕ) → end_of (raised x (end_at + l / 2) 1) m ≡ end_of x m + is l m
  end-raised =
      each l (λ m w. end_of (raised x (end_at + l / 2) 1) m ≡ end_of x m + w) (get_or-set_same x (end_at + l / 2) _ 0 (omega arith))
      (λ m d. get_or-set_other x (end_at + l / 2) (end_at + m) _ 0 (λ q. d (omega (arith, q))) ∙ omega arith)

  pub mid_put : (p o y m : ℕ) → m < most_nodes → mid_of (put_pair x p l o y) m ≡ mid_of x m + 2 * is l m
  mid_put p o y m b =
      let k : ℕ = mid_of x (l / 2) in
      let e : ℕ = p + 2048 * (y + l % 2) in
      get_or-set_other (set (raised x (mid_at + l / 2) 2) (edges_at + k) e) (edges_at + (k + 1)) (mid_at + m) o 0 (λ q. omega (arith, q))
      ∙ get_or-set_other (raised x (mid_at + l / 2) 2) (edges_at + k) (mid_at + m) e 0 (λ q. omega (arith, q)) ∙ mid_raised m

  pub end-put : (p m : ℕ) → m < most_nodes → end_of (put_three x p l) m ≡ end_of x m + is l m
  end-put p m b = get_or-set_other (raised x (end_at + l / 2) 1) (edges_at + end_of x (l / 2)) (end_at + m) p 0 (λ q. omega (arith, q)) ∙ end-raised m

-- ---- the room that is left

module _ {n : ℕ} {y : Node} {x : List ℕ} (R : Room n y x) where
  module _ (k : 2 < y.kind) (k' : y.kind < 7) where
    two_a : y.a / 2 < n
    two_a = (rw (operands-two y k k') at R.known).0

    two-b : y.b / 2 < n
    two-b = (rw (operands-two y k k') at R.known).1.0

    pub pair-first : (y.a / 2 < most_nodes) × (mid_of x (y.a / 2) + 2 ≤ most_edges)
    pair-first = (omega (arith, two_a, R.few), omega (arith, R.pairs (y.a / 2) two_a, (brings_two y (y.a / 2) k k').0, is_own y.a))

    pub pair-second : (x' : List ℕ) → mid_of x' (y.b / 2) ≡ mid_of x (y.b / 2) + 2 * is y.a (y.b / 2)
        → (y.b / 2 < most_nodes) × (mid_of x' (y.b / 2) + 2 ≤ most_edges)
    pair-second x' e =
        (omega (arith, two-b, R.few), omega (arith, e, R.pairs (y.b / 2) two-b, (brings_two y (y.b / 2) k k').0, is_own y.b))

  module _ (k : 7 ≤ y.kind) where
    three-a : y.a / 2 < n
    three-a = (rw (operands-three y k) at R.known).0

    three-b : y.b / 2 < n
    three-b = (rw (operands-three y k) at R.known).1.0

    three-c : y.c / 2 < n
    three-c = (rw (operands-three y k) at R.known).1.1.0

    pub three-first : (y.a / 2 < most_nodes) × (end_of x (y.a / 2) + 1 ≤ most_edges)
    three-first = (omega (arith, three-a, R.few), omega (arith, R.threes (y.a / 2) three-a, (brings_three y (y.a / 2) k).1, is_own y.a))

    pub three-second : (x' : List ℕ) → end_of x' (y.b / 2) ≡ end_of x (y.b / 2) + is y.a (y.b / 2)
        → (y.b / 2 < most_nodes) × (end_of x' (y.b / 2) + 1 ≤ most_edges)
    three-second x' e =
        (omega (arith, three-b, R.few), omega (arith, e, R.threes (y.b / 2) three-b, (brings_three y (y.b / 2) k).1, is_own y.b))

    pub three_third : (x' : List ℕ) → end_of x' (y.c / 2) ≡ end_of x (y.c / 2) + is y.a (y.c / 2) + is y.b (y.c / 2)
        → (y.c / 2 < most_nodes) × (end_of x' (y.c / 2) + 1 ≤ most_edges)
    three_third x' e =
        (omega (arith, three-c, R.few), omega (arith, e, R.threes (y.c / 2) three-c, (brings_three y (y.c / 2) k).1, is_own y.c))

-- ---- counting and putting, call by call: each call's result is what the definition says

-- what put_pair and put_three ask
abbrev Pair : List ℕ → ℕ → ℕ → ℕ → Type 0
Pair x p l y = (length x ≡ index_size) × (p < most_nodes) × (l / 2 < most_nodes) × (y ≤ 21) × (mid_of x (l / 2) + 2 ≤ most_edges)

abbrev Three : List ℕ → ℕ → ℕ → Type 0
Three x p l = (length x ≡ index_size) × (p < most_nodes) × (l / 2 < most_nodes) × (end_of x (l / 2) + 1 ≤ most_edges)

module _ {n : ℕ} {y : Node} {x : List ℕ} (R : Room n y x) where
  module _ (k : y.kind < 3) where
    pub count_none : x ≡ count_node x y
    unfolding count_node
    count_none = rw (lt-ltb y.kind 3 k)

    pub put-none : (p : ℕ) → x ≡ put_node x p y
    unfolding put_node
    put-none p = rw (lt-ltb y.kind 3 k)

  module _ (k : 3 ≤ y.kind) (k' : y.kind < 7) where
    pub count-first : (length x ≡ index_size) × (mid_at + y.a / 2 < index_size) × (mid_of x (y.a / 2) + 2 ≤ most_edges)
    count-first = (R.size, omega (arith, (pair-first R k k').0), (pair-first R k k').1)

    pub put_first : (p : ℕ) → p < n → Pair x p y.a (3 * (y.kind - 3))
    put_first p h = (R.size, omega (arith, h, R.few), (pair-first R k k').0, omega arith, (pair-first R k k').1)

    module _ {x₁ : List ℕ} (e : x₁ ≡ raised x (mid_at + y.a / 2) 2) where
      pub count-second : (length x₁ ≡ index_size) × (mid_at + y.b / 2 < index_size) × (mid_of x₁ (y.b / 2) + 2 ≤ most_edges)
      count-second =
          let r = pair-second R k k' x₁ (ap (λ (w : List ℕ). mid_of w (y.b / 2)) e ∙ mid_raised x y.a R.size (pair-first R k k').0 (y.b / 2)) in
          (ap length e ∙ length-set x (mid_at + y.a / 2) _ ∙ R.size, omega (arith, r.0), r.1)

      pub counted-two : {x₂ : List ℕ} → x₂ ≡ raised x₁ (mid_at + y.b / 2) 2 → x₂ ≡ count_node x y
      unfolding count_node
      counted-two f = rw (le-ltb y.kind 3 k, lt-ltb y.kind 7 k') (f ∙ ap (λ (w : List ℕ). raised w (mid_at + y.b / 2) 2) e)

    module _ {x₁ : List ℕ} {p : ℕ} (h : p < n) (e : x₁ ≡ put_pair x p y.a y.b (3 * (y.kind - 3))) where
      pub put_second : Pair x₁ p y.b (3 * (y.kind + 1))
      put_second =
          let b : y.b / 2 < most_nodes = omega (arith, two-b R k k', R.few) in
          let r = pair-second R k k' x₁ (ap (λ (w : List ℕ). mid_of w (y.b / 2)) e ∙ mid_put x y.a R.size (pair-first R k k').0 p y.b
          (3 * (y.kind - 3)) (y.b / 2) b) in
          (ap length e ∙ simp length-set R.size, omega (arith, h, R.few), r.0, omega arith, r.1)

      pub put_two : {x₂ : List ℕ} → x₂ ≡ put_pair x₁ p y.b y.a (3 * (y.kind + 1)) → x₂ ≡ put_node x p y
      unfolding put_node
      put_two f =
          rw (le-ltb y.kind 3 k, lt-ltb y.kind 7 k') (f ∙ ap (λ (w : List ℕ). put_pair w p y.b y.a (3 * (y.kind + 1))) e)

  module _ (k : 7 ≤ y.kind) where
    pub count-three-first : (length x ≡ index_size) × (end_at + y.a / 2 < index_size) × (end_of x (y.a / 2) + 1 ≤ most_edges)
    count-three-first = (R.size, omega (arith, (three-first R k).0), (three-first R k).1)

    pub put-three-first : (p : ℕ) → p < n → Three x p y.a
    put-three-first p h = (R.size, omega (arith, h, R.few), (three-first R k).0, (three-first R k).1)

    b-low : y.b / 2 < most_nodes
    b-low = omega (arith, three-b R k, R.few)

    c-low : y.c / 2 < most_nodes
    c-low = omega (arith, three-c R k, R.few)

    module _ {x₁ : List ℕ} (e : x₁ ≡ raised x (end_at + y.a / 2) 1) where
      size₁ : length x₁ ≡ index_size
      size₁ = ap length e ∙ length-set x (end_at + y.a / 2) _ ∙ R.size

      end₁ : (m : ℕ) → end_of x₁ m ≡ end_of x m + is y.a m
      end₁ m = ap (λ (w : List ℕ). end_of w m) e ∙ end-raised x y.a R.size (three-first R k).0 m

      pub count-three-second : (length x₁ ≡ index_size) × (end_at + y.b / 2 < index_size) × (end_of x₁ (y.b / 2) + 1 ≤ most_edges)
      count-three-second =
          let r = three-second R k x₁ (end₁ (y.b / 2)) in
          (size₁, omega (arith, r.0), r.1)

      module _ {x₂ : List ℕ} (f : x₂ ≡ raised x₁ (end_at + y.b / 2) 1) where
        pub count-three-third : (length x₂ ≡ index_size) × (end_at + y.c / 2 < index_size) × (end_of x₂ (y.c / 2) + 1 ≤ most_edges)
        count-three-third =
            let q : end_of x₂ (y.c / 2) ≡ end_of x (y.c / 2) + is y.a (y.c / 2) + is y.b (y.c / 2) = ap (λ (w : List ℕ). end_of w (y.c / 2)) f
            ∙ end-raised x₁ y.b size₁ b-low (y.c / 2) ∙ ap (◌+ is y.b (y.c / 2)) (end₁ (y.c / 2)) in
            let r = three_third R k x₂ q in
            (ap length f ∙ length-set x₁ (end_at + y.b / 2) _ ∙ size₁, omega (arith, r.0), r.1)

        pub counted-all : {x₃ : List ℕ} → x₃ ≡ raised x₂ (end_at + y.c / 2) 1 → x₃ ≡ count_node x y
        unfolding count_node
        counted-all g =
            rw (le-ltb y.kind 3 (omega arith), le-ltb y.kind 7 k)
            (g ∙ ap (λ (w : List ℕ). raised w (end_at + y.c / 2) 1) (f ∙ ap (λ (w : List ℕ). raised w (end_at + y.b / 2) 1) e))

    module _ {x₁ : List ℕ} {p : ℕ} (h : p < n) (e : x₁ ≡ put_three x p y.a) where
      put-size₁ : length x₁ ≡ index_size
      put-size₁ = ap length e ∙ simp length-set R.size

      put-end₁ : (m : ℕ) → m < most_nodes → end_of x₁ m ≡ end_of x m + is y.a m
      put-end₁ m b = ap (λ (w : List ℕ). end_of w m) e ∙ end-put x y.a R.size (three-first R k).0 p m b

      pub put-three-second : Three x₁ p y.b
      put-three-second =
          let r = three-second R k x₁ (put-end₁ (y.b / 2) b-low) in
          (put-size₁, omega (arith, h, R.few), r.0, r.1)

      module _ {x₂ : List ℕ} (f : x₂ ≡ put_three x₁ p y.b) where
        pub put-three-third : Three x₂ p y.c
        put-three-third =
            let q : end_of x₂ (y.c / 2) ≡ end_of x (y.c / 2) + is y.a (y.c / 2) + is y.b (y.c / 2) = ap (λ (w : List ℕ). end_of w (y.c / 2)) f
            ∙ end-put x₁ y.b put-size₁ b-low p (y.c / 2) c-low ∙ ap (◌+ is y.b (y.c / 2)) (put-end₁ (y.c / 2) c-low) in
            let r = three_third R k x₂ q in
            (ap length f ∙ simp length-set put-size₁, omega (arith, h, R.few), r.0, r.1)

        pub put_all : {x₃ : List ℕ} → x₃ ≡ put_three x₂ p y.c → x₃ ≡ put_node x p y
        unfolding put_node
        put_all g =
            rw (le-ltb y.kind 3 (omega arith), le-ltb y.kind 7 k)
            (g ∙ ap (λ (w : List ℕ). put_three w p y.c) (f ∙ ap (λ (w : List ℕ). put_three w p y.b) e))
