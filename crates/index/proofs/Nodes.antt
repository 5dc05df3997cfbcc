-- Laws of the nodes of the index, as they are read from the table one after another. Assumes nothing.
use mathlib.Core.Path.{◌≡◌, refl, ◌∙◌}
use mathlib.Core.List.{List, [], ◌∷◌}
use mathlib.Core.Bool.{cond}
use Prim.Native.Nat.{ℕ, zero, suc, ◌+◌, ◌-◌, ◌*◌, ◌/◌, ◌%◌, ◌<◌, ◌≤◌}
use native.Mathlib.Omega.{arith}
use native.Mathlib.Decide.{ℕ_discrete}
use lib.Dec.{eqb}
use lib.ListN.{length, get_or, set, length-set}
use borrow.Author.Count.{below_more}
use lib.Seq.{get_or-set_same, get_or-set_other}
use borrow.Author.Tests.{eq-eqb, ne_eqb}
use Rattle.scope.specs.declared.Node.{Node}
use Rattle.scope.specs.Table.{arity, operands, node_at}
use Rattle.scope.proofs.Operands.{arity_most, operands-length, operand_at}
use Rattle.calculus.specs.Expansion.{neg, chosen}
use Rattle.calculus.specs.Model.{Table}
use Rattle.calculus.proofs.Lists.{all_at}
use Rattle.index.specs.Index.{index_size, most_nodes, mid_at, end_at, index_node, stored}
use Rattle.index.specs.Built.{Loaded}

-- a node hangs on its own numbers alone
pub node_same : (x x' : List ℕ) (b m : ℕ) → ((i : ℕ) → i < 4 * b → get_or x' i 0 ≡ get_or x i 0) → m < b → index_node x' m ≡ index_node x m
unfolding index_node
node_same x x' b m e h = rw (e (4 * m) (omega arith), e (4 * m + 1) (omega arith), e (4 * m + 2) (omega arith), e (4 * m + 3) (omega arith))

-- ---- node m is stored

module _ (x : List ℕ) (m : ℕ) (y : Node) where
  abbrev x₁ : List ℕ
  x₁ = set x (4 * m) (y.kind - 1)

  abbrev x₂ : List ℕ
  x₂ = set x₁ (4 * m + 1) y.a

  abbrev x₃ : List ℕ
  x₃ = set x₂ (4 * m + 2) y.b

  pub stored_size : length (stored x m y) ≡ length x
  stored_size = simp length-set refl

  pub stored_other : (i : ℕ) → (4 * m ≤ i → i < 4 * m + 4 → ⊥) → get_or (stored x m y) i 0 ≡ get_or x i 0
  stored_other i n =
      get_or-set_other x₃ (4 * m + 3) i y.c 0 (λ q. n (omega (arith, q)) (omega (arith, q)))
      ∙ get_or-set_other x₂ (4 * m + 2) i y.b 0 (λ q. n (omega (arith, q)) (omega (arith, q)))
      ∙ get_or-set_other x₁ (4 * m + 1) i y.a 0 (λ q. n (omega (arith, q)) (omega (arith, q)))
      ∙ get_or-set_other x (4 * m) i (y.kind - 1) 0 (λ q. n (omega (arith, q)) (omega (arith, q)))

  module _ (room : 4 * m + 4 ≤ length x) (k : 0 < y.kind) where
    stored-c : get_or (stored x m y) (4 * m + 3) 0 ≡ y.c
    stored-c = get_or-set_same x₃ (4 * m + 3) y.c 0 (simp length-set (omega arith))

    stored-b : get_or (stored x m y) (4 * m + 2) 0 ≡ y.b
    stored-b =
        get_or-set_other x₃ (4 * m + 3) (4 * m + 2) y.c 0 (λ q. omega (arith, q))
        ∙ get_or-set_same x₂ (4 * m + 2) y.b 0 (simp length-set (omega arith))

    stored-a : get_or (stored x m y) (4 * m + 1) 0 ≡ y.a
    stored-a =
        get_or-set_other x₃ (4 * m + 3) (4 * m + 1) y.c 0 (λ q. omega (arith, q))
        ∙ get_or-set_other x₂ (4 * m + 2) (4 * m + 1) y.b 0 (λ q. omega (arith, q))
        ∙ get_or-set_same x₁ (4 * m + 1) y.a 0 (simp length-set (omega arith))

    stored-kind : get_or (stored x m y) (4 * m) 0 ≡ y.kind - 1
    stored-kind =
        get_or-set_other x₃ (4 * m + 3) (4 * m) y.c 0 (λ q. omega (arith, q))
        ∙ get_or-set_other x₂ (4 * m + 2) (4 * m) y.b 0 (λ q. omega (arith, q))
        ∙ get_or-set_other x₁ (4 * m + 1) (4 * m) y.a 0 (λ q. omega (arith, q))
        ∙ get_or-set_same x (4 * m) (y.kind - 1) 0 (omega arith)

    pub stored-node : index_node (stored x m y) m ≡ y
    unfolding index_node
    stored-node =
        let kind : get_or (stored x m y) (4 * m) 0 + 1 ≡ y.kind = omega (arith, stored-kind, k) in
        rw (kind, stored-a, stored-b, stored-c)

-- ---- .. with no edges yet: two counts

abbrev with_mid : List ℕ → ℕ → Node → List ℕ
with_mid x m y = set (stored x m y) (mid_at + m) 0

abbrev written : List ℕ → ℕ → Node → List ℕ
written x m y = set (with_mid x m y) (end_at + m) 0

module _ (x : List ℕ) (m : ℕ) (y : Node) (h : m < most_nodes) (z : length x ≡ index_size) where
  -- the counts are behind the nodes
  before_counts : (i : ℕ) → (i ≡ mid_at + m → ⊥) → (i ≡ end_at + m → ⊥) → get_or (written x m y) i 0 ≡ get_or (stored x m y) i 0
  before_counts i d e = get_or-set_other (with_mid x m y) (end_at + m) i 0 0 e ∙ get_or-set_other (stored x m y) (mid_at + m) i 0 0 d

  -- a place before or behind the node's, that is not its counts
  written_other : (i : ℕ) → (4 * m ≤ i → i < 4 * m + 4 → ⊥) → (i ≡ mid_at + m → ⊥) → (i ≡ end_at + m → ⊥) → get_or (written x m y) i 0 ≡ get_or x i 0
  written_other i n d e = before_counts i d e ∙ stored_other x m y i n

  written-node : 0 < y.kind → index_node (written x m y) m ≡ y
  written-node k =
      node_same (stored x m y) (written x m y) most_nodes m (λ i b. before_counts i (λ q. omega (arith, q)) (λ q. omega (arith, q))) h
      ∙ stored-node x m y (omega (arith, h, z)) k

  written-counts : (get_or (written x m y) (mid_at + m) 0 ≡ 0) × (get_or (written x m y) (end_at + m) 0 ≡ 0)
  written-counts = (
    get_or-set_other (with_mid x m y) (end_at + m) (mid_at + m) 0 0 (λ q. omega (arith, q))
        ∙ get_or-set_same (stored x m y) (mid_at + m) 0 0 (simp length-set (omega arith)),
    get_or-set_same (with_mid x m y) (end_at + m) 0 0 (simp length-set (omega arith)),
  )

-- ---- the first nodes

pub loaded_none : (t x : List ℕ) → length x ≡ index_size → Loaded t 0 x
loaded_none t x z = record {
  size = z;
  nodes = λ m h. absurd (omega (arith, h));
  counts = λ m h. absurd (omega (arith, h));
}

pub loaded_more : (t x : List ℕ) (m : ℕ) (y : Node) → m < most_nodes → 0 < y.kind → y ≡ node_at t m → Loaded t m x → Loaded t (m + 1) (written x m y)
loaded_more t x m y h k e L = record {
  size = simp length-set L.size;
  nodes = below_more _ m (λ k l. node_same x (written x m y) m k before l ∙ L.nodes k l) (written-node x m y h L.size k ∙ e);
  counts =
      below_more _ m
      (λ k l. (
        other k l mid_at (omega arith) (omega arith) (λ d. omega (arith, d, h)) ∙ (L.counts k l).0,
        other k l end_at (omega arith) (λ d. omega (arith, d, h)) (omega arith) ∙ (L.counts k l).1,
      ))
      (written-counts x m y h L.size);
}
  where
    before : (j : ℕ) → j < 4 * m → get_or (written x m y) j 0 ≡ get_or x j 0
    before j l = written_other x m y h L.size j (λ a b. omega (arith, a)) (λ d. omega (arith, d)) (λ d. omega (arith, d))

    other : (k : ℕ) → k < m → (i : ℕ) → 8064 ≤ i → (i + k ≡ mid_at + m → ⊥) → (i + k ≡ end_at + m → ⊥) → get_or (written x m y) (i + k) 0 ≡ get_or x (i + k) 0
    other k l i b d e = written_other x m y h L.size (i + k) (λ p q. omega (arith, q)) d e

-- ---- the operands of node m are its cells, in order

pub operand_cell : (x : List ℕ) (m i : ℕ) → i < arity (index_node x m).kind → get_or (operands (index_node x m)) i 0 ≡ get_or x (4 * m + (1 + i)) 0
unfolding index_node
operand_cell x m i h = operand_at (index_node x m) i 0 h ∙ go i (omega (arith, h, arity_most (index_node x m).kind))
  where
    go : (i : ℕ) → i < 3 → get_or (get_or x (4 * m + 1) 0 ∷ get_or x (4 * m + 2) 0 ∷ get_or x (4 * m + 3) 0 ∷ []) i 0 ≡ get_or x (4 * m + (1 + i)) 0
    go zero l = refl
    go (suc zero) l = refl
    go (suc (suc zero)) l = refl
    go (suc (suc (suc i))) l = absurd (omega arith)

-- so each is a literal of an earlier node
pub operand_low : (x : List ℕ) (n m i : ℕ) → Table n (index_node x) → m < n → i < arity (index_node x m).kind → get_or x (4 * m + (1 + i)) 0 / 2 < m
operand_low x n m i T h k =
    rw (operand_cell x m i k) at
    (all_at (λ l. l / 2 < m) (operands (index_node x m)) i 0 (T.earlier m h) (omega (arith, k, operands-length (index_node x m))))

-- a choice of an operand is its number, or the negation where the choice is odd
pub operand_choice : (x : List ℕ) (m c : ℕ) → c / 2 < arity (index_node x m).kind
    → get_or x (4 * m + (1 + c / 2)) 0 - get_or x (4 * m + (1 + c / 2)) 0 % 2 + (get_or x (4 * m + (1 + c / 2)) 0 + c) % 2 ≡ chosen (index_node x m) c
unfolding chosen
operand_choice x m c h = rw (operand_cell x m (c / 2) h) (go (ℕ_discrete (c % 2) 0))
  where
    l : ℕ
    l = get_or x (4 * m + (1 + c / 2)) 0

    go : Dec (c % 2 ≡ 0) → l - l % 2 + (l + c) % 2 ≡ cond (eqb (c % 2) 0) l (neg l)
    go (yes e) = rw (eq-eqb (c % 2) 0 e) (omega arith)
    go (no e) = rw (ne_eqb (c % 2) 0 e) (omega arith)
