-- The nodes of a table that was counted, as they are loaded, and what the rules then work on. Assumes nothing.
use mathlib.Core.Path.{◌≡◌, sym, ap, ◌∙◌}
use mathlib.Core.List.{List}
use Prim.Native.Nat.{ℕ, ◌+◌, ◌/◌, ◌%◌, ◌<◌}
use native.Mathlib.Nat.{zero-add}
use native.Mathlib.Omega.{arith}
use native.Mathlib.Decide.{dec_lt}
use lib.ListN.{length, length-set}
use borrow.Author.Count.{below_more}
use Rattle.scope.specs.declared.Node.{Node}
use Rattle.scope.specs.Outcome.{answer}
use Rattle.scope.specs.Table.{node_at}
use Rattle.scope.specs.Calls.{table_count, no_node}
use Rattle.scope.proofs.Lists.{get_d_list_from}
use Rattle.codec.specs.Valid.{Bytes}
use Rattle.record.specs.Place.{place_of}
use Rattle.calculus.specs.Model.{Goals}
use Rattle.calculus.specs.Decide.{nodes_of, list_row, asked, Admitted}
use Rattle.calculus.proofs.Same.{table_same}
use Rattle.calculus.proofs.Asked.{list_met, by-fine}
use Rattle.index.specs.Index.{most_nodes, index_node, stored}
use Rattle.index.proofs.Nodes.{node_same, stored_other, stored-node}
use Rattle.branch.specs.Holds.{node_cells, Indexed}
use Rattle.asking.proofs.Nodes.{nodes_in, size_in, nodes_read, few}
use Rattle.asking.proofs.Models.{table_of}
use Rattle.checking.specs.Nodes.{Loaded}

-- ---- the place of the next record

pub next_block : (m at : ℕ) → at ≡ place_of m → (at + 8) % 512 ≡ 508 → at + 8 + 8 ≡ place_of (m + 1)
next_block m at p q =
    let e : m % 63 ≡ 62 = last (dec_lt ((at + 8) / 512) (m / 63)) in
    let d : (m + 1) / 63 ≡ m / 63 + 1 = omega (arith, e) in
    let z : (m + 1) % 63 ≡ 0 = omega (arith, e) in
    omega (arith, p, e, d, z)
  where
    last : Dec ((at + 8) / 512 < m / 63) → m % 63 ≡ 62
    last (yes h) = absurd (omega (arith, p, q, h))
    last (no h) = omega (arith, p, q, h)

-- ---- node m is stored

stored-old : (x : List ℕ) (m : ℕ) (y : Node) (k : ℕ) → k < m → index_node (stored x m y) k ≡ index_node x k
stored-old x m y k l = node_same x (stored x m y) m k (λ i h. stored_other x m y i (λ a b. omega (arith, a, h))) l

pub loaded_none : (t x : List ℕ) → length x ≡ node_cells → Loaded t 0 x
loaded_none t x z = record { size = z; nodes = λ m h. absurd (omega (arith, h)) }

pub loaded_more : (t x : List ℕ) (m : ℕ) (y : Node) → m < most_nodes → 0 < y.kind → y ≡ node_at t m → Loaded t m x → Loaded t (m + 1) (stored x m y)
loaded_more t x m y h p e L = record {
  size = simp length-set L.size;
  nodes = below_more _ m (λ k l. stored-old x m y k l ∙ L.nodes k l) (stored-node x m y (omega (arith, h, L.size)) p ∙ e);
}

-- ---- goals that no row refuses, and the nodes of their table

pub record Ready (t goals : List ℕ) (area : ℕ) (x : List ℕ) (n : ℕ) : Type 0 where
  pub nodes : List Node
  pub answered : asked t goals 0 0 area ≡ answer nodes
  pub count : length nodes ≡ n
  pub admitted : Admitted (list_row goals) n goals 0 0 area
  pub indexed : Indexed x n
  pub same : (i : ℕ) → i < n → index_node x i ≡ nodes_of nodes i

pub goals_in : {t goals : List ℕ} {area : ℕ} {x : List ℕ} {n : ℕ} → Ready t goals area x n → Goals n goals
goals_in {goals = goals} p = record { most = omega (arith, list_met goals p.admitted.list); below = p.admitted.below }

pub ready : (t : List ℕ) {n : ℕ} (e : table_count t ≡ answer n) (all : Bytes t) (x : List ℕ) → Loaded t n x
    → (goals : List ℕ) (area : ℕ) → Admitted (list_row goals) n goals 0 0 area → Ready t goals area x n
ready t {n} e all x L goals area a = record {
  nodes = nodes_in t n;
  answered = by-fine (list_row goals) t goals 0 0 area (nodes_read t e) (rw (size_in t n) a);
  count = size_in t n;
  admitted = a;
  indexed = record {
    size = L.size;
    few = few t e all;
    table = table_same n (index_node x) (nodes_of (nodes_in t n)) node_in (rw (size_in t n) at (table_of t (nodes_in t n) all (nodes_read t e)));
  };
  same = node_in;
}
  where
    node_in : (i : ℕ) → i < n → index_node x i ≡ nodes_of (nodes_in t n) i
    node_in i h = L.nodes i h ∙ sym (get_d_list_from (node_at t) n 0 i no_node (omega arith) ∙ ap (λ (k : ℕ). node_at t k) (zero-add i))
