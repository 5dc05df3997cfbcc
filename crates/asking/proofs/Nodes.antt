-- A table that was counted: the nodes that it reads as, and those of its index. Assumes nothing.
use mathlib.Core.Path.{◌≡◌, sym, ap, ◌∙◌}
use mathlib.Core.Logic.{◌⊎◌, inl, inr}
use mathlib.Core.List.{List, []}
use Prim.Native.Nat.{ℕ, ◌*◌, ◌/◌, ◌<◌, ◌≤◌}
use native.Mathlib.Nat.{zero-add}
use native.Mathlib.Omega.{arith}
use lib.ListN.{length}
use lib.Seq.{ext_get_or}
use Rattle.scope.specs.declared.Node.{Node}
use Rattle.scope.specs.Outcome.{Outcome, answer}
use Rattle.scope.specs.Table.{operands, node_at, list_from, decode}
use Rattle.scope.specs.Calls.{table_count, no_node}
use Rattle.scope.proofs.Operands.{operands-none}
use Rattle.scope.proofs.Lists.{length_list_from, get_d_list_from}
use Rattle.codec.specs.Valid.{Bytes}
use Rattle.codec.proofs.Tables.{few-records}
use Rattle.table.proofs.Rows.{counted, record_within}
use Rattle.calculus.specs.Expansion.{expand}
use Rattle.calculus.specs.Order.{tree, possible, answer_of, setting_of}
use Rattle.calculus.specs.Model.{All, Table, Below, Goals, Good}
use Rattle.calculus.specs.Agree.{Alike}
use Rattle.calculus.specs.Decide.{nodes_of, search_of, list_row, Admitted}
use Rattle.calculus.proofs.Lists.{all_zip}
use Rattle.calculus.proofs.Literals.{all_member, good_below}
use Rattle.calculus.proofs.Same.{search_alike, search-same}
use Rattle.calculus.proofs.Search.{grown-whole}
use Rattle.calculus.proofs.Asked.{list_met, by-fine}
use Rattle.index.specs.Index.{index_size, most_nodes, most_literals, index_node, Codes, Classes}
use Rattle.index.specs.Edges.{Edges}
use Rattle.index.specs.Built.{Early, Records, Built}
use Rattle.index.specs.Marks.{bare, Pruned}
use Rattle.index.specs.Indexed.{Indexed}
use Rattle.asking.specs.Asks.{Prepared}
use Rattle.asking.specs.Within.{Reached}
use Rattle.asking.proofs.Models.{low, table_of, cells_of}
use Rattle.asking.proofs.Finals.{possible_good, possible_alike, setting_more}

-- the first nodes of a table
abbrev pub nodes_in : List ℕ → ℕ → List Node
nodes_in t nodes = list_from (node_at t) 0 nodes

pub size_in : (t : List ℕ) (nodes : ℕ) → length (nodes_in t nodes) ≡ nodes
size_in t nodes = length_list_from (node_at t) nodes 0

module _ (t : List ℕ) {nodes : ℕ} (e : table_count t ≡ answer nodes) where
  -- the table reads as them
  pub nodes_read : decode t ≡ answer (nodes_in t nodes)
  unfolding decode
  nodes_read =
      let c = counted t e in
      rw (c.0, ← c.1)

  module _ (all : Bytes t) where
    pub few : nodes ≤ most_nodes
    few =
        let c = counted t e in
        rw c.1 (few-records t all c.0)

    -- the nodes by their places
    node_of_lem : (i : ℕ) → i < nodes → nodes_of (nodes_in t nodes) i ≡ node_at t i
    node_of_lem i h = get_d_list_from (node_at t) nodes 0 i no_node (omega arith) ∙ ap (λ (k : ℕ). node_at t k) (zero-add i)

    whole : Table nodes (nodes_of (nodes_in t nodes))
    whole = rw (size_in t nodes) at (table_of t (nodes_in t nodes) all nodes_read)

    -- an index of the first m nodes may be built
    pub buildable-few : (m : ℕ) → m ≤ nodes → (m ≤ most_nodes) × Records t m × Early (node_at t) m
    buildable-few m l =
        let c = counted t e in (
          omega (arith, few),
          λ i h. (record_within t all c.0 i (omega (arith, c.1)), (rw (node_of_lem i (omega arith)) at (whole.kinds i (omega arith))).0),
          λ i h. rw (node_of_lem i (omega arith)) at (whole.earlier i (omega arith)),
        )

    -- .. and of all
    pub buildable : (nodes ≤ most_nodes) × Records t nodes × Early (node_at t) nodes
    buildable = buildable-few nodes (omega arith)

    -- an index that has a node or a TRUE in its place
    module _ (m : ℕ) (l : m ≤ nodes) (x : List ℕ) (either : (i : ℕ) → i < m → (index_node x i ≡ node_at t i) ⊎ (index_node x i ≡ bare)) where
      -- what a TRUE and the nodes have, those of the index have
      has : (P : ℕ → Node → Type 0) → ((i : ℕ) → P i bare) → ((i : ℕ) → i < nodes → P i (nodes_of (nodes_in t nodes) i)) → (i : ℕ) → i < m → P i (index_node x i)
      has P b f i h = go (either i h)
        where
          go : (index_node x i ≡ node_at t i) ⊎ (index_node x i ≡ bare) → P i (index_node x i)
          go (inl e) = rw (e, ← node_of_lem i (omega arith)) (f i (omega arith))
          go (inr e) = rw e (b i)

      -- one that is an ATOM is the table's
      atom : (i : ℕ) → i < m → (index_node x i).kind ≡ 2 → index_node x i ≡ nodes_of (nodes_in t nodes) i
      atom i h k = go (either i h)
        where
          go : (index_node x i ≡ node_at t i) ⊎ (index_node x i ≡ bare) → index_node x i ≡ nodes_of (nodes_in t nodes) i
          go (inl e) = e ∙ sym (node_of_lem i (omega arith))
          go (inr e) = absurd (omega (arith, k, ap (λ (y : Node). y.kind) e))

      table : Table m (index_node x)
      table = record {
        kinds = has (λ i y. (0 < y.kind) × (y.kind < 9)) (λ i. (omega arith, omega arith)) (λ i h. whole.kinds i h);
        earlier = has (λ i y. All (λ l. l / 2 < i) (operands y)) (λ i. rw (operands-none bare (omega arith)) tt) (λ i h. whole.earlier i h);
        atoms = λ i j h b k e.
            let p = atom i h k in
            let q = atom j b e in
            λ a. whole.atoms i j (omega arith) (omega arith) (rw p at k) (rw q at e) (ap (λ (y : Node). y.a) (sym p) ∙ a ∙ ap (λ (y : Node). y.a) q);
      }

      cells : (i : ℕ) → i < m → ((index_node x i).a < most_literals) × ((index_node x i).b < most_literals)
      cells =
          has (λ i y. (y.a < most_literals) × (y.b < most_literals)) (λ i. (omega arith, omega arith))
          (λ i h. cells_of t (nodes_in t nodes) all nodes_read i (omega (arith, size_in t nodes)))

      points : (i : ℕ) → i < m → (index_node x i).kind ≡ 2 → (index_node x i).a < 1024
      points =
          has (λ i y. y.kind ≡ 2 → y.a < 1024) (λ i k. omega arith)
          (λ i h. (low t (nodes_in t nodes) all nodes_read i (omega (arith, size_in t nodes))).point)

      indexed : length x ≡ index_size → Edges (index_node x) m x → Codes x → Classes x → Indexed x m
      indexed size edges codes classes = record { size = size; few = omega (arith, few); table = table; edges = edges; cells = cells; codes = codes; classes = classes }

    -- goals that no row refuses may be put to an index of the nodes below them
    pub reaches : (m : ℕ) → m ≤ nodes → (x : List ℕ) → length x ≡ index_size → (listed : Outcome (Unit {0})) (goals : List ℕ) (needed lent area : ℕ)
        → Admitted listed nodes goals needed lent area → Below m goals → Pruned t goals m x → Reached listed t goals needed lent area x m
    reaches m l x size listed goals needed lent area a g p = record {
      nodes = nodes_in t nodes;
      answered = by-fine listed t goals needed lent area nodes_read (rw (size_in t nodes) a);
      some = omega (arith, size_in t nodes);
      admitted = rw (size_in t nodes) a;
      below = g;
      indexed = indexed m l x p.nodes size p.edges p.codes p.classes;
      alike = all_zip (λ k. k < 2 * m) (Alike (index_node x) (node_at t)) (Alike (index_node x) (nodes_of (nodes_in t nodes))) (λ k h e. e ∙ sym (node_of_lem (k / 2) (omega arith))) goals g p.literals;
      closed = λ i h e.
          all_zip (λ k. k / 2 < i) (Alike (index_node x) (node_at t)) (Alike (index_node x) (nodes_of (nodes_in t nodes))) (λ k b q. q ∙ sym (node_of_lem (k / 2) (omega arith)))
          (operands (index_node x i)) ((table m l x p.nodes).earlier i h) (p.closed i h (e ∙ node_of_lem i (omega arith)));
      points = points m l x p.nodes;
    }

    -- .. and to one of all nodes
    pub prepares : (x : List ℕ) → length x ≡ index_size → Built t nodes x → (listed : Outcome (Unit {0})) (goals : List ℕ) (needed lent area : ℕ)
        → Admitted listed nodes goals needed lent area → Prepared listed t goals needed lent area x nodes
    prepares x size b listed goals needed lent area a =
        let l : nodes ≤ nodes = omega arith in
        let each : (i : ℕ) → i < nodes → (index_node x i ≡ node_at t i) ⊎ (index_node x i ≡ bare) = λ i h. inl (b.nodes i h) in
        record {
          nodes = nodes_in t nodes;
          answered = by-fine listed t goals needed lent area nodes_read (rw (size_in t nodes) a);
          reads = nodes_read;
          count = size_in t nodes;
          admitted = a;
          indexed = indexed nodes l x each size b.edges b.codes b.classes;
          same = λ i h. b.nodes i h ∙ sym (node_of_lem i h);
          points = points nodes l x each;
        }

-- ---- what is prepared

module _ {row : Outcome (Unit {0})} {t goals : List ℕ} {needed lent area : ℕ} {x : List ℕ} {n : ℕ} (p : Prepared row t goals needed lent area x n) where
  -- a search over the index is that over the nodes
  pub searches_in : (ls : List ℕ) → Below n ls → tree (expand (index_node x)) ls n [] ≡ search_of p.nodes ls
  searches_in ls b =
      search-same n (index_node x) (nodes_of p.nodes) p.same ls p.indexed.table b
      ∙ ap (λ (k : ℕ). tree (expand (nodes_of p.nodes)) ls k []) (sym p.count)

  -- the index lists the nodes
  pub listed : list_from (index_node x) 0 n ≡ p.nodes
  listed =
      let size = length_list_from (index_node x) n 0 in
      ext_get_or no_node (list_from (index_node x) 0 n) p.nodes (size ∙ sym p.count)
      (λ k h. get_d_list_from (index_node x) n 0 k no_node (omega arith) ∙ ap (index_node x) (zero-add k) ∙ p.same k (omega arith))

-- a list of goals that row 62 passed
pub goals_in : {t goals : List ℕ} {needed lent area : ℕ} {x : List ℕ} {n : ℕ} → Prepared (list_row goals) t goals needed lent area x n → Goals n goals
goals_in {goals = goals} p = record { most = omega (arith, list_met goals p.admitted.list); below = p.admitted.below }

-- ---- what is reached

module _ {row : Outcome (Unit {0})} {t goals : List ℕ} {needed lent area : ℕ} {x : List ℕ} {m : ℕ} (p : Reached row t goals needed lent area x m) where
  -- a search over the nodes below the literals is that over all
  pub searches_within : (ls : List ℕ) → Below m ls → All (Alike (index_node x) (nodes_of p.nodes)) ls → tree (expand (index_node x)) ls m [] ≡ search_of p.nodes ls
  searches_within ls b a = search_alike m (index_node x) (nodes_of p.nodes) p.indexed.table p.closed ls a b (length p.nodes) p.some

  -- .. and so is the setting of what it ends on
  pub settings_within : (ls : List ℕ) → Below m ls → All (Alike (index_node x) (nodes_of p.nodes)) ls
      → {G : List ℕ} → answer_of (tree (expand (index_node x)) ls m []) ≡ possible G → setting_of (list_from (index_node x) 0 m) G ≡ setting_of p.nodes G
  settings_within ls below alike {G} e =
      let size = length_list_from (index_node x) m 0 in
      let grown = grown-whole m (index_node x) ls p.indexed.table below in
      let g : Good m G = possible_good grown e in
      let a = possible_alike m (index_node x) (nodes_of p.nodes) p.indexed.table p.closed ls alike grown tt e in
      setting_more (list_from (index_node x) 0 m) p.nodes (omega (arith, p.some)) G (rw size g)
      (λ k h.
      let b : k < 2 * m = all_member (λ i. i < 2 * m) G k (good_below m G g) h in
      get_d_list_from (index_node x) m 0 (k / 2) no_node (omega arith) ∙ ap (index_node x) (zero-add (k / 2)) ∙ all_member (Alike (index_node x) (nodes_of p.nodes)) G k a h)

  pub setting_within : {G : List ℕ} → answer_of (tree (expand (index_node x)) goals m []) ≡ possible G → setting_of (list_from (index_node x) 0 m) G ≡ setting_of p.nodes G
  setting_within e = settings_within goals p.below p.alike e

pub goals_within : {t goals : List ℕ} {needed lent area : ℕ} {x : List ℕ} {m : ℕ} → Reached (list_row goals) t goals needed lent area x m → Goals m goals
goals_within {goals = goals} p = record { most = omega (arith, list_met goals p.admitted.list); below = p.below }
