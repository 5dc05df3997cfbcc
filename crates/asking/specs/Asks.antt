-- What asking leaves: the answer of the definition `asked_by`, and the index of the nodes. Assumes nothing.
use Rattle.std.specs.Prelude.{◌≡◌, List, ℕ, ◌<◌, length, get_or, Result, Ok}
use Rattle.scope.specs.declared.Node.{Node}
use Rattle.scope.specs.declared.Refusal.{Refusal}
use Rattle.scope.specs.Outcome.{Outcome, answer, ◌>>=◌}
use Rattle.scope.specs.Table.{decode}
use Rattle.table.specs.Counted.{counted_of}
use Rattle.calculus.specs.Decide.{nodes_of, Admitted, asked_by}
use Rattle.index.specs.Index.{index_size, index_node}
use Rattle.index.specs.Indexed.{Indexed}

-- an index that is not built yet: zeros
pub record Zeros (x : List ℕ) : Type 0 where
  pub size : length x ≡ index_size
  pub zeros : (i : ℕ) → i < index_size → get_or x i 0 ≡ 0

-- literals that may be put to the table t, where the call's row on the list says `listed`: the table's nodes, and x, their index
pub record Prepared (listed : Outcome (Unit {0})) (t goals : List ℕ) (needed lent area : ℕ) (x : List ℕ) (n : ℕ) : Type 0 where
  pub nodes : List Node
  pub answered : asked_by listed t goals needed lent area ≡ answer nodes
  pub reads : decode t ≡ answer nodes
  pub count : length nodes ≡ n
  pub admitted : Admitted listed n goals needed lent area
  pub indexed : Indexed x n
  pub same : (i : ℕ) → i < n → index_node x i ≡ nodes_of nodes i
  pub points : (i : ℕ) → i < n → (index_node x i).kind ≡ 2 → (index_node x i).a < 1024

pub record Asks (listed : Outcome (Unit {0})) (t goals : List ℕ) (needed lent area : ℕ) (x : List ℕ) (r : Result ℕ Refusal) : Type 0 where
  -- the node count, or the first row's refusal
  pub answered : counted_of r ≡ (asked_by listed t goals needed lent area >>= λ rs. answer (length rs))
  pub prepared : (n : ℕ) → r ≡ Ok n → Prepared listed t goals needed lent area x n
