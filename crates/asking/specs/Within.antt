-- What asking leaves where only the nodes below the literals are indexed. Assumes nothing.
use Rattle.std.specs.Prelude.{◌≡◌, List, ℕ, ◌*◌, ◌<◌, ◌≤◌, length, Result, Ok, Err}
use Rattle.scope.specs.declared.Node.{Node}
use Rattle.scope.specs.declared.Refusal.{Refusal}
use Rattle.scope.specs.Outcome.{Outcome, answer, refused}
use Rattle.scope.specs.Calls.{table_count}
use Rattle.calculus.specs.Model.{All, Below}
use Rattle.calculus.specs.Agree.{Alike, Closed}
use Rattle.calculus.specs.Decide.{nodes_of, Admitted, asked_by}
use Rattle.index.specs.Index.{index_node}
use Rattle.index.specs.Indexed.{Indexed}

-- no index yet: the node count of a table to which the literals may be put, or the first row's refusal
pub record Admits (listed : Outcome (Unit {0})) (t goals : List ℕ) (needed lent area : ℕ) (r : Result ℕ Refusal) : Type 0 where
  pub refuses : (f : Refusal) → r ≡ Err f → asked_by listed t goals needed lent area ≡ refused f.number f.place
  pub counted : (n : ℕ) → r ≡ Ok n → table_count t ≡ answer n
  pub admitted : (n : ℕ) → r ≡ Ok n → Admitted listed n goals needed lent area

-- as many nodes as before, or as many as have the literal
pub record Farther (top l r : ℕ) : Type 0 where
  pub from : top ≤ r
  pub over : l < 2 * r
  pub least : (n : ℕ) → top ≤ n → l < 2 * n → r ≤ n

-- the literals are those of the first m nodes, and of no fewer
pub record Reach (goals : List ℕ) (m : ℕ) : Type 0 where
  pub below : Below m goals
  pub least : (n : ℕ) → Below n goals → m ≤ n

-- as `Prepared`, but of the first m nodes, which the literals are of, x has those below the literals: it has each literal's node, and of each
-- node that it has the operands'
pub record Reached (listed : Outcome (Unit {0})) (t goals : List ℕ) (needed lent area : ℕ) (x : List ℕ) (m : ℕ) : Type 0 where
  pub nodes : List Node
  pub answered : asked_by listed t goals needed lent area ≡ answer nodes
  pub some : m ≤ length nodes
  pub admitted : Admitted listed (length nodes) goals needed lent area
  pub below : Below m goals
  pub indexed : Indexed x m
  pub alike : All (Alike (index_node x) (nodes_of nodes)) goals
  pub closed : Closed m (index_node x) (nodes_of nodes)
  pub points : (i : ℕ) → i < m → (index_node x i).kind ≡ 2 → (index_node x i).a < 1024

pub record Within (listed : Outcome (Unit {0})) (t goals : List ℕ) (needed lent area : ℕ) (x : List ℕ) (r : Result ℕ Refusal) : Type 0 where
  pub refuses : (f : Refusal) → r ≡ Err f → asked_by listed t goals needed lent area ≡ refused f.number f.place
  pub reached : (m : ℕ) → r ≡ Ok m → Reached listed t goals needed lent area x m
