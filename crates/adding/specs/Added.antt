-- What add answers, and what its parts ask and leave. Assumes nothing.
use Rattle.std.specs.Prelude.{◌≡◌, true, List, ℕ, ◌<◌, ◌≤◌, length, take, Result}
use Rattle.scope.specs.declared.Node.{Node}
use Rattle.scope.specs.declared.Refusal.{Refusal}
use Rattle.scope.specs.Outcome.{Outcome, answer, outcome_by, ◌>>=◌}
use Rattle.scope.specs.Table.{range_ok, node_at, list_from, encode}
use Rattle.scope.specs.Calls.{Added as Written, decode_used, add_node, bytes_after}
use Rattle.adding.specs.declared.Mark.{Mark}

-- the number and the values of every answer of add
abbrev pub added_of : Result Mark Refusal → Outcome Mark
added_of = outcome_by (λ m. m)

-- what add answers, without the bytes
abbrev pub marked : Outcome Written → Outcome Mark
marked w = w >>= λ x. answer (record { literal = x.literal; used = x.used })

-- the node count of a used part
abbrev pub used_count : List ℕ → Outcome ℕ
used_count t = decode_used t >>= λ rs. answer (length rs)

-- the nodes of the used part of a buffer
abbrev pub used_nodes : List ℕ → ℕ → ℕ → List Node
used_nodes buf used n = list_from (node_at (take used buf)) 0 n

-- the used part of a buffer is the table of its n nodes, whose operands are of earlier ones
pub record Ready (buf : List ℕ) (used n : ℕ) : Type 0 where
  pub within : used ≤ length buf
  pub few : n ≤ 2016
  pub table : take used buf ≡ encode (used_nodes buf used n)
  pub low : (m : ℕ) → m < n → range_ok (node_at (take used buf) m) m ≡ true

-- the answer and the bytes are those of the definition
pub record AddsTo (buf : List ℕ) (used n : ℕ) (x : Node) (v : Result Mark Refusal) (after : List ℕ) : Type 0 where
  pub answered : added_of v ≡ marked (add_node buf used (used_nodes buf used n) x)
  pub bytes : after ≡ bytes_after buf (add_node buf used (used_nodes buf used n) x)
