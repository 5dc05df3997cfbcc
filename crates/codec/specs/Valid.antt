-- Bytes, formats whose blocks hold whole records, valid lists of nodes, and tables built by add. Assumes nothing.
use Rattle.std.specs.Prelude.{◌≡◌, false, cond, ℕ, ◌*◌, ◌/◌, ◌<◌, ◌≤◌, ltb, length, get_or, take, drop}
use mathlib.Core.List.{List, [], ◌∷◌, ◌++◌, flat_map, map}
use Rattle.scope.specs.declared.Format.{Format}
use Rattle.scope.specs.declared.Node.{Node}
use Rattle.scope.specs.Outcome.{Outcome, answer, ◌>>=◌}
use Rattle.scope.specs.Block.{blocks_of}
use Rattle.scope.specs.Table.{node_bytes, node_of, read_record, same_node, decode}
use Rattle.scope.specs.Calls.{no_node, decode_used, normal, index_of, Added, add}

-- every element is a byte (beyond the end `get_or` answers 0)
abbrev pub Bytes : List ℕ → Type 0
Bytes t = (i : ℕ) → get_or t i 0 < 256

-- a block of the format holds some records, and has room for them: 63 × 8 and 126 × 4 are 504
pub record Fits (F : Format) : Type 0 where
  pub some : 0 < F.capacity
  pub room : F.width * F.capacity ≡ 504

-- what a readable table's nodes are: 1 to 2,016, each reads at its place, none repeats
pub record Valid (rs : List Node) : Type 0 where
  pub some : 0 < length rs
  pub few : length rs ≤ 2016
  pub each : (n : ℕ) → n < length rs → read_record (node_bytes (get_or rs n no_node)) n ≡ answer (get_or rs n no_node)
  pub once : (m n : ℕ) → m < n → n < length rs → same_node (get_or rs m no_node) (get_or rs n no_node) ≡ false

-- no record has kind 5
abbrev pub NoImp : List Node → Type 0
NoImp rs = (n : ℕ) → n < length rs → (get_or rs n no_node).kind ≡ 5 → ⊥

-- the full blocks of a file that holds records, and the bytes of the records behind them
unfoldable pub front : {A : Type 0} → Format → (A → List ℕ) → List A → List ℕ
front F bytes rs = blocks_of F bytes (length rs / F.capacity) 0 (take (F.capacity * (length rs / F.capacity)) rs)

unfoldable pub rest : {A : Type 0} → Format → (A → List ℕ) → List A → List ℕ
rest F bytes rs = flat_map bytes (drop (F.capacity * (length rs / F.capacity)) rs)

-- nodes with one more, unless it stands there already
unfoldable pub with_node : List Node → Node → List Node
with_node rs x = cond (ltb (index_of x rs) (length rs)) rs (rs ++ x ∷ [])

-- after an add to the nodes rs that answered `out`: the table reads as rs with the node x, the literal is that of x, which stands
-- there, and no byte behind the used part has changed
pub record ReadsBack (buf : List ℕ) (rs : List Node) (x : Node) (out : Added) : Type 0 where
  pub table : decode (take out.used out.bytes) ≡ answer (with_node rs x)
  pub literal : out.literal ≡ 2 * index_of x (with_node rs x)
  pub node : get_or (with_node rs x) (out.literal / 2) no_node ≡ x
  pub beyond : drop out.used out.bytes ≡ drop out.used buf

-- what adding records leaves: the literal that each add answered, the used length, and the buffer's bytes
pub record Built : Type 0 where
  pub literals : List ℕ
  pub used : ℕ
  pub bytes : List ℕ

-- .. with an add before it
abbrev pub and_then : Added → Built → Built
and_then out b = record { literals = out.literal ∷ b.literals; used = b.used; bytes = b.bytes }

-- records added one after another
unfoldable pub add_all : List ℕ → ℕ → List (List ℕ) → Outcome Built
add_all buf used [] = answer (record { literals = []; used = used; bytes = buf })
add_all buf used (r ∷ rs) = add buf used r >>= λ out. add_all out.bytes out.used rs >>= λ b. answer (and_then out b)

-- records of exactly 8 bytes
abbrev pub Records : List (List ℕ) → Type 0
Records [] = Unit {0}
Records (r ∷ rs) = (length r ≡ 8) × Bytes r × Records rs

-- the node of a record that add is given
abbrev pub node_given : List ℕ → Node
node_given r = normal (node_of r)

-- nodes with those of records that were added, each once
unfoldable pub with_all : List Node → List (List ℕ) → List Node
with_all rs [] = rs
with_all rs (r ∷ more) = with_all (with_node rs (node_given r)) more

-- after records were added to the nodes rs: the table reads as rs with their nodes, and each answer was the literal of its node
pub record AllBack (rs : List Node) (given : List (List ℕ)) (b : Built) : Type 0 where
  pub table : decode_used (take b.used b.bytes) ≡ answer (with_all rs given)
  pub literals : b.literals ≡ map (λ r. 2 * index_of (node_given r) (with_all rs given)) given
