-- Nodes of at most two operands as numbers, the table under way that they are, and one node more. Assumes nothing.
use Rattle.std.specs.Prelude.{◌≡◌, cond, ℕ, ◌+◌, ◌*◌, ◌/◌, ◌%◌, ◌<◌, ◌≤◌, ltb, length, take, drop, Result, Ok, Err}
use mathlib.Core.List.{List, map, flat_map}
use Rattle.scope.specs.declared.Node.{Node}
use Rattle.scope.specs.declared.Refusal.{Refusal}
use Rattle.scope.specs.Outcome.{Outcome, outcome_by}
use Rattle.scope.specs.Table.{node_bytes, encode}
use Rattle.scope.specs.Calls.{Added, written, add_node}
use Rattle.codec.specs.Valid.{Valid}
use Rattle.growing.specs.Chains.{Chains}

-- the node of a number, and the number of a node whose operands are below 4,096
unfoldable pub node_in : ℕ → Node
node_in k = record { kind = k / 4096 / 4096; a = k % 4096; b = k / 4096 % 4096; c = 0 }

abbrev pub key_of : ℕ → ℕ → ℕ → ℕ
key_of kind a b = 16777216 * kind + (4096 * b + a)

-- the nodes of the first n numbers
unfoldable pub nodes_in : List ℕ → ℕ → List Node
nodes_in keys n = map node_in (take n keys)

-- a table under way: a number for each of its nodes, how many they are, and for how many there is room
pub record Table : Type 0 where
  pub keys : List ℕ
  pub count : ℕ
  pub room : ℕ

-- it stands at the start of a buffer, with a literal
abbrev pub state : ℕ → Table → List ℕ → Added
state l t buf =
    record { literal = l; used = length (encode (nodes_in t.keys t.count)); bytes = written (encode (nodes_in t.keys t.count)) buf }

-- how many nodes the blocks that a buffer has room for hold, and a table may have
unfoldable pub room_of : ℕ → ℕ
room_of len = cond (ltb len 16384) (63 * (len / 512)) 2016

-- what is answered over a buffer
abbrev pub outcome_of : Table → List ℕ → Result ℕ Refusal → Outcome Added
outcome_of t buf = outcome_by (λ l. state l t buf)

-- the first n numbers are of nodes that a table may have, with their chains
pub record Under (keys head next : List ℕ) (room n : ℕ) : Type 0 where
  pub within : n ≤ room
  pub few : room ≤ 2016
  pub valid : 0 < length (nodes_in keys n) → Valid (nodes_in keys n)
  pub chains : Chains keys head next n

-- .. without the chains
pub record Sound (t : Table) : Type 0 where
  pub within : t.count ≤ t.room
  pub few : t.room ≤ 2016
  pub valid : 0 < length (nodes_in t.keys t.count) → Valid (nodes_in t.keys t.count)
  pub size : length t.keys ≡ 2016

-- over every buffer with so much room the answer is the outcome given, with the table that is left
pub record Grows (out : List ℕ → Outcome Added) (room : ℕ) (v : Result ℕ Refusal) (t : Table) : Type 0 where
  pub said : (buf : List ℕ) → room_of (length buf) ≡ room → out buf ≡ outcome_of t buf v
  pub room_is : t.room ≡ room
  pub low : (l : ℕ) → v ≡ Ok l → l < 4032

-- a refusal is one of add's, which are below 60, and not of a text's, 60 and 61
abbrev pub FromAdd : Result ℕ Refusal → Type 0
FromAdd v = (r : Refusal) → v ≡ Err r → r.number < 60

-- the node of k joins a table
abbrev pub joins : Table → ℕ → List ℕ → Outcome Added
joins t k buf = add_node (state 0 t buf).bytes (state 0 t buf).used (nodes_in t.keys t.count) (node_in k)

-- the records of n numbers, from one on
unfoldable pub records_in : List ℕ → ℕ → ℕ → List ℕ
records_in keys from n = flat_map node_bytes (map node_in (take n (drop from keys)))

-- how many of the nodes that are left a block takes: all that it can hold
pub record Held (left r : ℕ) : Type 0 where
  pub most : r ≤ 63
  pub all : left ≤ 63 → r ≡ left
  pub full : 63 ≤ left → r ≡ 63

-- the table of the first n numbers, written to the start of a buffer
pub record WritesTo (keys : List ℕ) (n : ℕ) (buf after : List ℕ) (used : ℕ) : Type 0 where
  pub used_is : used ≡ length (encode (nodes_in keys n))
  pub bytes : after ≡ written (encode (nodes_in keys n)) buf

-- .. a table under way
abbrev pub Writes : Table → List ℕ → List ℕ → ℕ → Type 0
Writes t buf after used = WritesTo t.keys t.count buf after used
