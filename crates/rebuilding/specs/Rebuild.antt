-- Request 09, rebuilding a table with kind 5: 'each record is added with its operands replaced by their rebuilt literals'.
-- Assumes nothing.
use Rattle.std.specs.Prelude.{List, [], ◌∷◌, ◌++◌, map, cond, ℕ, ◌*◌, ◌/◌, ◌%◌, eqb, length, get_or}
use Rattle.scope.specs.declared.Node.{Node}
use Rattle.scope.specs.Outcome.{Outcome, answer, require, ◌>>◌, ◌>>=◌}
use Rattle.scope.specs.Table.{node_bytes, neg, operands, with_operands, decode}
use Rattle.scope.specs.Calls.{normal, index_of, add}
use Rattle.codec.specs.Valid.{with_node, Built}
use Rattle.codec.specs.Given.{apart}

-- the rebuilt literal of a literal, where m has that of each record: of a negation it is the negation
unfoldable pub rebuilt : List ℕ → ℕ → ℕ
rebuilt m l = cond (eqb (l % 2) 0) (get_or m (l / 2) 0) (neg (get_or m (l / 2) 0))

-- 'with its operands replaced by their rebuilt literals'
unfoldable pub mapped : List ℕ → Node → Node
mapped m x = with_operands x (map (rebuilt m) (operands x))

-- records added one after another to the table in the used part, where m has the literals so far; add's refusal 'ends' it
unfoldable pub rebuild_from : List ℕ → List ℕ → ℕ → List Node → Outcome Built
rebuild_from m buf used [] = answer (record { literals = m; used = used; bytes = buf })
rebuild_from m buf used (x ∷ xs) =
    add buf used (node_bytes (mapped m x))
    >>= λ out. rebuild_from (m ++ out.literal ∷ []) out.bytes out.used xs

-- a table rebuilt in a buffer in which nothing is used: the rebuilt literal of each record, the used length, the bytes
unfoldable pub rebuild : List ℕ → List ℕ → Outcome Built
rebuild t buf = decode t >>= λ rs. rebuild_from [] buf 0 rs

-- ---- the same on nodes, where no buffer is too short

pub record Rebuilt : Type 0 where
  pub nodes : List Node
  pub literals : List ℕ

-- one record more: its node, which is looked up, and the literal of that
abbrev pub following : List ℕ → List Node → Node → Rebuilt
following m qs x = record {
  nodes = with_node qs (normal (mapped m x));
  literals = m ++ 2 * index_of (normal (mapped m x)) (with_node qs (normal (mapped m x))) ∷ [];
}

-- 'where two operands have become one node, add gives 16 and the rebuild ends there'
unfoldable pub nodes_from : List ℕ → List Node → List Node → Outcome Rebuilt
nodes_from m qs [] = answer (record { nodes = qs; literals = m })
nodes_from m qs (x ∷ xs) =
    require (apart (operands (mapped m x))) 16 (length qs)
    >> nodes_from (following m qs x).literals (following m qs x).nodes xs
