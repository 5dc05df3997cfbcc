-- 'add: 14 to 16 for the record given', said of that record before add turns and orders it. Assumes nothing.
use Rattle.std.specs.Prelude.{List, [], ◌∷◌, Bool, true, false, not, ◌&&◌, ◌||◌, ℕ, ◌/◌, eqb, get_or}
use Rattle.scope.specs.declared.Node.{Node}
use Rattle.scope.specs.Outcome.{Outcome, answer, require, ◌>>◌}
use Rattle.scope.specs.Table.{node_of, operands, form_ok, range_ok}
use Rattle.scope.specs.Calls.{normal}

-- some literal of the list is of l's node
unfoldable pub among : ℕ → List ℕ → Bool
among l [] = false
among l (k ∷ ks) = eqb (l / 2) (k / 2) || among l ks

-- none has 'same node twice'
unfoldable pub apart : List ℕ → Bool
apart [] = true
apart (l ∷ ls) = not (among l ls) && apart ls

-- Of row 16 'same node twice' is left: the order is made.
unfoldable pub read_given : List ℕ → ℕ → Outcome Node
read_given r n =
    require (form_ok (node_of r) (get_or r 1 0)) 14 n
    >> (require (range_ok (node_of r) n) 15 n
    >> (require (apart (operands (node_of r))) 16 n
    >> answer (normal (node_of r))))
