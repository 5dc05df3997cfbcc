-- Which row of 14 to 16 a record's tests end at, where x is the node that the code has read.
-- Assumes nothing.
use mathlib.Core.Path.{◌≡◌}
use mathlib.Core.List.{List}
use mathlib.Core.Bool.{true, false}
use Prim.Native.Nat.{ℕ}
use lib.ListN.{get_or}
use Rattle.scope.specs.declared.Node.{Node}
use Rattle.scope.specs.Outcome.{answer, refused}
use Rattle.scope.specs.Table.{node_of, form_ok, range_ok, order_ok, read_record}

module _ (r : List ℕ) (n : ℕ) {x : Node} (e : x ≡ node_of r) where
  pub row_14 : form_ok x (get_or r 1 0) ≡ false → refused 14 n ≡ read_record r n
  unfolding read_record
  row_14 f = rw (← e, f)

  pub row_15 : form_ok x (get_or r 1 0) ≡ true → range_ok x n ≡ false → refused 15 n ≡ read_record r n
  unfolding read_record
  row_15 f g = rw (← e, f, g)

  pub row_16 : form_ok x (get_or r 1 0) ≡ true → range_ok x n ≡ true → order_ok x ≡ false → refused 16 n ≡ read_record r n
  unfolding read_record
  row_16 f g h = rw (← e, f, g, h)

  -- none: the node is the answer
  pub no_row : form_ok x (get_or r 1 0) ≡ true → range_ok x n ≡ true → order_ok x ≡ true → answer x ≡ read_record r n
  unfolding read_record
  no_row f g h = rw (← e, f, g, h)
