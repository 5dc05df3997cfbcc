-- A record as two numbers of 32 bits: kind, byte 1 and a; b and c. Assumes nothing.
use Rattle.std.specs.Prelude.{◌≡◌, List, true, ℕ, ◌+◌, ◌*◌, ◌/◌, ◌%◌}
use Rattle.scope.specs.declared.Node.{Node}
use Rattle.scope.specs.Block.{word_at}
use Rattle.scope.specs.Table.{form_ok, range_ok, order_ok}

-- the number at a place
abbrev pub double_at : List ℕ → ℕ → ℕ
double_at t at = word_at t at + 65536 * word_at t (at + 2)

-- the fields that the two numbers hold
abbrev pub halves_node : ℕ → ℕ → Node
halves_node low high = record { kind = low % 256; a = low / 65536; b = high % 65536; c = high / 65536 }

-- rows 14 to 16 let them pass as node n
pub record Passes (low high n : ℕ) : Type 0 where
  pub form : form_ok (halves_node low high) (low / 256 % 256) ≡ true
  pub range : range_ok (halves_node low high) n ≡ true
  pub order : order_ok (halves_node low high) ≡ true
