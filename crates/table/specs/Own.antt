-- What a record says of itself. Assumes nothing.
use Rattle.std.specs.Prelude.{List, ℕ}
use Rattle.scope.specs.Outcome.{Outcome, fine, ◌>>◌}
use Rattle.scope.specs.Block.{record_at}
use Rattle.scope.specs.Table.{tables, read_record}

-- rows 14 to 16 of node n
abbrev pub own_rows : List ℕ → ℕ → Outcome (Unit {0})
own_rows t n = read_record (record_at tables t n) n >> fine
