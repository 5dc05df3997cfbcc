-- Where records stand in a table. Assumes nothing.
use Rattle.std.specs.Prelude.{ℕ, ◌+◌, ◌*◌, ◌/◌, ◌%◌}

-- where the record of node n starts
abbrev pub place_of : ℕ → ℕ
place_of n = 512 * (n / 63) + (4 + 8 * (n % 63))
