-- How the weighted sum of a block is formed: eight rows of 64 bytes, each five times over, and then their sum. Assumes nothing.
use Rattle.std.specs.Prelude.{◌≡◌, List, ℕ, zero, suc, ◌+◌, ◌*◌, ◌%◌, ◌<◌, length, get_or, drop}
use Rattle.scope.specs.Block.{weight, weighted}

-- the eight rows of a block, each five times over, modulo 65,521
pub record Rows (b s : List ℕ) : Type 0 where
  pub many : length s ≡ 8
  pub each : (r : ℕ) → r < 8 → get_or s r 0 % 65521 ≡ (5 * weighted (drop (64 * r) b) 64) % 65521

-- the sum of the first rows, each by a fifth of the weight that it starts with
unfoldable pub rows_sum : List ℕ → ℕ → ℕ
rows_sum s zero = 0
rows_sum s (suc r) = rows_sum s r + get_or s r 0 * ((52417 * weight (64 * r)) % 65521)
