-- What the functions that add a file's nodes are given. Assumes nothing.
use Rattle.std.specs.Prelude.{◌≡◌, List, ℕ, ◌/◌, ◌<◌, ◌≤◌, length, get_or}
use Rattle.cnffold.specs.declared.Pair.{Pair}

-- the first literals of an array are of variables
pub record Small (held : List ℕ) (count : ℕ) : Type 0 where
  pub within : count ≤ length held
  pub each : (i : ℕ) → i < count → get_or held i 0 < 2048

-- two literals, that of the lower node first
pub record InOrder (a b : ℕ) (r : Pair) : Type 0 where
  pub exchanged : b / 2 < a / 2 → (r.low ≡ b) × (r.high ≡ a)
  pub given : a / 2 ≤ b / 2 → (r.low ≡ a) × (r.high ≡ b)
