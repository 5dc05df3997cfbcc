-- 'One wrong byte': two files that differ in exactly one byte. Assumes nothing.
use Rattle.std.specs.Prelude.{◌≡◌, List, ℕ, ◌<◌, length, get_or}

-- 'changing exactly one byte to another value': u is t but for byte k
pub record OneByte (t u : List ℕ) (k : ℕ) : Type 0 where
  pub long : length u ≡ length t
  pub inside : k < length t
  pub other : get_or u k 0 ≡ get_or t k 0 → ⊥
  pub rest : (i : ℕ) → (i ≡ k → ⊥) → get_or u i 0 ≡ get_or t i 0
