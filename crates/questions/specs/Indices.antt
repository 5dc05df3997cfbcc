-- Lists of indices, and the literals that stand there. Assumes nothing.
use Rattle.std.specs.Prelude.{List, [], ◌∷◌, map, ℕ, zero, suc, ◌<◌, ◌≤◌, get_or}

-- rising indices from lo on and below hi
abbrev pub Rising : ℕ → ℕ → List ℕ → Type 0
Rising lo hi [] = Unit {0}
Rising lo hi (i ∷ is) = (lo ≤ i) × ((i < hi) × Rising (suc i) hi is)

-- the literals of a list at indices
abbrev pub picked : List ℕ → List ℕ → List ℕ
picked ls is = map (λ i. get_or ls i 0) is

-- 0, 1, .., i - 1 in front of other indices
unfoldable pub up_to : ℕ → List ℕ → List ℕ
up_to zero is = is
up_to (suc i) is = up_to i (i ∷ is)
