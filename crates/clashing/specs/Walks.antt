-- What the functions of the walk are handed and leave, and what lets it pass over goals. The indices kept stand at the end of an array of 64,
-- from `first` on. Assumes nothing.
use Rattle.std.specs.Prelude.{◌≡◌, List, [], ◌∷◌, Bool, true, false, ℕ, ◌<◌, ◌≤◌, length}
use Rattle.calculus.specs.Order.{Answer}
use Rattle.calculus.specs.Model.{All, most_goals, Below}
use Rattle.rules.specs.Derive.{is_impossible}

-- the literals put in a question: room for the goals kept, and behind it all goals
abbrev pub list_size : ℕ
list_size = 128

-- literals are impossible together; as in `clashes`, none are possible
abbrev pub refuted : (List ℕ → Answer) → List ℕ → Bool
refuted ask [] = false
refuted ask (l ∷ ls) = is_impossible (ask (l ∷ ls))

-- goals that rows 62 and 20 let pass, so that an index of each fits an array of 64
pub record Passed (n : ℕ) (goals : List ℕ) : Type 0 where
  pub most : length goals ≤ most_goals
  pub below : Below n goals

-- the indices kept, from `first` on
pub record Held (kept : List ℕ) (first : ℕ) : Type 0 where
  pub size : length kept ≡ most_goals
  pub within : first ≤ most_goals

-- `few` has no index that `all` has not: a test that all of `all` pass, all of `few` pass
abbrev pub Among : List ℕ → List ℕ → Type 0
Among few all = (p : ℕ → Bool) → All (λ k. p k ≡ true) all → All (λ k. p k ≡ true) few

-- a test that holds of some indices holds of more, all below w, in whatever order
abbrev pub Grows : ℕ → (List ℕ → Bool) → Type 0
Grows w test = (few all : List ℕ) → Among few all → All (λ k. k < w) all → test few ≡ true → test all ≡ true
