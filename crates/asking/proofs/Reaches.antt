-- The nodes up to the highest of the literals'. Assumes nothing.
use mathlib.Core.Path.{◌≡◌}
use mathlib.Core.List.{List}
use Prim.Native.Nat.{ℕ, ◌+◌, ◌*◌, ◌<◌, ◌≤◌}
use native.Mathlib.Omega.{arith}
use native.Mathlib.Decide.{ℕ_discrete}
use lib.ListN.{length, get_or}
use Rattle.calculus.specs.Model.{Below}
use Rattle.calculus.proofs.Lists.{all_at, all_index}
use Rattle.asking.specs.Within.{Farther, Reach}

-- before literal i is looked at
pub record Reaching (goals : List ℕ) (top i : ℕ) : Type 0 where
  pub turns : i ≤ length goals
  pub before : (j : ℕ) → j < i → get_or goals j 0 < 2 * top
  pub least : (n : ℕ) → Below n goals → top ≤ n

pub reaching_none : (goals : List ℕ) → Reaching goals 0 0
reaching_none goals = record { turns = omega arith; before = λ j h. absurd (omega arith); least = λ n b. omega arith }

pub reaching_more : {goals : List ℕ} {top i r : ℕ} → i < length goals → Reaching goals top i → Farther top (get_or goals i 0) r → Reaching goals r (i + 1)
reaching_more {goals} {top} {i} {r} h p f = record {
  turns = omega arith;
  before = λ j b. go j b (ℕ_discrete j i);
  least = λ n b. f.least n (p.least n b) (all_at (λ l. l < 2 * n) goals i 0 b h);
}
  where
    go : (j : ℕ) → j < i + 1 → Dec (j ≡ i) → get_or goals j 0 < 2 * r
    go j b (yes e) = rw e f.over
    go j b (no d) = omega (arith, p.before j (omega arith), f.from)

pub reaching_all : {goals : List ℕ} {top i : ℕ} → length goals ≤ i → Reaching goals top i → Reach goals top
reaching_all {goals} {top} h p = record { below = all_index (λ l. l < 2 * top) goals 0 (λ j b. p.before j (omega arith)); least = p.least }
