-- The same questions as code walks them: through the subsets one by one, none stored but the one at hand. Assumes nothing.
use Rattle.std.specs.Prelude.{List, [], ◌∷◌, ◌++◌, ℕ, zero, suc, ◌-◌, length, get_or}
use Rattle.calculus.specs.Order.{Answer, possible, impossible, unfinished}
use Rattle.wishing.specs.Wish.{Wished}

-- on the way, with the questions put and the allowance left; or at the end
pub data Stage : Type 0 where
  asking : ℕ → ℕ → Stage
  stopped : Wished → Stage

-- what an answer makes of it
abbrev pub heard : Answer → ℕ → ℕ → ℕ → Stage
heard (possible G) size put left = stopped (record { standing = G; k = size; u = size; questions = suc put })
heard impossible size put left = asking (suc put) left
heard unfinished size put left = asking (suc put) left

module _ (ask : List ℕ → Answer) (first : List ℕ) (g : ℕ) where
  -- at a question q: g goals, and behind them the wishes chosen
  unfoldable pub step : List ℕ → Stage → Stage
  step q (asking put zero) = stopped (record { standing = first; k = 0; u = length q - g; questions = put })
  step q (asking put (suc left)) = heard (ask q) (length q - g) put left
  step q (stopped r) = stopped r

  module _ (wishes : List ℕ) where
    -- s more of the n wishes from lo on, behind the list q
    unfoldable pub visit : ℕ → ℕ → ℕ → List ℕ → Stage → Stage
    visit lo n zero q st = step q st
    visit lo zero (suc s) q st = st
    visit lo (suc n) (suc s) q st = visit (suc lo) n (suc s) q (visit (suc lo) n s (q ++ get_or wishes lo 0 ∷ []) st)

    -- all sizes, falling from s, behind the goals q
    unfoldable pub visits : List ℕ → ℕ → Stage → Stage
    visits q zero st = st
    visits q (suc s) st = visits q s (visit 0 (length wishes) (suc s) q st)

-- all subsets refused: k = u = 0
abbrev pub finish : List ℕ → Stage → Wished
finish first (asking put left) = record { standing = first; k = 0; u = 0; questions = put }
finish first (stopped r) = r
