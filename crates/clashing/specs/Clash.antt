-- 02, 'Which conditions clash': 'A writer told impossible wants the few goals to argue about.' Assumes nothing.
use Rattle.std.specs.Prelude.{List, [], ◌∷◌, Bool, false, cond, ℕ, zero, suc, length}
use Rattle.scope.specs.Outcome.{Outcome, answer, require, ◌>>◌, ◌>>=◌}
use Rattle.calculus.specs.Order.{Answer}
use Rattle.calculus.specs.Decide.{asked}
use Rattle.rules.specs.Derive.{is_impossible}
use Rattle.questions.specs.Indices.{picked, up_to}
use Rattle.questions.specs.Asking.{answered}

-- the goals at these indices are impossible together; 'The empty list counts as possible here.'
abbrev pub clashes : (List ℕ → Answer) → List ℕ → List ℕ → Bool
clashes ask goals [] = false
clashes ask goals (i ∷ is) = is_impossible (ask (picked goals (i ∷ is)))

-- 'Walk the list from last to first, dropping a goal if the remaining ones are still impossible together.' The goals before i are not
-- looked at yet, and remain; `kept` are the indices kept so far, 'in rising order'
unfoldable pub walk : (List ℕ → Bool) → ℕ → List ℕ → List ℕ
walk test zero kept = kept
walk test (suc i) kept = cond (test (up_to i kept)) (walk test i kept) (walk test i (i ∷ kept))

-- 'Give the kept indices in rising order'; 63: 'the goals are possible together'
abbrev pub argued : (List ℕ → Answer) → List ℕ → Outcome (List ℕ)
argued ask goals = require (is_impossible (ask goals)) 63 0 >> answer (walk (clashes ask goals) (length goals) [])

-- rows 10 to 17, 62, 20, 23, then 63
unfoldable pub clash : List ℕ → List ℕ → List ℕ → Outcome (List ℕ)
clash t goals work = asked t goals 0 0 (length work) >>= λ rs. argued (answered rs) goals
