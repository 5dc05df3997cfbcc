-- What clash does: the answer of the definition `clash`, and what the answer means. Assumes nothing.
use Rattle.std.specs.Prelude.{◌≡◌, List, ◌∷◌, ◌++◌, ℕ, ◌-◌, length, take, replicate, Result, Ok, Err}
use Rattle.std.specs.Result.{IsErrAnd}
use Rattle.scope.specs.declared.Node.{Node}
use Rattle.scope.specs.declared.Refusal.{Refusal}
use Rattle.scope.specs.Outcome.{Outcome, answer, refused}
use Rattle.calculus.specs.Model.{most_goals}
use Rattle.calculus.specs.Decide.{asked, Satisfies, Unsatisfiable, ◌⇔◌}
use Rattle.questions.specs.Indices.{Rising, picked}
use Rattle.clashing.specs.Clash.{clash}
use Rattle.clashing.specs.declared.Clashed.{Clashed}

-- the indices, 'by value with its count', 0 past them
abbrev pub counted_kept : List ℕ → Clashed
counted_kept is = record { count = length is; kept = is ++ replicate (most_goals - length is) 0 }

-- the values of an answer; of a refusal its number and place
abbrev pub clashed_of : Outcome (List ℕ) → Result Clashed Refusal
clashed_of (answer is) = Ok (counted_kept is)
clashed_of (refused number place) = Err (record { number = number; place = place })

-- the goals at these indices are a few to argue about
pub record Clashing (t goals is : List ℕ) : Type 0 where
  pub rising : Rising 0 (length goals) is
  -- 'They are impossible together'
  pub together : Unsatisfiable t (picked goals is)
  -- 'and leaving out any single one of them makes the others possible'
  pub single : (a b : List ℕ) (j : ℕ) → is ≡ a ++ j ∷ b → (v : List ℕ) × Satisfies t (picked goals (a ++ b)) v

-- Clash, of the table t, a list of goals, and the work area w, which it leaves as w'
pub record Clashes (t goals w w' : List ℕ) (r : Result Clashed Refusal) : Type 0 where
  -- the walk's list, or the first row's refusal
  pub answered : r ≡ clashed_of (clash t goals w)
  -- a refusal by the rows 10 to 17, 62, 20 and 23 leaves the work area as it was
  pub work : (number place : ℕ) → asked t goals 0 0 (length w) ≡ refused number place → w' ≡ w
  -- no refusal: the goals kept are such a few
  pub kept : (k : Clashed) → r ≡ Ok k → Clashing t goals (take k.count k.kept)
  -- behind these rows, 63 is said exactly when one setting makes all goals true
  pub exact : (rs : List Node) → asked t goals 0 0 (length w) ≡ answer rs → IsErrAnd r (λ f. f.number ≡ 63) ⇔ ((v : List ℕ) × Satisfies t goals v)
