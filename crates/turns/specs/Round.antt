-- 02, request 13, second part: questions under one allowance. Assumes nothing.
use Rattle.std.specs.Prelude.{List, [], ◌∷◌, Bool, cond, ℕ, zero, suc, ◌+◌, ◌-◌, eqb, ltb}
use Rattle.calculus.specs.Count.{one, tally}
use Rattle.scope.specs.declared.Node.{Node}
use Rattle.calculus.specs.Decide.{settings_on}
use Rattle.turns.specs.Turn.{Search, running, verdict_of, is_running, turn}

-- the questions' searches, and the number after that of the question served last: 0 where none was
pub record Round : Type 0 where
  pub searches : ℕ → Search
  pub next : ℕ

-- what the first call sets up
abbrev pub opening : Round
opening = record { searches = λ i. running []; next = 0 }

-- question i is unfinished; and how many of q questions are
abbrev pub runs : Round → ℕ → Bool
runs R i = is_running (R.searches i)

abbrev pub remaining : ℕ → Round → ℕ
remaining q R = tally (runs R) q

-- the first of n numbers from i on that passes; i + n where none does
unfoldable pub seek : (ℕ → Bool) → ℕ → ℕ → ℕ
seek p i zero = i
seek p i (suc n) = cond (p i) i (seek p (suc i) n)

-- 'Turns go round in question order over the unfinished ones, and resume after the question served last': of q numbers, the first
-- that passes from `next` on, or else the first of all; q where none does
unfoldable pub up_next : (ℕ → Bool) → ℕ → ℕ → ℕ
up_next p q next = cond (ltb (seek p next (q - next)) q) (seek p next (q - next)) (seek p 0 q)

abbrev pub whose : ℕ → Round → ℕ
whose q R = up_next (runs R) q R.next

-- sums: of the first n values, and of a list
unfoldable pub total : (ℕ → ℕ) → ℕ → ℕ
total f zero = 0
total f (suc n) = f n + total f n

unfoldable pub sum : List ℕ → ℕ
sum [] = 0
sum (m ∷ ms) = m + sum ms

-- 'one goal each': the turn of question i
abbrev pub turn_for : (ℕ → List (List ℕ)) → (ℕ → ℕ) → ℕ → Search → Search
turn_for expand goal i = turn expand (goal i ∷ [])

-- q questions, with the turn of each
module _ (turn_of : ℕ → Search → Search) (q : ℕ) where
  -- question w makes a turn
  abbrev pub served : ℕ → Round → Round
  served w R = record { searches = λ i. cond (eqb i w) (turn_of i (R.searches i)) (R.searches i); next = suc w }

  unfoldable pub serve : Round → Round
  serve R = cond (ltb (whose q R) q) (served (whose q R) R) R

  -- 'each later one has an allowance of turns and spends it all unless every question is finished'
  unfoldable pub spend : ℕ → Round → Round
  spend zero R = R
  spend (suc m) R = spend m (serve R)

  -- 'the turns reported for each are the steps made for it in that call'
  unfoldable pub turns_for : ℕ → Round → ℕ → ℕ
  turns_for zero R i = 0
  turns_for (suc m) R i = one (eqb i (whose q R)) + turns_for m (serve R) i

  -- 'Split into calls of any allowances'
  unfoldable pub calls : List ℕ → Round → Round
  calls [] R = R
  calls (m ∷ ms) R = calls ms (spend m R)

-- a question's setting bytes after a call: 'a verdict comes with the turn that reaches it, the question's setting bytes change only then'
abbrev pub written : List Node → Search → Search → List ℕ → List ℕ
written rs before after s = cond (is_running before) (settings_on rs s (verdict_of after)) s
