-- 02, 'Wishes, within a question allowance': the questions in their order, and what an allowance of them comes to. Assumes nothing.
use Rattle.std.specs.Prelude.{List, [], ◌∷◌, ◌++◌, map, Bool, ℕ, zero, suc, ◌+◌, length}
use Rattle.scope.specs.Outcome.{Outcome, answer, refused}
use Rattle.calculus.specs.Count.{one}
use Rattle.calculus.specs.Order.{Answer, possible, impossible, unfinished}
use Rattle.questions.specs.Indices.{picked}

-- 'dictionary order of their rising index lists': those of s of the n indices from lo on; first all that have lo, then all others
unfoldable pub subsets : ℕ → ℕ → ℕ → List (List ℕ)
subsets lo n zero = [] ∷ []
subsets lo zero (suc s) = []
subsets lo (suc n) (suc s) = map (lo ∷◌) (subsets (suc lo) n s) ++ subsets (suc lo) n (suc s)

-- 'all wishes, then subsets by falling size', of w wishes, from size s on. The empty one is the goals alone, which are possible
unfoldable pub queries : ℕ → ℕ → List (List ℕ)
queries w zero = []
queries w (suc s) = subsets 0 w (suc s) ++ queries w s

-- 'Return the setting, k wishes met for certain, an upper bound u, and the questions put': the setting by its final list
pub record Wished : Type 0 where
  pub standing : List ℕ
  pub k : ℕ
  pub u : ℕ
  pub questions : ℕ

-- 'The first possible question replaces the setting'; u 'becomes k on success'. A refused one counts, and the others go on
abbrev pub after : Answer → ℕ → Wished → Wished
after (possible G) size rest = record { standing = G; k = size; u = size; questions = 1 }
after impossible size rest = record { standing = rest.standing; k = rest.k; u = rest.u; questions = suc rest.questions }
after unfinished size rest = record { standing = rest.standing; k = rest.k; u = rest.u; questions = suc rest.questions }

-- An allowance spent on the subsets that are left. 'k starts at 0'; 'u is the largest size with a subset not yet refused': that of the
-- next one. 'Stop when k = u or the allowance is spent, and not sooner.'
module _ (ask : List ℕ → Answer) (first : List ℕ) where
  unfoldable pub spend : ℕ → List (List ℕ) → Wished
  spend m [] = record { standing = first; k = 0; u = 0; questions = 0 }
  spend zero (q ∷ qs) = record { standing = first; k = 0; u = length q; questions = 0 }
  spend (suc m) (q ∷ qs) = after (ask q) (length q) (spend m qs)

-- 'each the goals with some wishes after them'
abbrev pub question : (List ℕ → Answer) → List ℕ → List ℕ → List ℕ → Answer
question ask goals wishes q = ask (goals ++ picked wishes q)

abbrev pub granted : (List ℕ → Answer) → List ℕ → List ℕ → ℕ → List ℕ → Wished
granted ask goals wishes m first = spend (question ask goals wishes) first m (queries (length wishes) (length wishes))

-- 'Decide the goals alone first, uncounted; its setting is the first answer.' '67 goals alone impossible'
abbrev pub wished : (List ℕ → Answer) → List ℕ → List ℕ → ℕ → Answer → Outcome Wished
wished ask goals wishes m (possible G) = answer (granted ask goals wishes m G)
wished ask goals wishes m impossible = refused 67 0
wished ask goals wishes m unfinished = refused 67 0

-- how many literals of a list pass a test: how many wishes are met; one that stands twice counts twice
abbrev pub count : (ℕ → Bool) → List ℕ → ℕ
count p [] = 0
count p (l ∷ ls) = one (p l) + count p ls
