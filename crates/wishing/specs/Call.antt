-- 02, 'Wishes, within a question allowance': the call. Assumes nothing.
use Rattle.std.specs.Prelude.{List, ◌++◌, ℕ, leb, length, drop}
use Rattle.scope.specs.declared.Node.{Node}
use Rattle.scope.specs.Outcome.{Outcome, answer, refused, require, ◌>>◌, ◌>>=◌}
use Rattle.calculus.specs.Order.{setting_of}
use Rattle.calculus.specs.Decide.{list_row, asked_by}
use Rattle.questions.specs.Asking.{answered}
use Rattle.wishing.specs.Wish.{Wished, wished}

-- 'goals and 0 to 16 wishes'
abbrev pub most_wishes : ℕ
most_wishes = 16

-- '66 over 16 wishes, between 62 (goals only) and 20'
abbrev pub lists_row : List ℕ → List ℕ → Outcome (Unit {0})
lists_row goals wishes = list_row goals >> require (leb (length wishes) most_wishes) 66 0

-- 'for refusal 20 wishes are indexed after the goals': rows 10 to 17, 62, 66, 20, 21, 23
abbrev pub wishes_asked : List ℕ → List ℕ → List ℕ → ℕ → ℕ → Outcome (List Node)
wishes_asked t goals wishes points area = asked_by (lists_row goals wishes) t (goals ++ wishes) 1024 points area

-- what is granted, and the settings bytes afterwards
pub record Granted : Type 0 where
  pub wished : Wished
  pub settings : List ℕ

-- 'Turned away: .. 67 goals alone impossible, after 23'
unfoldable pub grant : List ℕ → List ℕ → List ℕ → ℕ → List ℕ → List ℕ → Outcome Granted
grant t goals wishes m s work =
    wishes_asked t goals wishes (length s) (length work)
    >>= λ rs. wished (answered rs) goals wishes m (answered rs goals)
    >>= λ r. answer (record { wished = r; settings = setting_of rs r.standing ++ drop 1024 s })

-- the settings bytes after a call: a refusal changes none
abbrev pub granted_after : List ℕ → Outcome Granted → List ℕ
granted_after s (answer g) = g.settings
granted_after s (refused number place) = s
