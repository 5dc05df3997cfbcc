-- What the call does: the answer of the definition `grant`, its settings, and what the answer means. Assumes nothing.
use Rattle.std.specs.Prelude.{◌≡◌, ◌⊎◌, true, cond, List, ◌++◌, ℕ, suc, ◌+◌, ◌^◌, ◌<◌, ◌≤◌, eqb, length, take, drop, Result}
use Rattle.scope.specs.declared.Node.{Node}
use Rattle.scope.specs.declared.Refusal.{Refusal}
use Rattle.scope.specs.Outcome.{Outcome, answer, refused, fine, outcome_by, ◌>>=◌}
use Rattle.scope.specs.Table.{list_from, decode}
use Rattle.scope.specs.Truth.{truth}
use Rattle.scope.specs.Kleene.{Fills}
use Rattle.calculus.specs.Order.{setting_of}
use Rattle.calculus.specs.Model.{All, question_size, Goals, Below}
use Rattle.calculus.specs.Decide.{Unsatisfiable, ◌⇔◌}
use Rattle.index.specs.Index.{index_node}
use Rattle.asking.specs.Within.{Within}
use Rattle.questions.specs.Asking.{asks}
use Rattle.granting.specs.declared.Grant.{Grant}
use Rattle.wishing.specs.Wish.{Wished, wished, count}
use Rattle.wishing.specs.Call.{most_wishes, lists_row, wishes_asked, Granted, grant, granted_after}

-- the number and the values of every case of the call's answer
abbrev pub wished_of : Result Grant Refusal → Outcome Grant
wished_of = outcome_by (λ g. g)

-- the wishes met, the bound and the questions put
abbrev pub grant_of : Wished → Grant
grant_of d = record { met = d.k; bound = d.u; questions = d.questions }

-- a list with another behind its first `at` literals
abbrev pub Copied : List ℕ → List ℕ → ℕ → List ℕ → Type 0
Copied from list at list' = take (at + length from) list' ≡ take at list ++ from

-- the goals and behind them the wishes, where no row on the two lists refuses
pub record Gathers (goals wishes list' : List ℕ) (r : ℕ) : Type 0 where
  pub few : r ≤ length list'
  pub both : lists_row goals wishes ≡ fine → take r list' ≡ goals ++ wishes

-- rows 10 to 17, 62, 66, 20, 21 and 23; where none refuses, the list begins with the goals
pub record WishesAsk (t goals wishes : List ℕ) (points area : ℕ) (list' x : List ℕ) (r : Result ℕ Refusal) : Type 0 where
  pub asks : Within (lists_row goals wishes) t (goals ++ wishes) 1024 points area x r
  pub gathered : lists_row goals wishes ≡ fine → take (length goals) list' ≡ goals

-- the settings, where a wish was met: those of the literals that the work area holds
abbrev pub Stands : (ℕ → Node) → ℕ → ℕ → List ℕ → List ℕ → List ℕ → Type 0
Stands t n met G s s' = s' ≡ cond (eqb met 0) s (setting_of (list_from t 0 n) G ++ drop 1024 s)

-- what may be put to an index: the goals, which the list begins with, and the wishes
pub record Posed (n : ℕ) (goals wishes list : List ℕ) : Type 0 where
  pub size : length list ≡ question_size
  pub first : take (length goals) list ≡ goals
  pub goals_fit : Goals n goals
  pub wishes_fit : Below n wishes
  pub few : length wishes ≤ most_wishes
  pub room : length goals + length wishes ≤ question_size

-- the settings bytes after an outcome: those of what stands; a refusal changes none
abbrev pub settings_by : List Node → List ℕ → Outcome Wished → List ℕ
settings_by rs s (answer d) = setting_of rs d.standing ++ drop 1024 s
settings_by rs s (refused number place) = s

-- the goals alone, then the questions, over an index of n nodes
pub record Answered (x : List ℕ) (n : ℕ) (goals wishes : List ℕ) (m : ℕ) (s s' : List ℕ) (r : Result Grant Refusal) : Type 0 where
  pub answered : wished_of r ≡ (wished (asks (index_node x) n) goals wishes m (asks (index_node x) n goals) >>= λ d. answer (grant_of d))
  pub settings : s' ≡ settings_by (list_from (index_node x) 0 n) s (wished (asks (index_node x) n) goals wishes m (asks (index_node x) n goals))

-- The call, of the table t, lists of goals and of wishes, an allowance of m questions, and the settings s and the work area w, which it
-- leaves as s' and w'
pub record Wishes (t goals wishes : List ℕ) (m : ℕ) (s w s' w' : List ℕ) (r : Result Grant Refusal) : Type 0 where
  -- the answer is that of the questions in their order, or the first row's that refuses
  pub answered : wished_of r ≡ (grant t goals wishes m s w >>= λ d. answer (grant_of d.wished))
  -- the settings bytes: 'its setting is the first answer', 'The first possible question replaces the setting'; a refusal leaves them
  pub settings : s' ≡ granted_after s (grant t goals wishes m s w)
  -- a refusal up to 23 leaves the work area as it was
  pub work : (number place : ℕ) → wishes_asked t goals wishes (length s) (length w) ≡ refused number place → w' ≡ w
  -- '67 goals alone impossible': exactly when no setting makes all goals true
  pub alone : (rs : List Node) → wishes_asked t goals wishes (length s) (length w) ≡ answer rs → (wished_of r ≡ refused 67 0) ⇔ Unsatisfiable t goals
  -- 'k wishes met for certain': for every way of filling the 2s of the settings that were written, all goals are true and k wishes
  pub met : (g : Grant) → wished_of r ≡ answer g → (rs : List Node) → decode t ≡ answer rs → (f : List ℕ) → Fills s' f
      → All (λ l. truth f rs l ≡ true) goals × (g.met ≤ count (truth f rs) wishes)
  -- 'No setting that meets the goals meets more than u wishes.'
  pub bound : (g : Grant) → wished_of r ≡ answer g → (rs : List Node) → decode t ≡ answer rs → (v : List ℕ) → All (λ l. truth v rs l ≡ true) goals
      → count (truth v rs) wishes ≤ g.bound
  -- 'the questions put, which never exceed the allowance'
  pub within : (g : Grant) → wished_of r ≡ answer g → g.questions ≤ m
  -- 'Stop when k = u or the allowance is spent'
  pub stopped : (g : Grant) → wished_of r ≡ answer g → (g.met ≡ g.bound) ⊎ (g.questions ≡ m)
  -- '.. and not sooner': with any allowance below the questions put, it is spent and k < u
  pub sooner : (g : Grant) → wished_of r ≡ answer g → (l : ℕ) → l < g.questions
      → (h : Granted) × (grant t goals wishes l s w ≡ answer h) × ((h.wished.questions ≡ l) × (h.wished.k < h.wished.u))
  -- 'A larger allowance never lowers k or raises u.'
  pub larger : (g : Grant) → wished_of r ≡ answer g → (l : ℕ) → m ≤ l
      → (h : Granted) × (grant t goals wishes l s w ≡ answer h) × ((g.met ≤ h.wished.k) × (h.wished.u ≤ g.bound))
  -- an allowance of as many questions as there are gives k = u
  pub enough : (g : Grant) → wished_of r ≡ answer g → 2 ^ length wishes ≤ suc m → g.met ≡ g.bound
