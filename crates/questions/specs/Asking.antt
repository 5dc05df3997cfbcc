-- What an answer says: of any kind of truths, and of a table's settings. Assumes nothing.
use Rattle.std.specs.Prelude.{◌≡◌, List, [], Bool, true, false, ℕ, length}
use Rattle.scope.specs.declared.Node.{Node}
use Rattle.scope.specs.declared.Truth.{Truth}
use Rattle.scope.specs.declared.Truth.TheVariants.{Yes, No, Unknown}
use Rattle.scope.specs.Outcome.{Outcome, answer, refused, fine}
use Rattle.scope.specs.Kleene.{NoTwo, Fills}
use Rattle.scope.specs.Calls.{settings_test, evaluate}
use Rattle.calculus.specs.Expansion.{expand}
use Rattle.calculus.specs.Order.{tree, Answer, possible, impossible, unfinished, answer_of, setting_of}
use Rattle.calculus.specs.Decide.{nodes_of}
use Rattle.calculus.specs.Model.{All}

-- what the search of a list of literals ends on: over n nodes, and over a table's
abbrev pub asks : (ℕ → Node) → ℕ → List ℕ → Answer
asks t n ls = answer_of (tree (expand t) ls n [])

abbrev pub answered : List Node → List ℕ → Answer
answered rs = asks (nodes_of rs) (length rs)

-- The literals that fit are answered: possible with a list G where some truths go by G and all that do make them true, impossible where
-- none make them true
pub record Decides (Truths : Type 0) (holds : Truths → ℕ → Bool) (By : List ℕ → Truths → Type 0) (Fit : ℕ → Type 0) (ask : List ℕ → Answer) : Type 0 where
  pub any : Truths
  pub base : Fit 0
  pub some : (ls G : List ℕ) → All Fit ls → ask ls ≡ possible G → (v : Truths) × By G v
  pub makes : (ls G : List ℕ) → All Fit ls → ask ls ≡ possible G → (v : Truths) → By G v → All (λ l. holds v l ≡ true) ls
  pub none : (ls : List ℕ) → All Fit ls → ask ls ≡ impossible → (v : Truths) → All (λ l. holds v l ≡ true) ls → ⊥
  pub ends : (ls : List ℕ) → All Fit ls → ask ls ≡ unfinished → ⊥

-- ---- the settings of a table

-- a setting of 0 and 1
abbrev pub Setting : Type 0
Setting = (v : List ℕ) × NoTwo v

abbrev pub is_yes : Outcome Truth → Bool
is_yes (answer Yes) = true
is_yes (answer No) = false
is_yes (answer Unknown) = false
is_yes (refused number place) = false

-- 'A setting makes a goal true when the goal's truth under it is true', as evaluate says
abbrev pub says : List ℕ → Setting → ℕ → Bool
says t v l = is_yes (evaluate t l v.0)

-- a way of filling the 2s of the setting of a final list
abbrev pub FilledBy : List Node → List ℕ → Setting → Type 0
FilledBy rs G v = Fills (setting_of rs G) v.0 × (settings_test v.0 ≡ fine)
