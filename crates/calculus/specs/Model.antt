-- What the solver's theorems speak of: readable tables' nodes, the truths that agree with them, and the lists that a search holds. Assumes nothing.
use Rattle.std.specs.Prelude.{◌≡◌, List, [], ◌∷◌, map, Bool, true, cond, ℕ, ◌*◌, ◌/◌, ◌%◌, ◌<◌, ◌≤◌, eqb, length}
use Rattle.scope.specs.declared.Node.{Node}
use Rattle.scope.specs.declared.Truth.{Truth}
use Rattle.scope.specs.declared.Truth.TheVariants.{Yes}
use Rattle.scope.specs.Table.{operands}
use Rattle.scope.specs.Truth.{Logic, joined, classical}
use Rattle.scope.specs.Kleene.{kleene}
use Rattle.calculus.specs.Order.{mem, value_of, undecided}

-- every element of a list has a property
abbrev pub All : {A : Type 0} → (A → Type 0) → List A → Type 0
All P [] = Unit {0}
All P (x ∷ xs) = P x × All P xs

-- n nodes of a readable table: the kinds are known, the operands 'are literals of .. earlier nodes', 'no record repeats'
pub record Table (n : ℕ) (t : ℕ → Node) : Type 0 where
  pub kinds : (i : ℕ) → i < n → (0 < (t i).kind) × ((t i).kind < 9)
  pub earlier : (i : ℕ) → i < n → All (λ l. l / 2 < i) (operands (t i))
  pub atoms : (i j : ℕ) → i < n → j < n → (t i).kind ≡ 2 → (t j).kind ≡ 2 → (t i).a ≡ (t j).a → i ≡ j

-- 'a negation is the opposite': a literal's truth, where v gives the nodes'
unfoldable pub lit_in : {A : Type 0} → Logic A → (ℕ → A) → ℕ → A
lit_in L v l = cond (eqb (l % 2) 0) (v (l / 2)) (L.opposite (v (l / 2)))

-- truths that agree with the nodes; an ATOM has any
pub record Model {A : Type 0} (L : Logic A) (n : ℕ) (t : ℕ → Node) (v : ℕ → A) : Type 0 where
  pub top : (i : ℕ) → i < n → (t i).kind ≡ 1 → v i ≡ L.yes
  pub join : (i : ℕ) → i < n → 2 < (t i).kind → v i ≡ joined L (t i).kind (map (lit_in L v) (operands (t i)))

-- two-valued truths: all literals of a list are true
abbrev pub lit_true : (ℕ → Bool) → ℕ → Bool
lit_true v l = lit_in classical v l

abbrev pub AllTrue : (ℕ → Bool) → List ℕ → Type 0
AllTrue v ls = All (λ l. lit_true v l ≡ true) ls

-- truths by Kleene's tables: all literals of a list are yes
abbrev pub AllYes : (ℕ → Truth) → List ℕ → Type 0
AllYes v ls = All (λ l. lit_in kleene v l ≡ Yes) ls

-- truths in which each literal of an ATOM that is in G is yes; other ATOMs have any
abbrev pub HeldAtoms : (ℕ → Node) → List ℕ → (ℕ → Truth) → Type 0
HeldAtoms t G v = (l : ℕ) → mem l G ≡ true → (t (l / 2)).kind ≡ 2 → lit_in kleene v l ≡ Yes

-- all literals of a list are those of n nodes
abbrev pub Below : ℕ → List ℕ → Type 0
Below n ls = All (λ l. l < 2 * n) ls

-- 'a list of 1 to 64 goal literals'
abbrev pub most_goals : ℕ
most_goals = 64

-- what one search has room for: as many goals, and 16 literals more
abbrev pub question_size : ℕ
question_size = 80

-- not too many literals to search for, of n nodes
pub record Goals (n : ℕ) (goals : List ℕ) : Type 0 where
  pub most : length goals ≤ question_size
  pub below : Below n goals

-- a literal of n nodes that may join G
abbrev pub Fresh : ℕ → List ℕ → ℕ → Type 0
Fresh n G l = (l < 2 * n) × (value_of G l ≡ undecided)

-- a list in which each literal was fresh when it joined
abbrev pub Good : ℕ → List ℕ → Type 0
Good n [] = Unit {0}
Good n (l ∷ G) = Fresh n G l × Good n G
