-- What evaluate answers, and which nodes it can take. Assumes nothing.
use Rattle.std.specs.Prelude.{◌≡◌, List, [], ◌∷◌, ℕ, zero, suc, ◌*◌, ◌/◌, ◌%◌, ◌<◌, ◌≤◌, true, ltb, length, get_or, Result}
use Rattle.scope.specs.declared.Node.{Node}
use Rattle.scope.specs.declared.Refusal.{Refusal}
use Rattle.scope.specs.declared.Truth.{Truth}
use Rattle.scope.specs.declared.Truth.TheVariants.{Yes, No, Unknown}
use Rattle.scope.specs.Outcome.{Outcome, fine, outcome_by}
use Rattle.scope.specs.Block.{records_in}
use Rattle.scope.specs.Table.{tables, operands, every, node_at, table_test, list_from}
use Rattle.scope.specs.Truth.{lit_truth, joined, node_truth, truths_from}
use Rattle.scope.specs.Kleene.{kleene}

-- the number and the values of every answer of evaluate
abbrev pub evaluated_of : Result Truth Refusal → Outcome Truth
evaluated_of = outcome_by (λ v. v)

-- truths as levels: so a negation is what is left of 2
unfoldable pub level : Truth → ℕ
level No = 0
level Unknown = 1
level Yes = 2

abbrev pub truth_of : ℕ → Truth
truth_of zero = No
truth_of (suc zero) = Unknown
truth_of (suc (suc n)) = Yes

-- how kinds 3 to 6 join two levels x and y: a row for each kind, in it the level at 3 x + y
abbrev pub join_at : ℕ → ℕ → ℕ
join_at kind i = level (joined kleene kind (truth_of (i / 3) ∷ truth_of (i % 3) ∷ []))

abbrev pub join_row : ℕ → List ℕ
join_row kind = list_from (join_at kind) 0 9

abbrev pub join_rows : List (List ℕ)
join_rows = list_from join_row 3 4

abbrev pub Levels : List ℕ → Type 0
Levels v = (i : ℕ) → get_or v i 0 ≤ 2

-- v has the level of each literal of nodes with the truths w
abbrev pub Says : List Truth → List ℕ → Type 0
Says w v = (l : ℕ) → l / 2 < length w → get_or v l 0 ≡ level (lit_truth kleene w l)

-- kinds count from 1 to 8, an ATOM's point is below 1,024, and operands are literals of nodes below n
pub record Low (x : Node) (n : ℕ) : Type 0 where
  pub kinds : 0 < x.kind
  pub known : x.kind < 9
  pub point : x.kind ≡ 2 → x.a < 1024
  pub below : every (λ l. ltb (l / 2) n) (operands x) ≡ true

-- r is the level of a node, where v has those of its operands
pub record NodeLevel (s v : List ℕ) (x : Node) (r : ℕ) : Type 0 where
  pub under : (w : List Truth) → Low x (length w) → Says w v → r ≡ level (node_truth kleene s w x)

-- the first nodes of a readable table, a setting for every point, and a place for the level of each literal
pub record Evaluable (t s v : List ℕ) (nodes : ℕ) : Type 0 where
  pub readable : table_test t ≡ fine
  pub inside : nodes ≤ records_in tables t
  pub points : 1024 ≤ length s
  pub room : 2 * nodes ≤ length v

-- v has the levels of the literals of a table's first n nodes
pub record Filled (t s : List ℕ) (n : ℕ) (v : List ℕ) : Type 0 where
  pub levels : Levels v
  pub says : Says (truths_from kleene s [] (list_from (node_at t) 0 n)) v
