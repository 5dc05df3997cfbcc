-- 01, 'The table', settings and evaluate: truth under a setting. Assumes nothing.
use Rattle.std.specs.Prelude.{List, [], ◌∷◌, ◌++◌, map, Bool, true, false, cond, not, ◌&&◌, ◌||◌, ℕ, ◌/◌, ◌%◌, eqb, get_or}
use Rattle.std.specs.Bool.{beq}
use Rattle.scope.specs.declared.Node.{Node}
use Rattle.scope.specs.Table.{operands}

-- What truths are: of TRUE, of a point by its byte, of a negation, and of those that are joined. `none` is that of a node that is not
-- there, which no readable table asks for.
pub record Logic (A : Type 0) : Type 0 where
  pub yes : A
  pub none : A
  pub point : ℕ → A
  pub opposite : A → A
  pub both : A → A → A
  pub either : A → A → A
  pub alike : A → A → A

-- several joined, x the first
abbrev pub chained : {A : Type 0} → (A → A → A) → A → List A → A
chained f x [] = x
chained f x (y ∷ ys) = f x (chained f y ys)

module _ {A : Type 0} (L : Logic A) where
  -- 'a negation is the opposite': a literal's truth, where the nodes' truths are given
  unfoldable pub lit_truth : List A → ℕ → A
  lit_truth v l = cond (eqb (l % 2) 0) (get_or v (l / 2) L.none) (L.opposite (get_or v (l / 2) L.none))

  -- 'kinds 3 to 6 join their operands' truths by and, or, implies, if and only if'; 'Kind 7 is AND and kind 8 OR of three literals'
  unfoldable pub joined : ℕ → List A → A
  joined kind [] = L.none
  joined kind (x ∷ xs) =
      cond (eqb kind 3 || eqb kind 7) (chained L.both x xs)
      (cond (eqb kind 4 || eqb kind 8) (chained L.either x xs)
      (cond (eqb kind 5) (chained L.either (L.opposite x) xs)
      (chained L.alike x xs)))

  -- 'TRUE is true, an ATOM is true where its point is 1'; the setting s gives a byte for each point
  unfoldable pub node_truth : List ℕ → List A → Node → A
  node_truth s v x =
      cond (eqb x.kind 1) L.yes
      (cond (eqb x.kind 2) (L.point (get_or s x.a 0))
      (joined x.kind (map (lit_truth v) (operands x))))

  -- the truths of nodes one after another, each from those before it
  unfoldable pub truths_from : List ℕ → List A → List Node → List A
  truths_from s v [] = v
  truths_from s v (x ∷ xs) = truths_from s (v ++ node_truth s v x ∷ []) xs

  -- the truth of a literal of a table's nodes under a setting
  unfoldable pub truth_in : List ℕ → List Node → ℕ → A
  truth_in s rs l = lit_truth (truths_from s [] rs) l

-- 'Truth values are classical'
abbrev pub classical : Logic Bool
classical = record {
  yes = true;
  none = false;
  point = λ b. eqb b 1;
  opposite = not;
  both = ◌&&◌;
  either = ◌||◌;
  alike = beq;
}

abbrev pub truth : List ℕ → List Node → ℕ → Bool
truth s rs l = truth_in classical s rs l
