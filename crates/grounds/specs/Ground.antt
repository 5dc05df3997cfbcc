-- What the clause of a unit or a conflict rests on: the slots of its literals and of the literal that gave it. Assumes nothing.
use Rattle.std.specs.Prelude.{◌≡◌, cond, List, [], ◌∷◌, ℕ, ◌+◌, ◌-◌, ◌*◌, ◌/◌, ◌%◌, ◌^◌, ◌<◌, eqb, length, get_or}
use Rattle.scope.specs.declared.Node.{Node}
use Rattle.scope.specs.Table.{arity, operands, list_from}
use Rattle.calculus.specs.Expansion.{expand}
use Rattle.calculus.specs.Order.{holds, value_of, clauses}
use Rattle.calculus.specs.Model.{All}
use Rattle.calculus.specs.Jump.{Rests, nothing, both}
use Rattle.state.specs.Work.{tail, g_of, lit_at, entry_of, base_of}
use Rattle.rests.specs.Words.{rest_at, There}

-- the slot of a node's literal: 1 + its position, or 0 where neither literal is held
abbrev pub slot_of : (ℕ → ℕ) → ℕ → ℕ
slot_of r l = (entry_of r (l / 2) + 1) / 2

-- the numbers below k
abbrev pub up_to : ℕ → List ℕ
up_to k = list_from (λ i. i) 0 k

-- the rows from TRUE's on, 2 × (kind - 1) + sign, as bits of a number, whose clause j has the operand j alone; each clause of the others has
-- all operands
abbrev pub singles : ℕ
singles = 37520

abbrev pub in_row : ℕ → ℕ → ℕ → List ℕ
in_row kind sign j = cond (eqb (singles / 2 ^ (2 * (kind - 1) + sign) % 2) 1) (j ∷ []) (up_to (arity kind))

-- which operands of its node clause j of a literal has
abbrev pub operands_in : (ℕ → Node) → ℕ → ℕ → List ℕ
operands_in t l j = in_row (t (l / 2)).kind (l % 2) j

-- the sets at the slots of some operands of a node, and the set s
unfoldable pub over : List ℕ → (ℕ → ℕ) → Node → Rests → List ℕ → Rests
over m r y s [] = s
over m r y s (i ∷ is) = both (rest_at m (slot_of r (get_or (operands y) i 0))) (over m r y s is)

-- `to` is a slot past those of the literals held
pub record Room (w m : List ℕ) (to : ℕ) : Type 0 where
  pub none : rest_at m 0 ≡ nothing
  pub past : tail w 0 < to
  pub there : There m to

-- none of a clause's literals is true
abbrev pub Unmet : List ℕ → List ℕ → Type 0
Unmet G c = All (λ l. value_of G l ≡ holds → ⊥) c

-- position q has a clause j, with no true literal, and `to` is a slot past those of the literals held
pub record Grounded (t : ℕ → Node) (goals w m : List ℕ) (q j to : ℕ) : Type 0 where
  pub none : rest_at m 0 ≡ nothing
  pub held : q < tail w 0
  pub column : j < length (expand t (lit_at (tail w) q))
  pub unmet : Unmet (g_of w) (get_or (clauses (expand t) goals (g_of w)) (base_of (tail w) q + j) [])
  pub past : length (g_of w) < to
  pub there : There m to
