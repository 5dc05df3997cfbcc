-- What the clauses of a literal come to, by its row of the templates and the values of its node's operands. Assumes nothing.
use Rattle.std.specs.Prelude.{Bool, cond, ◌||◌, List, [], ◌∷◌, map, ℕ, ◌+◌, ◌-◌, ◌*◌, ◌/◌, ◌%◌, eqb, ltb, length, get_or}
use Rattle.scope.specs.Table.{list_from}
use Rattle.calculus.specs.Expansion.{templates}
use Rattle.calculus.specs.Order.{Value, holds, fails, undecided, State, empty, joined, is_empty, is_one, is_many, some, first_of, literal_at, bit}

-- a value by its number: 0 undecided, 1 true, 2 false
abbrev pub numbered : ℕ → Value
numbered v = cond (eqb v 1) holds (cond (eqb v 2) fails undecided)

abbrev pub opposite : Value → Value
opposite holds = fails
opposite fails = holds
opposite undecided = undecided

-- the value of a choice, where vs are the operands' values as numbers
unfoldable pub choice_value : List ℕ → ℕ → Value
choice_value vs c =
    let v = numbered (get_or vs (c / 2) 0) in
    cond (eqb (c % 2) 0) v (opposite v)

-- what a clause of choices is, as `state_of` says it of a clause of literals
unfoldable pub state_by : (ℕ → Value) → List ℕ → State
state_by f [] = empty
state_by f (c ∷ cs) = joined (f c) c (state_by f cs)

-- what the clauses of a row are
abbrev pub row_states : List (List ℕ) → List ℕ → List State
row_states cs vs = map (state_by (choice_value vs)) cs

-- no literal is true, and one is undecided
abbrev pub is_open : State → Bool
is_open s = is_one s || is_many s

-- where some clause passes a test, a number of the first that does, else 0
abbrev pub first_if : (State → Bool) → (List State → ℕ → ℕ) → List State → ℕ
first_if p f ss = cond (some p ss) (f ss (first_of p ss)) 0

-- the code. Bit 0: some clause is a unit; bit 1: some clause is all false; bit 2: some clause is open. Then numbers: from 8 on which
-- clause the first unit is, from 32 on the choice of its literal, from 256 on which clause the first all false one is, from 1024 on the
-- choice of the first undecided literal of the first open clause, and from 8192 on how many clauses there are
unfoldable pub code_of : List State → ℕ
code_of ss =
    bit (some is_one ss) + 2 * bit (some is_empty ss) + 4 * bit (some is_open ss) + 8 * first_if is_one (λ _ k. k) ss
    + 32 * first_if is_one literal_at ss + 256 * first_if is_empty (λ _ k. k) ss + 1024 * first_if is_open literal_at ss + 8192 * length ss

-- the code of a row, at the values of the operands
abbrev pub row_code : ℕ → List ℕ → ℕ
row_code row vs = code_of (row_states (get_or templates row []) vs)

-- the codes one after another: nine for each row of a kind with at most two operands, then 27 for each row of kinds 7 and 8. In a row they
-- go by the number that the values are to base three, the first value as the highest digit
abbrev pub pair_codes : ℕ
pair_codes = 126

abbrev pub codes_size : ℕ
codes_size = 234

-- row 14 is the first of kind 7
unfoldable pub code_at : ℕ → ℕ
code_at i =
    cond (ltb i pair_codes)
    (row_code (i / 9) (i / 3 % 3 ∷ i % 3 ∷ []))
    (row_code (14 + (i - pair_codes) / 27) ((i - pair_codes) / 9 % 3 ∷ i / 3 % 3 ∷ i % 3 ∷ []))

-- CODES
abbrev pub codes : List ℕ
codes = list_from code_at 0 codes_size

-- ---- the classes: what a node of two operands comes to by an edge, when the literal of the edge's node with sign no has become true

abbrev pub classes_size : ℕ
classes_size = 216

-- of a code: 0 where no clause is a unit or all false, 1 where one is all false, else 2 + the sign of what the first unit forces + 4,096 ×
-- which clause that is
unfoldable pub class_of : ℕ → ℕ
class_of r = cond (eqb (r / 2 % 2) 1) 1 (cond (eqb (r % 2) 1) (2 + r / 32 % 2 + 4096 * (r / 8 % 4)) 0)

-- where the code of a node of two operands stands: of its kind, its literal's sign, the side of the operand that is known, that one's value
-- and the other's
abbrev pub code_place : ℕ → ℕ → ℕ → ℕ → ℕ → ℕ
code_place kind sign side mine other = 9 * (2 * kind + sign) + cond (eqb side 0) (3 * mine + other) (3 * other + mine)

-- nine for each type + no: in them 3 × how the node is held, 0 not, 1 by its positive literal, 2 by its negation, + the other operand's
-- value. The type is 3 × (kind - 3 + 4 × side) + the sign of the known operand, which is true where that and no are the same
unfoldable pub class_at : ℕ → ℕ
class_at i =
    cond (eqb (i / 3 % 3) 0) 0
    (class_of (code_at (code_place (3 + i / 27 % 4) (i / 3 % 3 - 1) (i / 108) (cond (eqb (i / 9 % 3) 1) 2 1) (i % 3))))

-- CLASSES
abbrev pub classes : List ℕ
classes = list_from class_at 0 classes_size
