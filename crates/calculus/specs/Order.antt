-- 01, 'The solver's order': moves, and the search as a tree. The clauses of a literal come from any `expand`. Assumes nothing.
use Rattle.std.specs.Prelude.{List, [], ◌∷◌, ◌++◌, map, Bool, true, false, cond, not, ◌&&◌, ◌||◌, ℕ, zero, suc, ◌+◌, ◌*◌, eqb, get_or}
use Rattle.scope.specs.declared.Node.{Node}
use Rattle.scope.specs.Table.{list_from}
use Rattle.calculus.specs.Expansion.{neg}
use Rattle.calculus.specs.declared.Move.{Move}
use Rattle.calculus.specs.declared.Move.TheVariants.{Conflict, Unit as Single, Done, Split}

-- 'G is the list of literals held true': here the newest first
unfoldable pub mem : ℕ → List ℕ → Bool
mem l [] = false
mem l (x ∷ G) = eqb l x || mem l G

-- 'A literal is true if in G, false if its negation is, else undecided.'
pub data Value : Type 0 where
  holds : Value
  fails : Value
  undecided : Value

unfoldable pub value_of : List ℕ → ℕ → Value
value_of G l = cond (mem l G) holds (cond (mem (neg l) G) fails undecided)

-- what a clause is under G, by its true and its undecided literals
pub data State : Type 0 where
  met : State
  empty : State
  one : ℕ → State
  many : ℕ → State

-- one more undecided literal in front of the others
abbrev pub opened : ℕ → State → State
opened l met = met
opened l empty = one l
opened l (one m) = many l
opened l (many m) = many l

-- one more literal in front of the others, of a value
abbrev pub joined : Value → ℕ → State → State
joined holds l s = met
joined fails l s = s
joined undecided l s = opened l s

-- `met`: a literal is true. `empty`: all are false. `one l`: none is true, and only l is undecided. `many l`: none is true,
-- several are undecided, and l is the first of them
unfoldable pub state_of : List ℕ → List ℕ → State
state_of G [] = empty
state_of G (l ∷ c) = joined (value_of G l) l (state_of G c)

-- the literal that a state names
abbrev pub literal_of : State → ℕ
literal_of met = 0
literal_of empty = 0
literal_of (one l) = l
literal_of (many l) = l

abbrev pub is_empty : State → Bool
is_empty met = false
is_empty empty = true
is_empty (one l) = false
is_empty (many l) = false

abbrev pub is_one : State → Bool
is_one met = false
is_one empty = false
is_one (one l) = true
is_one (many l) = false

abbrev pub is_many : State → Bool
is_many met = false
is_many empty = false
is_many (one l) = false
is_many (many l) = true

-- some state passes the test; and the number of the first that does
unfoldable pub some : (State → Bool) → List State → Bool
some p [] = false
some p (s ∷ ss) = p s || some p ss

unfoldable pub first_of : (State → Bool) → List State → ℕ
first_of p [] = 0
first_of p (s ∷ ss) = cond (p s) 0 (suc (first_of p ss))

abbrev pub literal_at : List State → ℕ → ℕ
literal_at ss k = literal_of (get_or ss k met)

-- 'Repeat, conflict being tested first':
-- '1. Some clause has all literals false: CONFLICT on the first such.
--  2. Some clause has no true literal and exactly one undecided: UNIT on the first such; that literal joins G.
--  3. Every clause has a true literal: possible.
--  4. SPLIT on the first undecided literal l of the first clause with no true one.'
unfoldable pub move_of : List State → Move
move_of ss =
    cond (some is_empty ss) (Conflict (first_of is_empty ss))
    (cond (some is_one ss) (Single (first_of is_one ss) (literal_at ss (first_of is_one ss)))
    (cond (not (some is_many ss)) Done
    (Split (literal_at ss (first_of is_many ss)))))

module _ (expand : ℕ → List (List ℕ)) (goals : List ℕ) where
  -- 'The starting clauses are one per goal, in list order, numbered from 0', then 'the expansions of G's literals in the order they joined'
  unfoldable pub clauses : List ℕ → List (List ℕ)
  clauses [] = map (◌∷ []) goals
  clauses (l ∷ G) = clauses G ++ expand l

  unfoldable pub move : List ℕ → Move
  move G = move_of (map (state_of G) (clauses G))

-- The search: CONFLICT, UNIT, SPLIT with its left and its right branch, possible with the final G; `cut` where the fuel ran out,
-- which does not happen with as much as there are nodes
pub data Tree : Type 0 where
  conflict : ℕ → Tree
  unit : ℕ → ℕ → Tree → Tree
  split : ℕ → Tree → Tree → Tree
  model : List ℕ → Tree
  cut : Tree

-- 'SPLIT works through the left branch with l, then the right with ¬l. Both start from the G of the split'
abbrev pub grow : Move → List ℕ → (List ℕ → Tree) → Tree
grow (Conflict k) G go = conflict k
grow (Single k l) G go = unit k l (go (l ∷ G))
grow Done G go = model G
grow (Split l) G go = split l (go (l ∷ G)) (go (neg l ∷ G))

module _ (expand : ℕ → List (List ℕ)) (goals : List ℕ) where
  unfoldable pub tree : ℕ → List ℕ → Tree
  tree zero G = grow (move expand goals G) G (λ F. cut)
  tree (suc fuel) G = grow (move expand goals G) G (tree fuel)

-- what a search ends on
pub data Answer : Type 0 where
  possible : List ℕ → Answer
  impossible : Answer
  unfinished : Answer

-- 'a model on the left ends the search. Impossible: all branches closed.'
abbrev pub or_else : Answer → Answer → Answer
or_else (possible G) r = possible G
or_else impossible r = r
or_else unfinished r = unfinished

unfoldable pub answer_of : Tree → Answer
answer_of (conflict k) = impossible
answer_of (unit k l below) = answer_of below
answer_of (split l left right) = or_else (answer_of left) (answer_of right)
answer_of (model G) = possible G
answer_of cut = unfinished

abbrev pub bit : Bool → ℕ
bit true = 1
bit false = 0

-- the literals of a node
abbrev pub positive : ℕ → ℕ
positive n = 2 * n

abbrev pub negative : ℕ → ℕ
negative n = 2 * n + 1

-- the literal of a point's ATOM, of a sign, is in G
unfoldable pub atom_held : (ℕ → ℕ) → List Node → ℕ → List ℕ → ℕ → Bool
atom_held sign [] n G p = false
atom_held sign (x ∷ rs) n G p = ((eqb x.kind 2 && eqb x.a p) && mem (sign n) G) || atom_held sign rs (suc n) G p

-- a point is yes (1) if its positive ATOM literal is in the final G, no (0) if its negative one is; '2 for a point with neither sign
-- in the final list'
abbrev pub byte_of : Bool → Bool → ℕ
byte_of held denied = cond held 1 (cond denied 0 2)

-- the 1,024 settings bytes
unfoldable pub setting_of : List Node → List ℕ → List ℕ
setting_of rs G = list_from (λ p. byte_of (atom_held positive rs 0 G p) (atom_held negative rs 0 G p)) 0 1024
