-- 01, 'Derivations', second part, 'A derivation names its goals' and 'Version two of the steps': the checker's state, its rules and
-- the goals that a derivation names. The clauses of a literal come from any `expand`. Assumes nothing.
use Rattle.std.specs.Prelude.{List, [], ◌∷◌, Bool, true, false, cond, not, ◌&&◌, ◌||◌, ℕ, suc, ◌*◌, eqb, ltb, length, get_or}
use Rattle.scope.specs.Outcome.{Outcome, answer, refused, require, fine, ◌>>◌, ◌>>=◌}
use Rattle.calculus.specs.Expansion.{neg}
use Rattle.calculus.specs.Order.{Value, holds, fails, undecided, value_of, mem, State, met, empty, one, many, state_of, is_empty as are_all_false, clauses}
use Rattle.rules.specs.declared.Step.{Step}
use Rattle.rules.specs.declared.Version.{Version}
use Rattle.rules.specs.declared.Version.TheVariants.{One, Two}

-- a literal of the clause list: a clause's number and a position in it
pub record Place : Type 0 where
  pub clause : ℕ
  pub position : ℕ

abbrev pub same_place : Place → Place → Bool
same_place x y = eqb x.clause y.clause && eqb x.position y.position

unfoldable pub among : Place → List Place → Bool
among x [] = false
among x (y ∷ ys) = same_place x y || among x ys

-- 'Checker's state: G, the clause list, and which literals and clauses were struck on this branch.' The clause list is that of G.
pub record Branch : Type 0 where
  pub G : List ℕ
  pub struck_clauses : List ℕ
  pub struck_literals : List Place

-- 'It starts as the solver's does, with nothing struck.'
abbrev pub root : Branch
root = record { G = []; struck_clauses = []; struck_literals = [] }

-- the literal joins G, and with it its expansion
abbrev pub join : ℕ → Branch → Branch
join l b = record { G = l ∷ b.G; struck_clauses = b.struck_clauses; struck_literals = b.struck_literals }

abbrev pub strike_clause : ℕ → Branch → Branch
strike_clause k b = record { G = b.G; struck_clauses = k ∷ b.struck_clauses; struck_literals = b.struck_literals }

abbrev pub strike_literal : Place → Branch → Branch
strike_literal x b = record { G = b.G; struck_clauses = b.struck_clauses; struck_literals = x ∷ b.struck_literals }

abbrev pub is_holds : Value → Bool
is_holds holds = true
is_holds fails = false
is_holds undecided = false

abbrev pub is_fails : Value → Bool
is_fails holds = false
is_fails fails = true
is_fails undecided = false

abbrev pub is_undecided : Value → Bool
is_undecided holds = false
is_undecided fails = false
is_undecided undecided = true

-- the literals of clause k from position p on that are not struck
unfoldable pub unstruck : Branch → ℕ → ℕ → List ℕ → List ℕ
unstruck b k p [] = []
unstruck b k p (l ∷ c) =
    cond (among (record { clause = k; position = p }) b.struck_literals)
    (unstruck b k (suc p) c)
    (l ∷ unstruck b k (suc p) c)

unfoldable pub any_holds : List ℕ → List ℕ → Bool
any_holds G [] = false
any_holds G (l ∷ c) = is_holds (value_of G l) || any_holds G c

-- a derivation under way: the open branch and those that wait for their right turn, the newest first; or complete
pub data Progress : Type 0 where
  running : Branch → List Branch → Progress
  complete : Progress

-- 'The branch closes; the newest open split turns right with its old state.' 'Closing the last branch completes the derivation.'
abbrev pub turn : List Branch → Progress
turn [] = complete
turn (b ∷ waiting) = running b waiting

-- the one literal of a list
abbrev pub only : List ℕ → Outcome ℕ
only [] = refused 45 0
only (l ∷ []) = answer l
only (l ∷ m ∷ c) = refused 45 0

-- the one undecided literal of a clause whose other literals are false
abbrev pub the_one : State → Outcome ℕ
the_one met = refused 45 0
the_one empty = refused 45 0
the_one (one l) = answer l
the_one (many l) = refused 45 0

-- a rule's condition, which has no number of its own here
abbrev pub given : Bool → Outcome (Unit {0})
given t = require t 45 0

-- ---- the goals that a derivation names

abbrev pub is_g : Step → Bool
is_g s = eqb s.rule 71

-- 'A derivation may open with steps of rule G .., one per goal in list order with the literal as value': their values, and the steps
-- after them
unfoldable pub names : List Step → List ℕ
names [] = []
names (s ∷ ss) = cond (is_g s) (s.value ∷ names ss) []

unfoldable pub body : List Step → List Step
body [] = []
body (s ∷ ss) = cond (is_g s) (body ss) (s ∷ ss)

abbrev pub is_empty : List ℕ → Bool
is_empty [] = true
is_empty (l ∷ ls) = false

unfoldable pub equal : List ℕ → List ℕ → Bool
equal [] [] = true
equal [] (g ∷ goals) = false
equal (l ∷ ls) [] = false
equal (l ∷ ls) (g ∷ goals) = eqb l g && equal ls goals

-- how far two lists are the same
unfoldable pub agreed : List ℕ → List ℕ → ℕ
agreed [] goals = 0
agreed (l ∷ ls) [] = 0
agreed (l ∷ ls) (g ∷ goals) = cond (eqb l g) (suc (agreed ls goals)) 0

-- a derivation of version one may name no goal; in version two 'G steps are compulsory'
abbrev pub may_be_unnamed : Version → Bool
may_be_unnamed One = true
may_be_unnamed Two = false

-- 'If its first step is a G, these must be exactly the caller's goals': 64, 'at the step where that shows (the step count if the file
-- ends first)', which is the first G that is wrong or one too many, or the step where one is missing
unfoldable pub names_test : Version → List ℕ → List ℕ → Outcome (Unit {0})
names_test v goals ls = require ((may_be_unnamed v && is_empty ls) || equal ls goals) 64 (agreed ls goals)

-- ---- the rules

module _ (expand : ℕ → List (List ℕ)) (goals : List ℕ) (nodes : ℕ) where
  -- clause k of the list of a branch
  abbrev pub clause_at : Branch → ℕ → List ℕ
  clause_at b k = get_or (clauses expand goals b.G) k []

  -- 'a clause stands if it is in the list and not struck'
  abbrev pub stands : Branch → ℕ → Bool
  stands b k = ltb k (length (clauses expand goals b.G)) && not (mem k b.struck_clauses)

  abbrev pub left : Branch → ℕ → List ℕ
  left b k = unstruck b k 0 (clause_at b k)

  -- 'U value k: clause k stands and has one unstruck literal, which is undecided. It joins G, its expansion is appended, k is struck.'
  unfoldable pub rule_u : ℕ → Branch → List Branch → Outcome Progress
  rule_u k b waiting =
      given (stands b k)
      >> (only (left b k)
      >>= λ l. given (is_undecided (value_of b.G l))
      >> answer (running (strike_clause k (join l b)) waiting))

  -- 'R position p, value k: clause k stands, its literal p exists, is unstruck and false. It is struck.'
  unfoldable pub rule_r : ℕ → ℕ → Branch → List Branch → Outcome Progress
  rule_r p k b waiting =
      given (stands b k)
      >> (given (ltb p (length (clause_at b k)))
      >> (given (not (among (record { clause = k; position = p }) b.struck_literals))
      >> (given (is_fails (value_of b.G (get_or (clause_at b k) p 0)))
      >> answer (running (strike_literal (record { clause = k; position = p }) b) waiting))))

  -- 'E k: clause k stands and an unstruck literal of it is true. k is struck.'
  unfoldable pub rule_e : ℕ → Branch → List Branch → Outcome Progress
  rule_e k b waiting =
      given (stands b k)
      >> (given (any_holds b.G (left b k))
      >> answer (running (strike_clause k b) waiting))

  -- 'C k: clause k stands and all its literals are struck.'
  unfoldable pub rule_c : ℕ → Branch → List Branch → Outcome Progress
  rule_c k b waiting =
      given (stands b k)
      >> (given (eqb (length (left b k)) 0)
      >> answer (turn waiting))

  -- 'S value l: l is below 2 × nodes and undecided. It joins G with its expansion; later ¬l does.'
  unfoldable pub rule_s : ℕ → Branch → List Branch → Outcome Progress
  rule_s l b waiting =
      given (ltb l (2 * nodes))
      >> (given (is_undecided (value_of b.G l))
      >> answer (running (join l b) (join (neg l) b ∷ waiting)))

  -- the rule of a step's letter, in version one
  unfoldable pub apply : Step → Branch → List Branch → Outcome Progress
  apply s b waiting =
      cond (eqb s.rule 85) (rule_u s.value b waiting)
      (cond (eqb s.rule 82) (rule_r s.position s.value b waiting)
      (cond (eqb s.rule 69) (rule_e s.value b waiting)
      (cond (eqb s.rule 67) (rule_c s.value b waiting)
      (rule_s s.value b waiting))))

  -- clause k is in the list of a branch
  abbrev pub in_list : Branch → ℕ → Bool
  in_list b k = ltb k (length (clauses expand goals b.G))

  -- version two: 'U needs every literal but one false under G and that one undecided ... and neither looks at strikes'. As nothing looks
  -- at them, nothing is struck
  unfoldable pub unit_two : ℕ → Branch → List Branch → Outcome Progress
  unit_two k b waiting =
      given (in_list b k)
      >> (the_one (state_of b.G (clause_at b k))
      >>= λ l. answer (running (join l b) waiting))

  -- 'C needs all false'
  unfoldable pub conflict_two : ℕ → Branch → List Branch → Outcome Progress
  conflict_two k b waiting =
      given (in_list b k)
      >> (given (are_all_false (state_of b.G (clause_at b k)))
      >> answer (turn waiting))

  -- the rule of a step's letter, in version two, which has no other: row 65 is before this
  unfoldable pub apply_two : Step → Branch → List Branch → Outcome Progress
  apply_two s b waiting =
      cond (eqb s.rule 85) (unit_two s.value b waiting)
      (cond (eqb s.rule 67) (conflict_two s.value b waiting)
      (cond (eqb s.rule 83) (rule_s s.value b waiting)
      (refused 45 0)))

  -- 'Letter 68 keeps the earlier rules'
  abbrev pub apply_in : Version → Step → Branch → List Branch → Outcome Progress
  apply_in One s b waiting = apply s b waiting
  apply_in Two s b waiting = apply_two s b waiting

module _ (version : Version) (expand : ℕ → List (List ℕ)) (goals : List ℕ) (nodes : ℕ) where
  -- 'each step in turn: 46 already complete, tested first; 45 its rule's condition fails', at step i; 64 of a late G 'after 46 and
  -- before 45'
  unfoldable pub advance : ℕ → Step → Progress → Outcome Progress
  advance i s complete = refused 46 i
  advance i s (running b waiting) = cond (is_g s) (refused 64 i) (at i (apply_in expand goals nodes version s b waiting))
    where
      at : ℕ → Outcome Progress → Outcome Progress
      at i (answer p) = answer p
      at i (refused number place) = refused 45 i

  -- 'end: 47 branches open', at the step count
  unfoldable pub ended : ℕ → Progress → Outcome (Unit {0})
  ended i complete = fine
  ended i (running b waiting) = refused 47 i

  -- the steps from step i on
  unfoldable pub run : ℕ → List Step → Progress → Outcome (Unit {0})
  run i [] p = ended i p
  run i (s ∷ ss) p = advance i s p >>= run (suc i) ss

  -- a whole derivation: the goals that it names, then the other steps from the solver's start
  unfoldable pub accepts : List Step → Outcome (Unit {0})
  accepts ss = names_test version goals (names ss) >> run (length (names ss)) (body ss) (running root [])
