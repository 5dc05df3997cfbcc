-- What a move says of the clauses. Assumes nothing.
use mathlib.Core.Path.{◌≡◌, refl, sym, ◌∙◌, subst}
use mathlib.Core.List.{List, [], ◌∷◌, map}
use mathlib.Core.Bool.{Bool, true, false, cond, not, ◌||◌, false≢true}
use Prim.Native.Nat.{ℕ, suc, ◌<◌}
use native.Mathlib.Omega.{arith}
use lib.ListN.{length, get_or, length-map}
use Rattle.scope.proofs.Tests.{or_left, or_right}
use Rattle.calculus.specs.Order.{State, met, empty, one, many, state_of, literal_of, is_empty, is_one, is_many, some, first_of, literal_at, move_of, clauses, move, bit}
use Rattle.calculus.specs.Model.{All}
use Rattle.calculus.specs.declared.Move.{Move}
use Rattle.calculus.specs.declared.Move.TheVariants.{Conflict, Unit as Single, Done, Split}
use Rattle.calculus.proofs.Lists.{map_all, get_d_map}

-- a test as a number
pub bit-true : (b : Bool) → bit b ≡ 1 → b ≡ true
bit-true true e = refl
bit-true false e = absurd (omega arith)

pub bit-false : (b : Bool) → (bit b ≡ 1 → ⊥) → b ≡ false
bit-false true e = absurd (e refl)
bit-false false e = refl

-- the first state that passes a test stands in the list and passes
pub first_found : (p : State → Bool) (ss : List State) → some p ss ≡ true → (first_of p ss < length ss) × (p (get_or ss (first_of p ss) met) ≡ true)
unfolding some first_of
first_found p [] e = absurd (false≢true e)
first_found p (s ∷ ss) e = go (p s) refl e (first_found p ss)
  where
    go : (b : Bool) → p s ≡ b → (b || some p ss) ≡ true
        → (some p ss ≡ true → (first_of p ss < length ss) × (p (get_or ss (first_of p ss) met) ≡ true))
        → (cond b 0 (suc (first_of p ss)) < suc (length ss)) × (p (get_or (s ∷ ss) (cond b 0 (suc (first_of p ss))) met) ≡ true)
    go true q e r = (omega arith, q)
    go false q e r = (omega (arith, (r e).0), (r e).1)

-- what the tests say
pub empty-state : (s : State) → is_empty s ≡ true → s ≡ empty
empty-state met e = absurd (false≢true e)
empty-state empty e = refl
empty-state (one l) e = absurd (false≢true e)
empty-state (many l) e = absurd (false≢true e)

pub one_state : (s : State) → is_one s ≡ true → s ≡ one (literal_of s)
one_state met e = absurd (false≢true e)
one_state empty e = absurd (false≢true e)
one_state (one l) e = refl
one_state (many l) e = absurd (false≢true e)

many_state : (s : State) → is_many s ≡ true → s ≡ many (literal_of s)
many_state met e = absurd (false≢true e)
many_state empty e = absurd (false≢true e)
many_state (one l) e = absurd (false≢true e)
many_state (many l) e = refl

met_state : (s : State) → is_empty s ≡ false → is_one s ≡ false → is_many s ≡ false → s ≡ met
met_state met e f g = refl
met_state empty e f g = absurd (false≢true (sym e))
met_state (one l) e f g = absurd (false≢true (sym f))
met_state (many l) e f g = absurd (false≢true (sym g))

-- no state but `met` is left
all_met : (ss : List State) → some is_empty ss ≡ false → some is_one ss ≡ false → some is_many ss ≡ false → All (λ s. s ≡ met) ss
unfolding some
all_met [] e f g = tt
all_met (s ∷ ss) e f g = (
  met_state s (or_left (is_empty s) (some is_empty ss) e) (or_left (is_one s) (some is_one ss) f) (or_left (is_many s) (some is_many ss) g),
  all_met ss (or_right (is_empty s) (some is_empty ss) e) (or_right (is_one s) (some is_one ss) f) (or_right (is_many s) (some is_many ss) g),
)

-- a move's facts, over the states
abbrev Says : List State → Move → Type 0
Says ss (Conflict k) = (k < length ss) × (get_or ss k met ≡ empty)
Says ss (Single k l) = (k < length ss) × (get_or ss k met ≡ one l)
Says ss Done = All (λ s. s ≡ met) ss
Says ss (Split l) = (k : ℕ) × (k < length ss) × (get_or ss k met ≡ many l)

says : (ss : List State) → Says ss (move_of ss)
unfolding move_of
says ss = go (some is_empty ss) refl (some is_one ss) refl (some is_many ss) refl
  where
    go : (a : Bool) → some is_empty ss ≡ a → (b : Bool) → some is_one ss ≡ b → (c : Bool) → some is_many ss ≡ c
        → Says ss (cond a (Conflict (first_of is_empty ss)) (cond b (Single (first_of is_one ss) (literal_at ss (first_of is_one ss)))
        (cond (not c) Done (Split (literal_at ss (first_of is_many ss))))))
    go true e b f c g =
        let q = first_found is_empty ss e in
        (q.0, empty-state (get_or ss (first_of is_empty ss) met) q.1)
    go false e true f c g =
        let q = first_found is_one ss f in
        (q.0, one_state (get_or ss (first_of is_one ss) met) q.1)
    go false e false f true g =
        let q = first_found is_many ss g in
        (first_of is_many ss, q.0, many_state (get_or ss (first_of is_many ss) met) q.1)
    go false e false f false g = all_met ss e f g

module _ (expand : ℕ → List (List ℕ)) (goals : List ℕ) (G : List ℕ) where
  -- a clause of the list is in a state
  abbrev pub ClauseIs : ℕ → State → Type 0
  ClauseIs k s = (k < length (clauses expand goals G)) × (state_of G (get_or (clauses expand goals G) k []) ≡ s)

  abbrev states : List State
  states = map (state_of G) (clauses expand goals G)

  says-move : (m : Move) → move expand goals G ≡ m → Says states m
  unfolding move
  says-move m e = subst (Says states) e (says states)

  -- the same of a state's clause
  clause-is : (k : ℕ) (s : State) → (k < length states) × (get_or states k met ≡ s) → ClauseIs k s
  clause-is k s h =
      let b : k < length (clauses expand goals G) = omega (arith, length-map (clauses expand goals G) (state_of G), h.0) in
      (b, sym (get_d_map (state_of G) (clauses expand goals G) k [] met b) ∙ h.1)

  -- CONFLICT k, UNIT k l, SPLIT l and possible, each with the clause that it rests on
  pub conflict_clause : (k : ℕ) → move expand goals G ≡ Conflict k → ClauseIs k empty
  conflict_clause k e = clause-is k empty (says-move (Conflict k) e)

  pub unit_clause : (k l : ℕ) → move expand goals G ≡ Single k l → ClauseIs k (one l)
  unit_clause k l e = clause-is k (one l) (says-move (Single k l) e)

  pub split-clause : (l : ℕ) → move expand goals G ≡ Split l → (k : ℕ) × ClauseIs k (many l)
  split-clause l e =
      let q = says-move (Split l) e in
      (q.0, clause-is q.0 (many l) (q.1, q.2))

  pub done_clauses : move expand goals G ≡ Done → All (λ c. state_of G c ≡ met) (clauses expand goals G)
  done_clauses e = map_all (λ s. s ≡ met) (state_of G) (clauses expand goals G) (says-move Done e)
