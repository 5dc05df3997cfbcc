-- The states of the clauses, goals first and then position by position: the first that passes a test. Assumes nothing.
use mathlib.Core.Path.{◌≡◌, refl, sym, ap, ◌∙◌}
use mathlib.Core.Bool.{Bool, true, false, cond, not, ◌||◌, false≢true, or-true}
use mathlib.Core.List.{List, [], ◌∷◌, ◌++◌, map, append_assoc, append-nil, map-append}
use Prim.Native.Nat.{ℕ, zero, suc, ◌+◌, ◌<◌, ◌≤◌}
use native.Mathlib.Omega.{arith}
use native.Mathlib.Decide.{ℕ_discrete}
use lib.ListN.{length, get_or, length-map, get_or-append}
use lib.Seq.{get_or-append-add}
use Rattle.scope.specs.declared.Node.{Node}
use Rattle.scope.proofs.Tests.{or_left, or_right}
use Rattle.calculus.specs.Expansion.{expand}
use Rattle.calculus.specs.Order.{State, met, empty, joined, value_of, state_of, literal_at, is_empty, is_one, is_many, some, first_of, move_of, clauses}
use Rattle.calculus.specs.declared.Move.{Move}
use Rattle.calculus.specs.declared.Move.TheVariants.{Conflict, Unit as Single, Done, Split}
use Rattle.calculus.proofs.Lists.{get_d_map}
use Rattle.trail.proofs.Trails.{trail-suc}
use Rattle.state.specs.Work.{lit_at, trail}
use Rattle.state.specs.Holds.{states_at}

-- ---- a list of states, and a test

module _ (p : State → Bool) where
  some_append : (xs ys : List State) → some p (xs ++ ys) ≡ (some p xs || some p ys)
  unfolding some
  some_append [] ys = refl
  some_append (x ∷ xs) ys = ap (p x ||◌) (some_append xs ys) ∙ sym (or_assoc (p x) (some p xs) (some p ys))
    where
      or_assoc : (a b c : Bool) → ((a || b) || c) ≡ (a || (b || c))
      or_assoc true b c = refl
      or_assoc false b c = refl

  -- what passes the test of a list's part
  none_append : (xs ys : List State) → some p xs ≡ false → some p ys ≡ false → some p (xs ++ ys) ≡ false
  none_append xs ys a b = some_append xs ys ∙ rw (a, b)

  none_left : (xs ys : List State) → some p (xs ++ ys) ≡ false → some p xs ≡ false
  none_left xs ys e = or_left (some p xs) (some p ys) (sym (some_append xs ys) ∙ e)

  none_right : (xs ys : List State) → some p (xs ++ ys) ≡ false → some p ys ≡ false
  none_right xs ys e = or_right (some p xs) (some p ys) (sym (some_append xs ys) ∙ e)

  -- the first of ys that passes is the first of all, where none before does
  some_in : (xs ys zs : List State) → some p ys ≡ true → some p (xs ++ (ys ++ zs)) ≡ true
  some_in xs ys zs e = some_append xs (ys ++ zs) ∙ rw (some_append ys zs, e) (or-true (some p xs))

  first-left : (ys zs : List State) → some p ys ≡ true → (first_of p (ys ++ zs) ≡ first_of p ys) × (get_or (ys ++ zs) (first_of p ys) met ≡ get_or ys (first_of p ys) met)
  unfolding some first_of
  first-left [] zs e = absurd (false≢true e)
  first-left (y ∷ ys) zs e = go (p y) e (first-left ys zs)
    where
      go : (b : Bool) → (b || some p ys) ≡ true
          → (some p ys ≡ true → (first_of p (ys ++ zs) ≡ first_of p ys) × (get_or (ys ++ zs) (first_of p ys) met ≡ get_or ys (first_of p ys) met))
          → (cond b 0 (suc (first_of p (ys ++ zs))) ≡ cond b 0 (suc (first_of p ys)))
          × (get_or (y ∷ (ys ++ zs)) (cond b 0 (suc (first_of p ys))) met ≡ get_or (y ∷ ys) (cond b 0 (suc (first_of p ys))) met)
      go true e f = (refl, refl)
      go false e f = (ap suc (f e).0, (f e).1)

  first_right : (xs ys : List State) → some p xs ≡ false → first_of p (xs ++ ys) ≡ length xs + first_of p ys
  unfolding some first_of
  first_right [] ys n = omega arith
  first_right (x ∷ xs) ys n =
      rw (or_left (p x) (some p xs) n) (ap suc (first_right xs ys (or_right (p x) (some p xs) n)) ∙ omega arith)

  first_in : (xs ys zs : List State) → some p xs ≡ false → some p ys ≡ true
      → (first_of p (xs ++ (ys ++ zs)) ≡ length xs + first_of p ys) × (literal_at (xs ++ (ys ++ zs)) (length xs + first_of p ys) ≡ literal_at ys (first_of p ys))
  first_in xs ys zs n e =
      let f = first-left ys zs e in (
        first_right xs (ys ++ zs) n ∙ ap (length xs +◌) f.0,
        ap (λ (s : State). literal_of' s) (get_or-append-add xs (ys ++ zs) (first_of p ys) met ∙ f.1),
      )
    where
      literal_of' : State → ℕ
      literal_of' s = literal_at (s ∷ []) 0

  -- by elements
  pub none-at : (ss : List State) (k : ℕ) → some p ss ≡ false → k < length ss → p (get_or ss k met) ≡ false
  unfolding some
  none-at [] k e h = absurd (omega arith)
  none-at (s ∷ ss) zero e h = or_left (p s) (some p ss) e
  none-at (s ∷ ss) (suc k) e h = none-at ss k (or_right (p s) (some p ss) e) (omega arith)

  pub none-by : (ss : List State) → ((k : ℕ) → k < length ss → p (get_or ss k met) ≡ false) → some p ss ≡ false
  unfolding some
  none-by [] f = refl
  none-by (s ∷ ss) f = rw (f 0 (omega arith)) (none-by ss (λ k h. f (suc k) (omega arith)))

  pub first-at : (ss : List State) (k : ℕ) → k < length ss → p (get_or ss k met) ≡ true → ((j : ℕ) → j < k → p (get_or ss j met) ≡ false)
      → (some p ss ≡ true) × (first_of p ss ≡ k)
  unfolding some first_of
  first-at [] k h e f = absurd (omega arith)
  first-at (s ∷ ss) zero h e f = (rw e, rw e)
  first-at (s ∷ ss) (suc k) h e f =
      let r = first-at ss k (omega arith) e (λ j i. f (suc j) (omega arith)) in
      (rw (f 0 (omega arith)) r.0, rw (f 0 (omega arith)) (ap suc r.1))

-- ---- the clauses of goals and of the first positions of a trail r

module _ (t : ℕ → Node) (goals : List ℕ) (r : ℕ → ℕ) where
  abbrev upto : ℕ → List (List ℕ)
  upto k = clauses (expand t) goals (trail k r)

  upto_suc : (k : ℕ) → upto (suc k) ≡ upto k ++ expand t (lit_at r k)
  unfolding clauses
  upto_suc k = ap (clauses (expand t) goals) (trail-suc k r)

  upto_from : (q k : ℕ) → q ≤ k → (rest : List (List ℕ)) × (upto k ≡ upto q ++ rest)
  upto_from q zero h =
      let e : 0 ≡ q = omega arith in
      ([], ap upto e ∙ sym (append-nil (upto q)))
  upto_from q (suc k) h = go (ℕ_discrete q (suc k)) (upto_from q k)
    where
      go : Dec (q ≡ suc k) → (q ≤ k → (rest : List (List ℕ)) × (upto k ≡ upto q ++ rest)) → (rest : List (List ℕ)) × (upto (suc k) ≡ upto q ++ rest)
      go (yes e) f = ([], ap upto (sym e) ∙ sym (append-nil (upto q)))
      go (no e) f =
          let x = f (omega (arith, e)) in
          let c = expand t (lit_at r k) in
          (x.0 ++ c, upto_suc k ∙ ap (◌++ c) x.1 ∙ append_assoc (upto q) x.0 c)

  -- clause k of the goals
  pub at_goal : (k N : ℕ) → k < length goals → get_or (upto N) k [] ≡ get_or goals k 0 ∷ []
  unfolding clauses trail
  at_goal k N h =
      let x = upto_from 0 N (omega arith) in
      let b : k < length (map (◌∷ []) goals) = omega (arith, h, length-map goals (◌∷ [])) in
      ap (λ (cs : List (List ℕ)). get_or cs k []) x.1 ∙ get_or-append (map (◌∷ []) goals) x.0 [] k b ∙ get_d_map (◌∷ []) goals k 0 [] h

  -- clause j of position q
  pub at_position : (q N j : ℕ) → q < N → j < length (expand t (lit_at r q)) → get_or (upto N) (length (upto q) + j) [] ≡ get_or (expand t (lit_at r q)) j []
  at_position q N j h b =
      let x = upto_from (suc q) N h in
      let c = expand t (lit_at r q) in
      ap (λ (cs : List (List ℕ)). get_or cs (length (upto q) + j) []) (x.1 ∙ ap (◌++ x.0) (upto_suc q) ∙ append_assoc (upto q) c x.0)
      ∙ get_or-append-add (upto q) (c ++ x.0) j [] ∙ get_or-append c x.0 [] j b

-- ---- their states under G

module _ (t : ℕ → Node) (goals G : List ℕ) (r : ℕ → ℕ) where
  abbrev pub sofar : ℕ → List State
  sofar k = map (state_of G) (upto t goals r k)

  sofar_suc : (k : ℕ) → sofar (suc k) ≡ sofar k ++ states_at t G r k
  sofar_suc k = ap (map (state_of G)) (upto_suc t goals r k) ∙ map-append (state_of G) (upto t goals r k) (expand t (lit_at r k))

  pub sofar_length : (k : ℕ) → length (sofar k) ≡ length (clauses (expand t) goals (trail k r))
  sofar_length k = length-map (upto t goals r k) (state_of G)

  sofar_from : (q k : ℕ) → q ≤ k → (rest : List State) × (sofar k ≡ sofar q ++ rest)
  sofar_from q k h =
      let x = upto_from t goals r q k h in
      (map (state_of G) x.0, ap (map (state_of G)) x.1 ∙ map-append (state_of G) (upto t goals r q) x.0)

  -- those of position q stand behind those before it
  sofar_part : (q k : ℕ) → q < k → (rest : List State) × (sofar k ≡ sofar q ++ (states_at t G r q ++ rest))
  sofar_part q k h =
      let x = sofar_from (suc q) k h in
      (x.0, x.1 ∙ ap (◌++ x.0) (sofar_suc q) ∙ append_assoc (sofar q) (states_at t G r q) x.0)

  module _ (p : State → Bool) where
    -- none of the goals and of the positions passes
    pub none-sofar : (k : ℕ) → some p (sofar 0) ≡ false → ((q : ℕ) → q < k → some p (states_at t G r q) ≡ false) → some p (sofar k) ≡ false
    none-sofar zero e f = e
    none-sofar (suc k) e f =
        ap (some p) (sofar_suc k)
        ∙ none_append p (sofar k) (states_at t G r k) (none-sofar k e (λ q h. f q (omega arith))) (f k (omega arith))

    pub none-goals : (k : ℕ) → some p (sofar k) ≡ false → some p (sofar 0) ≡ false
    none-goals k e =
        let x = sofar_from 0 k (omega arith) in
        none_left p (sofar 0) x.0 (ap (some p) (sym x.1) ∙ e)

    pub none-position : (q k : ℕ) → q < k → some p (sofar k) ≡ false → some p (states_at t G r q) ≡ false
    none-position q k h e =
        let x = sofar_part q k h in
        none_left p (states_at t G r q) x.0 (none_right p (sofar q) (states_at t G r q ++ x.0) (ap (some p) (sym x.1) ∙ e))

    -- the first that passes, among those of the goals, or of position q where none before has one
    abbrev pub Found : ℕ → ℕ → ℕ → Type 0
    Found k i l = (some p (sofar k) ≡ true) × (first_of p (sofar k) ≡ i) × (literal_at (sofar k) (first_of p (sofar k)) ≡ l)

    found_in : (xs ys zs ss : List State) → ss ≡ xs ++ (ys ++ zs) → some p xs ≡ false → some p ys ≡ true
        → (some p ss ≡ true) × (first_of p ss ≡ length xs + first_of p ys) × (literal_at ss (first_of p ss) ≡ literal_at ys (first_of p ys))
    found_in xs ys zs ss e n h =
        let f = first_in p xs ys zs n h in
        rw e (some_in p xs ys zs h, f.0, ap (literal_at (xs ++ (ys ++ zs))) f.0 ∙ f.1)

    pub found-goal : (k : ℕ) → some p (sofar 0) ≡ true → Found k (first_of p (sofar 0)) (literal_at (sofar 0) (first_of p (sofar 0)))
    unfolding some
    found-goal k e =
        let x = sofar_from 0 k (omega arith) in
        let f = found_in [] (sofar 0) x.0 (sofar k) x.1 refl e in
        (f.0, f.1 ∙ omega arith, f.2)

    pub found-position : (q k : ℕ) → q < k → some p (sofar q) ≡ false → some p (states_at t G r q) ≡ true
        → Found k (length (sofar q) + first_of p (states_at t G r q)) (literal_at (states_at t G r q) (first_of p (states_at t G r q)))
    found-position q k h n e =
        let x = sofar_part q k h in
        found_in (sofar q) (states_at t G r q) x.0 (sofar k) x.1 n e

  -- ---- the goals

  -- what a goal of a value comes to
  pub goal_state_lem : (k : ℕ) → k < length goals → get_or (sofar 0) k met ≡ joined (value_of G (get_or goals k 0)) (get_or goals k 0) empty
  unfolding clauses trail state_of
  goal_state_lem k h =
      get_d_map (state_of G) (map (◌∷ []) goals) k [] met (omega (arith, h, length-map goals (◌∷ [])))
      ∙ ap (state_of G) (get_d_map (◌∷ []) goals k 0 [] h)

  pub goals-length : length (sofar 0) ≡ length goals
  unfolding clauses trail
  goals-length = length-map (map (◌∷ []) goals) (state_of G) ∙ length-map goals (◌∷ [])

-- ---- the moves

-- a split: no clause is all false, and none is a unit
pub split-none : (ss : List State) (l : ℕ) → move_of ss ≡ Split l → (some is_empty ss ≡ false) × (some is_one ss ≡ false)
unfolding move_of
split-none ss l = go (some is_empty ss) (some is_one ss) refl refl
  where
    rest : Move
    rest = cond (not (some is_many ss)) Done (Split (literal_at ss (first_of is_many ss)))

    go : (a b : Bool) → some is_empty ss ≡ a → some is_one ss ≡ b
        → cond a (Conflict (first_of is_empty ss)) (cond b (Single (first_of is_one ss) (literal_at ss (first_of is_one ss))) rest) ≡ Split l
        → (some is_empty ss ≡ false) × (some is_one ss ≡ false)
    go true b x y e = absurd (let z : ◌≡◌ {A = ℕ} 0 1 = cc in omega arith)
    go false true x y e = absurd (let z : ◌≡◌ {A = ℕ} 0 1 = cc in omega arith)
    go false false x y e = (x, y)
