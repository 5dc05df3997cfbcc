-- What stays of the clauses' states as a literal joins. Assumes nothing.
use mathlib.Core.Path.{◌≡◌, refl, sym, ap, ◌∙◌}
use mathlib.Core.Bool.{Bool, true, or-true}
use mathlib.Core.Logic.{◌⊎◌, inl, inr, ⊎_elim}
use mathlib.Core.List.{List, [], ◌∷◌, map}
use Prim.Native.Nat.{ℕ, zero, suc, ◌/◌, ◌<◌}
use native.Mathlib.Omega.{arith}
use native.Mathlib.Decide.{ℕ_discrete}
use lib.ListN.{length, get_or, length-map}
use Rattle.calculus.specs.Expansion.{neg}
use Rattle.calculus.specs.Order.{Value, holds, fails, undecided, value_of, State, met, empty, one, many, joined, state_of}
use Rattle.calculus.specs.Order.{literal_of, is_empty, is_one, some, first_of, literal_at}
use Rattle.calculus.specs.Model.{All}
use Rattle.calculus.proofs.Lists.{get_d_map}
use Rattle.calculus.proofs.Literals.{value_joined, value_other, undecided_neg}
use Rattle.calculus.proofs.Moves.{first_found, empty-state, one_state}
use Rattle.calculus.proofs.Complete.{joined_met}

-- the three values differ
pub holds_fails : holds ≡ fails → ⊥
holds_fails y = let z : ◌≡◌ {A = ℕ} 0 1 = cc in omega arith

pub holds_undecided : holds ≡ undecided → ⊥
holds_undecided y = let z : ◌≡◌ {A = ℕ} 0 1 = cc in omega arith

pub fails_undecided : fails ≡ undecided → ⊥
fails_undecided y = let z : ◌≡◌ {A = ℕ} 0 1 = cc in omega arith

-- ---- what a clause's state says of its first literal and of the others

met_joined : (v : Value) (m : ℕ) → joined v m met ≡ met
met_joined holds m = refl
met_joined fails m = refl
met_joined undecided m = refl

joined-empty : (v : Value) (m : ℕ) (s : State) → joined v m s ≡ empty → (v ≡ fails) × (s ≡ empty)
joined-empty holds m s e = (cc, cc)
joined-empty fails m s e = (refl, e)
joined-empty undecided m met e = (cc, cc)
joined-empty undecided m empty e = (cc, refl)
joined-empty undecided m (one k) e = (cc, cc)
joined-empty undecided m (many k) e = (cc, cc)

joined-one : (v : Value) (m : ℕ) (s : State) (k : ℕ) → joined v m s ≡ one k → ((v ≡ fails) × (s ≡ one k)) ⊎ ((v ≡ undecided) × (s ≡ empty) × (m ≡ k))
joined-one holds m s k e = inl (cc, cc)
joined-one fails m s k e = inl (refl, e)
joined-one undecided m met k e = inl (cc, cc)
joined-one undecided m empty k e = inr (refl, refl, cc)
joined-one undecided m (one j) k e = inl (cc, cc)
joined-one undecided m (many j) k e = inl (cc, cc)

-- the literal of a unit is undecided
pub one_undecided : (G c : List ℕ) (k : ℕ) → state_of G c ≡ one k → value_of G k ≡ undecided
unfolding state_of
one_undecided G [] k e = cc
one_undecided G (m ∷ c) k e =
    ⊎_elim (λ (v, s). one_undecided G c k s) (λ (v, s, i). ap (value_of G) (sym i) ∙ v) (joined-one (value_of G m) m (state_of G c) k e)

-- ---- the first clause that passes a test

module _ (p : State → Bool) (G : List ℕ) (cs : List (List ℕ)) (e : some p (map (state_of G) cs) ≡ true) where
  abbrev first : ℕ
  first = first_of p (map (state_of G) cs)

  first_low : first < length cs
  first_low = omega (arith, (first_found p (map (state_of G) cs) e).0, length-map cs (state_of G))

  first-state : get_or (map (state_of G) cs) first met ≡ state_of G (get_or cs first [])
  first-state = get_d_map (state_of G) cs first [] met first_low

  first_passes : p (state_of G (get_or cs first [])) ≡ true
  first_passes = sym (ap p first-state) ∙ (first_found p (map (state_of G) cs) e).1

-- a clause that passes is one
some_at : (p : State → Bool) (G : List ℕ) (cs : List (List ℕ)) (k : ℕ) (s : State) → k < length cs → state_of G (get_or cs k []) ≡ s → p s ≡ true
    → some p (map (state_of G) cs) ≡ true
unfolding some
some_at p G [] k s b e y = absurd (omega arith)
some_at p G (c ∷ cs) zero s b e y = rw (e, y)
some_at p G (c ∷ cs) (suc k) s b e y = rw (some_at p G cs k s (omega arith) e y) (or-true (p (state_of G c)))

-- the literal of the first unit
module _ (G : List ℕ) (cs : List (List ℕ)) (e : some is_one (map (state_of G) cs) ≡ true) where
  abbrev unit : ℕ
  unit = literal_at (map (state_of G) cs) (first_of is_one (map (state_of G) cs))

  first_unit : state_of G (get_or cs (first_of is_one (map (state_of G) cs)) []) ≡ one unit
  first_unit = one_state _ (first_passes is_one G cs e) ∙ ap (λ (s : State). one (literal_of s)) (sym (first-state is_one G cs e))

  pub first_undecided : value_of G unit ≡ undecided
  first_undecided = one_undecided G _ unit first_unit

-- ---- l joins G, where it is undecided

module _ (G : List ℕ) (l : ℕ) (f : value_of G l ≡ undecided) where
  -- a literal that has a value keeps it
  pub value_stays : (m : ℕ) (v : Value) → (v ≡ undecided → ⊥) → value_of G m ≡ v → value_of (l ∷ G) m ≡ v
  value_stays m v d e = go (ℕ_discrete (m / 2) (l / 2)) (ℕ_discrete m l)
    where
      go : Dec (m / 2 ≡ l / 2) → Dec (m ≡ l) → value_of (l ∷ G) m ≡ v
      go (no k) q = value_other G l m k ∙ e
      go (yes k) (yes q) = absurd (d (sym e ∙ ap (value_of G) q ∙ f))
      go (yes k) (no q) =
          let z : m ≡ neg l = omega (arith, k, q) in
          absurd (d (sym e ∙ ap (value_of G) z ∙ undecided_neg G l f))

  pub holds_stays : (m : ℕ) → value_of G m ≡ holds → value_of (l ∷ G) m ≡ holds
  holds_stays m = value_stays m holds holds_undecided

  fails_stays : (m : ℕ) → value_of G m ≡ fails → value_of (l ∷ G) m ≡ fails
  fails_stays m = value_stays m fails fails_undecided

  -- a literal that is undecided now was so before
  pub was_undecided : (m : ℕ) → value_of (l ∷ G) m ≡ undecided → value_of G m ≡ undecided
  was_undecided m e = go (value_of G m) refl
    where
      go : (v : Value) → value_of G m ≡ v → value_of G m ≡ undecided
      go undecided y = y
      go holds y = cc (holds_stays m y)
      go fails y = cc (fails_stays m y)

  -- a literal that is false now was so before, but for the negation of l
  pub fails_joined : (m : ℕ) → (m ≡ neg l → ⊥) → value_of (l ∷ G) m ≡ fails → value_of G m ≡ fails
  fails_joined m d e = go (ℕ_discrete (m / 2) (l / 2))
    where
      go : Dec (m / 2 ≡ l / 2) → value_of G m ≡ fails
      go (no k) = sym (value_other G l m k) ∙ e
      go (yes k) =
          let z : m ≡ l = omega (arith, k, d) in
          cc (ap (value_of (l ∷ G)) z ∙ value_joined G l)

  -- a clause that is met stays so, and so does one that is all false
  met_stays : (c : List ℕ) → state_of G c ≡ met → state_of (l ∷ G) c ≡ met
  unfolding state_of
  met_stays [] e = cc
  met_stays (m ∷ c) e =
      ⊎_elim (λ v. rw (holds_stays m v)) (λ s. rw (met_stays c s) (met_joined (value_of (l ∷ G) m) m)) (joined_met (value_of G m) m (state_of G c) e)

  empty_stays : (c : List ℕ) → state_of G c ≡ empty → state_of (l ∷ G) c ≡ empty
  unfolding state_of
  empty_stays [] e = refl
  empty_stays (m ∷ c) e =
      let (v, s) = joined-empty (value_of G m) m (state_of G c) e in
      rw (fails_stays m v, empty_stays c s)

  pub all_met_stays : (cs : List (List ℕ)) → All (λ s. s ≡ met) (map (state_of G) cs) → All (λ s. s ≡ met) (map (state_of (l ∷ G)) cs)
  all_met_stays [] h = tt
  all_met_stays (c ∷ cs) h = (met_stays c h.0, all_met_stays cs h.1)

  pub some-empty_stays : (cs : List (List ℕ)) → some is_empty (map (state_of G) cs) ≡ true → some is_empty (map (state_of (l ∷ G)) cs) ≡ true
  some-empty_stays cs e =
      some_at is_empty (l ∷ G) cs _ empty (first_low is_empty G cs e) (empty_stays _ (empty-state _ (first_passes is_empty G cs e))) refl

  -- a unit stays one while its literal is undecided, and is met where that joins
  one_stays : (c : List ℕ) (k : ℕ) → state_of G c ≡ one k → value_of (l ∷ G) k ≡ undecided → state_of (l ∷ G) c ≡ one k
  unfolding state_of
  one_stays [] k e u = cc
  one_stays (m ∷ c) k e u =
      ⊎_elim (λ (v, s). rw (fails_stays m v, one_stays c k s u)) (λ (v, s, i). rw (empty_stays c s, ap (value_of (l ∷ G)) i ∙ u) (ap one i))
      (joined-one (value_of G m) m (state_of G c) k e)

  one_met : (c : List ℕ) → state_of G c ≡ one l → state_of (l ∷ G) c ≡ met
  unfolding state_of
  one_met [] e = cc
  one_met (m ∷ c) e =
      ⊎_elim (λ (v, s). rw (one_met c s) (met_joined (value_of (l ∷ G) m) m)) (λ (v, s, i). rw (ap (value_of (l ∷ G)) i ∙ value_joined G l))
      (joined-one (value_of G m) m (state_of G c) l e)

  -- so with the first unit among clauses
  module _ (cs : List (List ℕ)) (e : some is_one (map (state_of G) cs) ≡ true) where
    pub first-stays : value_of (l ∷ G) (unit G cs e) ≡ undecided → some is_one (map (state_of (l ∷ G)) cs) ≡ true
    first-stays u = some_at is_one (l ∷ G) cs _ (one (unit G cs e)) (first_low is_one G cs e) (one_stays _ (unit G cs e) (first_unit G cs e) u) refl

    -- where l is its literal, the states do not stay
    pub first-changes : unit G cs e ≡ l → map (state_of (l ∷ G)) cs ≡ map (state_of G) cs → ⊥
    first-changes k o =
        let first = first_of is_one (map (state_of G) cs) in
        let a = one_met (get_or cs first []) (first_unit G cs e ∙ ap one k) in
        let b = get_d_map (state_of (l ∷ G)) cs first [] met (first_low is_one G cs e) in
        let d : met ≡ one l = sym a ∙ sym b ∙ ap (λ (ss : List State). get_or ss first met) o ∙ first-state is_one G cs e ∙ first_unit G cs e ∙ ap one k in
        let z : ◌≡◌ {A = ℕ} 0 1 = cc in omega arith

-- ---- clauses whose literals keep their values keep their states

pub all_or : {A : Type 0} (P : A → Type 0) (Q : Type 0) (xs : List A) → All (λ x. P x ⊎ Q) xs → All P xs ⊎ Q
all_or P Q [] h = inl tt
all_or P Q (x ∷ xs) (a, h) = ⊎_elim (λ p. ⊎_elim (λ r. inl (p, r)) inr (all_or P Q xs h)) inr a

pub state_same : (F G c : List ℕ) → All (λ m. value_of F m ≡ value_of G m) c → state_of F c ≡ state_of G c
unfolding state_of
state_same F G [] h = refl
state_same F G (m ∷ c) h = rw (h.0, state_same F G c h.1)

pub states_same : (F G : List ℕ) (cs : List (List ℕ)) → All (λ c. state_of F c ≡ state_of G c) cs → map (state_of F) cs ≡ map (state_of G) cs
states_same F G [] h = refl
states_same F G (c ∷ cs) h = rw (h.0, states_same F G cs h.1)
