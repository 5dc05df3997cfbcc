-- Laws of tests, of lists with some element of a kind, of struck places, of the clause list as G grows, and of what a rule leaves.
-- Assumes nothing.
use mathlib.Core.Path.{◌≡◌, refl, sym, subst}
use mathlib.Core.Logic.{◌⊎◌, inl, inr}
use mathlib.Core.List.{List, [], ◌∷◌}
use mathlib.Core.Bool.{Bool, true, false, cond, false≢true}
use Prim.Native.Nat.{ℕ, suc, ◌<◌}
use native.Mathlib.Omega.{arith}
use lib.Dec.{eqb}
use lib.ListN.{length, get_or, length-append, get_or-append}
use borrow.Author.Tests.{eqb-true}
use Rattle.scope.specs.Outcome.{Outcome, answer, refused, fine, ◌>>◌, ◌>>=◌}
use Rattle.scope.proofs.Tests.{and_left, and_right, refused_no}
pub use Rattle.scope.proofs.Tests.{by_test}
use Rattle.calculus.specs.Order.{State, met, empty, one, many, clauses}
use Rattle.calculus.specs.Model.{All}
use Rattle.rules.specs.declared.Step.{Step}
use Rattle.rules.specs.declared.Version.{Version}
use Rattle.rules.specs.Rules.{Place, same_place, among, Branch, Progress, running, only, the_one, given, is_g, rule_u, rule_r, rule_e, rule_c, rule_s, apply, unit_two, conflict_two, apply_two, apply_in, advance, run}

-- some element of a list has a property
abbrev pub Any : {A : Type 0} → (A → Type 0) → List A → Type 0
Any P [] = ⊥
Any P (x ∷ xs) = P x ⊎ Any P xs

pub any_imply : {A : Type 0} (P Q : A → Type 0) → ((x : A) → P x → Q x) → (xs : List A) → Any P xs → Any Q xs
any_imply P Q f [] a = a
any_imply P Q f (x ∷ xs) (inl a) = inl (f x a)
any_imply P Q f (x ∷ xs) (inr a) = inr (any_imply P Q f xs a)

-- ---- places

abbrev pub place : ℕ → ℕ → Place
place k p = record { clause = k; position = p }

same_place_lem : (x y : Place) → same_place x y ≡ true → x ≡ y
same_place_lem x y e =
    let c : Bool = eqb x.clause y.clause in
    let d : Bool = eqb x.position y.position in
    let p : x.clause ≡ y.clause = eqb-true x.clause y.clause (and_left c d e) in
    let q : x.position ≡ y.position = eqb-true x.position y.position (and_right c d e) in
    λ i. record { clause = p i; position = q i }

-- what holds of all places holds of each among them
pub all_among : (P : Place → Type 0) (ys : List Place) (x : Place) → All P ys → among x ys ≡ true → P x
unfolding among
all_among P [] x a e = absurd (false≢true e)
all_among P (y ∷ ys) x a e =
    by_test (same_place x y)
    (λ q. subst P (sym (same_place_lem x y q)) a.0)
    (λ q. all_among P ys x a.1 (rw q at e))

-- ---- the clause list of G only grows

module _ (expand : ℕ → List (List ℕ)) (goals : List ℕ) (G : List ℕ) (l k : ℕ) (h : k < length (clauses expand goals G)) where
  pub still_in : k < length (clauses expand goals (l ∷ G))
  unfolding clauses
  still_in = omega (arith, length-append (clauses expand goals G) (expand l), h)

  pub clause-kept : get_or (clauses expand goals (l ∷ G)) k [] ≡ get_or (clauses expand goals G) k []
  unfolding clauses
  clause-kept = get_or-append (clauses expand goals G) (expand l) [] k h

-- ---- what a rule leaves

module _ (P : Progress → Type 0) where
  -- it has a property, unless the rule's condition fails
  abbrev pub After : Outcome Progress → Type 0
  After (answer p) = P p
  After (refused number at) = Unit {0}

  pub after-given : (t : Bool) (o : Outcome Progress) → (t ≡ true → After o) → After (given t >> o)
  after-given true o f = f refl
  after-given false o f = tt

  pub after-only : (ls : List ℕ) (next : ℕ → Outcome Progress) → ((l : ℕ) → only ls ≡ answer l → After (next l)) → After (only ls >>= next)
  after-only [] next f = tt
  after-only (l ∷ []) next f = f l refl
  after-only (l ∷ m ∷ ls) next f = tt

  pub after_one : (s : State) (next : ℕ → Outcome Progress) → ((l : ℕ) → s ≡ one l → After (next l)) → After (the_one s >>= next)
  after_one met next f = tt
  after_one empty next f = tt
  after_one (one l) next f = f l refl
  after_one (many l) next f = tt

  after-cond : (t : Bool) (x y : Outcome Progress) → After x → After y → After (cond t x y)
  after-cond true x y f g = f
  after-cond false x y f g = g

  module _ (expand : ℕ → List (List ℕ)) (goals : List ℕ) (nodes : ℕ) (s : Step) (b : Branch) (waiting : List Branch) where
    -- what each of the five rules leaves has it, so what the step's does
    pub after-apply : After (rule_u expand goals nodes s.value b waiting) → After (rule_r expand goals nodes s.position s.value b waiting)
        → After (rule_e expand goals nodes s.value b waiting) → After (rule_c expand goals nodes s.value b waiting)
        → After (rule_s expand goals nodes s.value b waiting) → After (apply expand goals nodes s b waiting)
    unfolding apply
    after-apply u r e c d =
        after-cond (eqb s.rule 85) _ _ u
        (after-cond (eqb s.rule 82) _ _ r
        (after-cond (eqb s.rule 69) _ _ e
        (after-cond (eqb s.rule 67) _ _ c
        d)))

    -- the same of the three of version two
    pub after_two : After (unit_two expand goals nodes s.value b waiting) → After (conflict_two expand goals nodes s.value b waiting)
        → After (rule_s expand goals nodes s.value b waiting) → After (apply_two expand goals nodes s b waiting)
    unfolding apply_two
    after_two u c d = after-cond (eqb s.rule 85) _ _ u (after-cond (eqb s.rule 67) _ _ c (after-cond (eqb s.rule 83) _ _ d tt))

    -- and the refusal at step i says nothing else
    pub after-advance : (v : Version) (i : ℕ) → After (apply_in expand goals nodes v s b waiting)
        → After (advance v expand goals nodes i s (running b waiting))
    unfolding advance
    after-advance v i a = go (apply_in expand goals nodes v s b waiting) refl a
      where
        go : (o : Outcome Progress) → apply_in expand goals nodes v s b waiting ≡ o → After o
            → After (advance v expand goals nodes i s (running b waiting))
        go (answer p) e g = rw e (after-cond (is_g s) (refused 64 i) (answer p) tt g)
        go (refused number at) e g = rw e (after-cond (is_g s) (refused 64 i) (refused 45 i) tt tt)

-- a step of a run to its end is no late G, and its rule answers what the steps after it start from
pub run_step : (v : Version) (expand : ℕ → List (List ℕ)) (goals : List ℕ) (nodes i : ℕ) (s : Step) (ss : List Step) (b : Branch) (waiting : List Branch)
    → run v expand goals nodes i (s ∷ ss) (running b waiting) ≡ fine
    → (p : Progress) × (apply_in expand goals nodes v s b waiting ≡ answer p) × (run v expand goals nodes (suc i) ss p ≡ fine)
unfolding run advance
run_step v expand goals nodes i s ss b waiting e =
    by_test (is_g s) (λ t. refused_no (rw t at e)) (λ t. go t (apply_in expand goals nodes v s b waiting) refl)
  where
    go : is_g s ≡ false → (o : Outcome Progress) → apply_in expand goals nodes v s b waiting ≡ o
        → (p : Progress) × (apply_in expand goals nodes v s b waiting ≡ answer p) × (run v expand goals nodes (suc i) ss p ≡ fine)
    go t (answer p) q = (p, q, rw (t, q) at e)
    go t (refused number at) q = refused_no (rw (t, q) at e)
