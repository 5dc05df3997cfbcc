-- Steps of version two that run to their end are a derivation of the published calculus too: each is an instance of the rule of its name,
-- and RED and ELIM, which it does not write, come between. So accepted steps of either version are a derivation. Assumes nothing.
use mathlib.Core.Path.{◌≡◌, refl, sym, ap, ap₂, ◌∙◌, subst}
use mathlib.Core.List.{List, [], ◌∷◌, ◌++◌, map, append-nil, append_assoc}
use mathlib.Core.Bool.{Bool, true, false, false≢true}
use Prim.Native.Nat.{ℕ, suc, ◌*◌}
use lib.Dec.{eqb, ltb}
use lib.ListN.{length}
use borrow.Author.Tests.{ltb-true, eqb-true}
use Rattle.scope.specs.Outcome.{answer, fine}
use Rattle.scope.proofs.Tests.{refused_no, by_test, bound, then_first, then_next}
use Rattle.calculus.specs.Expansion.{neg}
use Rattle.calculus.specs.Order.{Value, holds, fails, undecided, value_of, State, met, empty, one, many, is_empty as are_all_false, state_of, clauses}
use Rattle.calculus.proofs.Moves.{ClauseIs}
use Rattle.rules.specs.declared.Step.{Step}
use Rattle.rules.specs.declared.Version.{Version}
use Rattle.rules.specs.declared.Version.TheVariants.{One, Two}
use Rattle.rules.specs.Rules.{Branch, root, join, is_undecided, Progress, running, complete, turn, names, body, the_one, given, clause_at, in_list, rule_s, unit_two, conflict_two, apply_two, advance, ended, run, accepts}
use Rattle.rules.proofs.Laws.{run_step}
use Rattle.rules.proofs.Names.{accepted-runs}
use Rattle.published.specs.Published.{Sequent, Rule, UNIT, RED, ELIM, CONFLICT, SPLIT, Derivation, by, Derivations, none, more, rules_of, rules_in, Propagates, stop, red, eliminate}
use Rattle.published.specs.Reading.{open_of, rule_of, main_rules, Published}
use Rattle.published.specs.Moves.{searched}
use Rattle.published.proofs.Moves.{propagates, propagated, follows-conflict, follows_unit, follows-split}
use Rattle.published.proofs.Derivations.{run_derivation}

-- ---- the rules that are written

main_append : (rs qs : List Rule) → main_rules (rs ++ qs) ≡ main_rules rs ++ main_rules qs
unfolding main_rules
main_append [] qs = refl
main_append (UNIT ∷ rs) qs = ap (UNIT ∷◌) (main_append rs qs)
main_append (RED ∷ rs) qs = main_append rs qs
main_append (ELIM ∷ rs) qs = main_append rs qs
main_append (CONFLICT ∷ rs) qs = ap (CONFLICT ∷◌) (main_append rs qs)
main_append (SPLIT ∷ rs) qs = ap (SPLIT ∷◌) (main_append rs qs)

-- propagation writes none
main_propagated : {ex : ℕ → List (List ℕ)} {s t : Sequent ℕ} (p : Propagates neg ex s t) (d : Derivation neg ex t)
    → main_rules (rules_of (propagated p d)) ≡ main_rules (rules_of d)
unfolding rules_of main_rules propagated
main_propagated stop d = refl
main_propagated (red i p) d = ap main_rules (append-nil (rules_of (propagated p d))) ∙ main_propagated p d
main_propagated (eliminate i p) d = ap main_rules (append-nil (rules_of (propagated p d))) ∙ main_propagated p d

-- .. before the rules R
main_through : {ex : ℕ → List (List ℕ)} {s t : Sequent ℕ} (p : Propagates neg ex s t) (d : Derivation neg ex t) (R : List Rule)
    → main_rules ((rules_of (propagated p d) ++ []) ++ R) ≡ main_rules (rules_of d ++ R)
main_through p d R = simp (main_append, append-nil, main_propagated p d)

main_through₂ : {ex : ℕ → List (List ℕ)} {s t s' t' : Sequent ℕ} (p : Propagates neg ex s t) (d : Derivation neg ex t)
    (p' : Propagates neg ex s' t') (d' : Derivation neg ex t') (R : List Rule)
    → main_rules ((rules_of (propagated p d) ++ (rules_of (propagated p' d') ++ [])) ++ R) ≡ main_rules (rules_of d ++ (rules_of d' ++ R))
main_through₂ p d p' d' R = simp (main_append, append-nil, append_assoc, main_propagated p d, main_propagated p' d')

-- ---- what a step of version two was

is_undecided_lem : (w : Value) → is_undecided w ≡ true → w ≡ undecided
is_undecided_lem holds e = absurd (false≢true e)
is_undecided_lem fails e = absurd (false≢true e)
is_undecided_lem undecided e = refl

the_one_lem : (s : State) (l : ℕ) → the_one s ≡ answer l → s ≡ one l
the_one_lem met l e = refused_no e
the_one_lem empty l e = refused_no e
the_one_lem (one m) l e = cc
the_one_lem (many m) l e = refused_no e

all_false : (s : State) → are_all_false s ≡ true → s ≡ empty
all_false met e = absurd (false≢true e)
all_false empty e = refl
all_false (one l) e = absurd (false≢true e)
all_false (many l) e = absurd (false≢true e)

given_is : (t : Bool) → given t ≡ fine → t ≡ true
given_is true e = refl
given_is false e = refused_no e

module _ (ex : ℕ → List (List ℕ)) (goals : List ℕ) (nodes : ℕ) where
  -- U and C by a clause's state under G, or S
  data Taken (s : Step) (b : Branch) (waiting : List Branch) : Progress → Type 0 where
    unit : (k l : ℕ) → rule_of s ≡ UNIT → ClauseIs ex goals b.G k (one l) → Taken s b waiting (running (join l b) waiting)
    conflict : (k : ℕ) → rule_of s ≡ CONFLICT → ClauseIs ex goals b.G k empty → Taken s b waiting (turn waiting)
    split : (l : ℕ) → rule_of s ≡ SPLIT → value_of b.G l ≡ undecided → Taken s b waiting (running (join l b) (join (neg l) b ∷ waiting))

  module _ (s : Step) (b : Branch) (waiting : List Branch) where
    letter : (r : ℕ) (rule : Rule) → (rule_of (record { rule = r; position = s.position; value = s.value }) ≡ rule) → eqb s.rule r ≡ true → rule_of s ≡ rule
    letter r rule e q =
        subst (λ (x : ℕ). rule_of (record { rule = x; position = s.position; value = s.value }) ≡ rule) (sym (eqb-true s.rule r q)) e

    taken-unit : (p : Progress) → eqb s.rule 85 ≡ true → unit_two ex goals nodes s.value b waiting ≡ answer p → Taken s b waiting p
    unfolding unit_two rule_of
    taken-unit p q e =
        let k = s.value in
        let h = ltb-true k (length (clauses ex goals b.G)) (given_is (in_list ex goals nodes b k) (then_first (given (in_list ex goals nodes b k)) _ e)) in
        let x = bound (the_one (state_of b.G (clause_at ex goals nodes b k))) (λ l. answer (running (join l b) waiting)) (then_next (given (in_list ex goals nodes b k)) _ e) in
        let z : answer (running (join x.0 b) waiting) ≡ answer p = x.2 in
        let y : running (join x.0 b) waiting ≡ p = cc in
        subst (Taken s b waiting) y (unit k x.0 (letter 85 UNIT refl q) (h, the_one_lem (state_of b.G (clause_at ex goals nodes b k)) x.0 x.1))

    taken-conflict : (p : Progress) → eqb s.rule 67 ≡ true → conflict_two ex goals nodes s.value b waiting ≡ answer p → Taken s b waiting p
    unfolding conflict_two rule_of
    taken-conflict p q e =
        let k = s.value in
        let h = ltb-true k (length (clauses ex goals b.G)) (given_is (in_list ex goals nodes b k) (then_first (given (in_list ex goals nodes b k)) _ e)) in
        let r = then_next (given (in_list ex goals nodes b k)) _ e in
        let f = given_is (are_all_false (state_of b.G (clause_at ex goals nodes b k))) (then_first (given (are_all_false (state_of b.G (clause_at ex goals nodes b k)))) (answer (turn waiting)) r) in
        let z : answer (turn waiting) ≡ answer p = then_next (given (are_all_false (state_of b.G (clause_at ex goals nodes b k)))) (answer (turn waiting)) r in
        let y : turn waiting ≡ p = cc in
        subst (Taken s b waiting) y (conflict k (letter 67 CONFLICT refl q) (h, all_false (state_of b.G (clause_at ex goals nodes b k)) f))

    taken-split : (p : Progress) → eqb s.rule 83 ≡ true → rule_s ex goals nodes s.value b waiting ≡ answer p → Taken s b waiting p
    unfolding rule_s rule_of
    taken-split p q e =
        let l = s.value in
        let r = then_next (given (ltb l (2 * nodes))) _ e in
        let u = given_is (is_undecided (value_of b.G l)) (then_first (given (is_undecided (value_of b.G l))) (answer (running (join l b) (join (neg l) b ∷ waiting))) r) in
        let z : answer (running (join l b) (join (neg l) b ∷ waiting)) ≡ answer p =
        then_next (given (is_undecided (value_of b.G l))) (answer (running (join l b) (join (neg l) b ∷ waiting))) r in
        let y : running (join l b) (join (neg l) b ∷ waiting) ≡ p = cc in
        subst (Taken s b waiting) y (split l (letter 83 SPLIT refl q) (is_undecided_lem (value_of b.G l) u))

    taken : (p : Progress) → apply_two ex goals nodes s b waiting ≡ answer p → Taken s b waiting p
    unfolding apply_two
    taken p e =
        by_test (eqb s.rule 85) (λ q. taken-unit p q (rw q at e))
        (λ q. by_test (eqb s.rule 67) (λ r. taken-conflict p r (rw (q, r) at e))
        (λ r. by_test (eqb s.rule 83) (λ f. taken-split p f (rw (q, r, f) at e)) (λ f. refused_no (rw (q, r, f) at e))))

  -- ---- a run of version two

  abbrev sequent_in : Branch → Sequent ℕ
  sequent_in b = searched ex goals b.G

  -- derivations of the sequents of branches, whose written rules are those of these steps
  abbrev Derived : List Branch → List Step → Type 0
  Derived bs ss = (ds : Derivations neg ex (map sequent_in bs)) × (main_rules (rules_in ds) ≡ map rule_of ss)

  turn_open : (waiting : List Branch) → open_of (turn waiting) ≡ waiting
  turn_open [] = refl
  turn_open (b ∷ waiting) = refl

  derived-step : (s : Step) (ss : List Step) (b : Branch) (waiting : List Branch) {p : Progress} → Taken s b waiting p → Derived (open_of p) ss
      → Derived (b ∷ waiting) (s ∷ ss)
  unfolding rules_of main_rules
  derived-step s ss b waiting (unit k l r q) (more d ds, e) =
      let x = follows_unit ex goals b.G k l q in
      (more (by UNIT x.1 (more (propagated x.2 d) none)) ds, ap₂ ◌∷◌ (sym r) (main_through x.2 d (rules_in ds) ∙ e))
  derived-step s ss b waiting (conflict k r q) d =
      let c : Derived waiting ss = subst (λ (bs : List Branch). Derived bs ss) (turn_open waiting) d in
      (more (by CONFLICT (follows-conflict ex goals b.G k q) none) c.0, ap₂ ◌∷◌ (sym r) c.1)
  derived-step s ss b waiting (split l r u) (more d (more c ds), e) =
      let x = follows-split ex goals b.G l u in (
        more (by SPLIT x.2 (more (propagated x.3 d) (more (propagated x.4 c) none))) ds,
        ap₂ ◌∷◌ (sym r) (main_through₂ x.3 d x.4 c (rules_in ds) ∙ e),
      )

  run_derives : (ss : List Step) (i : ℕ) (p : Progress) → run Two ex goals nodes i ss p ≡ fine → Derived (open_of p) ss
  unfolding run ended advance rules_of main_rules
  run_derives [] i (running b waiting) e = refused_no e
  run_derives [] i complete e = (none, refl)
  run_derives (s ∷ ss) i complete e = refused_no e
  run_derives (s ∷ ss) i (running b waiting) e =
      let x = run_step Two ex goals nodes i s ss b waiting e in
      derived-step s ss b waiting (taken s b waiting x.0 x.1) (run_derives ss (suc i) x.0 x.2)

  -- ---- accepted steps are a derivation, after those that name goals

  from-root : (ss : List Step) → Derived (root ∷ []) ss → Published Two ex goals ss
  unfolding clauses rules_of
  from-root ss (more d none, e) = (
    propagated (propagates ex [] (map (◌∷ []) goals)) d,
    main_propagated (propagates ex [] (map (◌∷ []) goals)) d ∙ ap main_rules (sym (append-nil (rules_of d))) ∙ e,
  )

  pub accepted_derives : (v : Version) (ss : List Step) → accepts v ex goals nodes ss ≡ fine → Published v ex goals (body ss)
  accepted_derives One ss e = run_derivation ex goals nodes (body ss) (length (names ss)) (accepted-runs One ex goals nodes ss e)
  accepted_derives Two ss e =
      from-root (body ss) (run_derives (body ss) (length (names ss)) (running root []) (accepted-runs Two ex goals nodes ss e))
