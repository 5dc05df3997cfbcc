-- Every move of the solver's order is an instance of the published rule of its name, up to RED and ELIM; so the search of goals called
-- impossible is a derivation. Assumes nothing.
use mathlib.Core.Path.{◌≡◌, refl, sym, ap, ◌∙◌, subst}
use mathlib.Core.List.{List, [], ◌∷◌, ◌++◌, map, append_assoc}
use mathlib.Core.Bool.{Bool, true, false, cond, ◌||◌, true≢false, or-true}
use Prim.Native.Nat.{ℕ, zero, suc, ◌<◌}
use native.Mathlib.Omega.{arith}
use lib.ListN.{length, get_or}
use Rattle.scope.specs.declared.Node.{Node}
use Rattle.scope.proofs.Tests.{by_test}
use Rattle.calculus.specs.Expansion.{neg, expand}
use Rattle.calculus.specs.Order.{Value, holds, fails, undecided, value_of, mem, State, met, empty, one, many, opened, joined, state_of}
use Rattle.calculus.specs.Order.{clauses, move, Tree, tree, impossible, answer_of}
use Rattle.calculus.specs.Model.{All, Table, Below}
use Rattle.calculus.specs.declared.Move.{Move}
use Rattle.calculus.specs.declared.Move.TheVariants.{Conflict, Unit as Single, Done, Split}
use Rattle.calculus.proofs.Literals.{neg-neg, mem_other, mem-later, holds-mem, fails_mem, undecided_mem, undecided_neg, value_joined}
use Rattle.calculus.proofs.Moves.{ClauseIs, conflict_clause, unit_clause, split-clause, done_clauses}
use Rattle.calculus.proofs.Search.{Grown, closes, joins, ends, parts, grown-whole, possible_closed}
use Rattle.calculus.proofs.Sound.{or_closed}
use Rattle.rules.specs.Rules.{is_holds, is_fails, any_holds}
use Rattle.published.specs.Published.{With, here, there, Sequent, ◌⊢◌, UNIT, RED, ELIM, CONFLICT, SPLIT, unit-rule, red-rule}
use Rattle.published.specs.Published.{elim-rule, conflict-rule, split-rule, Derivation, by, none, more, Propagates, stop, red}
use Rattle.published.specs.Published.{eliminate}
use Rattle.published.specs.Moves.{kept, reduced, searched, Follows, PublishedMoves}
use Rattle.published.proofs.Steps.{is-holds, is_fails_lem, mem_with, holds_with}

-- one more element in the middle
middle : {A : Type 0} (xs : List A) (x : A) (ys : List A) → With x (xs ++ ys) (xs ++ x ∷ ys)
middle [] x ys = here
middle (y ∷ xs) x ys = there (middle xs x ys)

-- ---- RED and ELIM reduce a formula

module _ (ex : ℕ → List (List ℕ)) (G : List ℕ) (t : Sequent ℕ) where
  -- RED for each false literal of a clause, after the clauses F and the literals A
  reds : (F : List (List ℕ)) (A c : List ℕ) (cs : List (List ℕ)) → Propagates neg ex (G ⊢ F ++ (A ++ kept G c) ∷ cs) t
      → Propagates neg ex (G ⊢ F ++ (A ++ c) ∷ cs) t
  unfolding kept
  reds F A [] cs p = p
  reds F A (l ∷ c) cs p =
      by_test (is_fails (value_of G l))
      (λ f.
      let g = mem_with G (neg l) (fails_mem G l (is_fails_lem (value_of G l) f)).1 in
      red (red-rule {l = neg l} g.1 (rw (neg-neg l) (middle A l c)) (middle F (A ++ c) cs) (middle F (A ++ l ∷ c) cs))
      (reds F A c cs (rw f at p)))
      (λ f.
      let q : Propagates neg ex (G ⊢ F ++ (A ++ l ∷ kept G c) ∷ cs) t = rw f at p in
      subst (λ (d : List ℕ). Propagates neg ex (G ⊢ F ++ d ∷ cs) t) (append_assoc A (l ∷ []) c)
      (reds F (A ++ l ∷ []) c cs
      (subst (λ (d : List ℕ). Propagates neg ex (G ⊢ F ++ d ∷ cs) t) (sym (append_assoc A (l ∷ []) (kept G c))) q)))

  -- ELIM for each clause with a true literal
  reduces : (F cs : List (List ℕ)) → Propagates neg ex (G ⊢ F ++ reduced G cs) t → Propagates neg ex (G ⊢ F ++ cs) t
  unfolding reduced
  reduces F [] p = p
  reduces F (c ∷ cs) p =
      by_test (any_holds G c)
      (λ h.
      let x = holds_with G c h in
      let g = mem_with G x.0 x.3 in
      eliminate (elim-rule g.1 x.2 (middle F c cs)) (reduces F cs (rw h at p)))
      (λ h.
      let q : Propagates neg ex (G ⊢ F ++ kept G c ∷ reduced G cs) t = rw h at p in
      reds F [] c cs
      (subst (λ (d : List (List ℕ)). Propagates neg ex (G ⊢ d) t) (append_assoc F (kept G c ∷ []) cs)
      (reduces (F ++ kept G c ∷ []) cs
      (subst (λ (d : List (List ℕ)). Propagates neg ex (G ⊢ d) t) (sym (append_assoc F (kept G c ∷ []) (reduced G cs))) q))))

-- to the clauses with no true literal, each without its false ones
pub propagates : (ex : ℕ → List (List ℕ)) (G : List ℕ) (Δ : List (List ℕ)) → Propagates neg ex (G ⊢ Δ) (G ⊢ reduced G Δ)
propagates ex G Δ = reduces ex G (G ⊢ reduced G Δ) [] Δ stop

-- ---- laws of reduced formulas

reduced_append : (G : List ℕ) (xs ys : List (List ℕ)) → reduced G (xs ++ ys) ≡ reduced G xs ++ reduced G ys
unfolding reduced
reduced_append G [] ys = refl
reduced_append G (x ∷ xs) ys =
    by_test (any_holds G x)
    (λ h. rw h (reduced_append G xs ys))
    (λ h. rw h (ap (kept G x ∷◌) (reduced_append G xs ys)))

-- a clause with no true literal is there, without its false ones
found : (G : List ℕ) (cs : List (List ℕ)) (k : ℕ) → k < length cs → any_holds G (get_or cs k []) ≡ false
    → (Δ : List (List ℕ)) × With (kept G (get_or cs k [])) Δ (reduced G cs)
unfolding reduced
found G [] k h f = absurd (omega arith)
found G (c ∷ cs) zero h f = (reduced G cs, rw f here)
found G (c ∷ cs) (suc k) h f =
    let r = found G cs k (omega arith) f in
    by_test (any_holds G c)
    (λ q. (r.0, rw q r.1))
    (λ q. (kept G c ∷ r.0, rw q (there r.1)))

-- a clause with a true literal does not matter
without_met : {D : List ℕ} {Δ Δ' : List (List ℕ)} (G : List ℕ) → With D Δ Δ' → any_holds G D ≡ true → reduced G Δ ≡ reduced G Δ'
unfolding reduced
without_met G here h = rw h
without_met G (there {y = c} w) h = rw (without_met G w h)

-- ---- an undecided literal joins

module _ (G : List ℕ) (l : ℕ) (u : value_of G l ≡ undecided) where
  fails_later : (m : ℕ) → is_fails (value_of G m) ≡ true → value_of (l ∷ G) m ≡ fails
  unfolding value_of
  fails_later m f =
      let a = fails_mem G m (is_fails_lem (value_of G m) f) in
      let o : mem m (l ∷ G) ≡ false =
      mem_other G l m (λ e. true≢false (sym a.1 ∙ ap (λ (k : ℕ). mem (neg k) G) e ∙ (undecided_mem G l u).1)) ∙ a.0 in
      rw (o, mem-later G l (neg m) a.1)

  holds_later : (m : ℕ) → is_holds (value_of G m) ≡ true → is_holds (value_of (l ∷ G) m) ≡ true
  unfolding value_of
  holds_later m h = rw (mem-later G l m (holds-mem G m (is-holds (value_of G m) h)))

  kept-later : (c : List ℕ) → kept (l ∷ G) (kept G c) ≡ kept (l ∷ G) c
  unfolding kept
  kept-later [] = refl
  kept-later (m ∷ c) =
      by_test (is_fails (value_of G m))
      (λ f. rw (f, fails_later m f) (kept-later c))
      (λ f. rw (f, kept-later c))

  any_kept : (c : List ℕ) → any_holds (l ∷ G) (kept G c) ≡ any_holds (l ∷ G) c
  unfolding kept any_holds
  any_kept [] = refl
  any_kept (m ∷ c) =
      by_test (is_fails (value_of G m))
      (λ f. rw (f, fails_later m f) (any_kept c))
      (λ f. rw (f, any_kept c))

  any_later : (c : List ℕ) → any_holds G c ≡ true → any_holds (l ∷ G) c ≡ true
  unfolding any_holds
  any_later [] h = h
  any_later (m ∷ c) h =
      by_test (is_holds (value_of G m))
      (λ q. rw (holds_later m q))
      (λ q. rw (any_later c (rw q at h)) (or-true (is_holds (value_of (l ∷ G) m))))

  reduced-later : (cs : List (List ℕ)) → reduced (l ∷ G) (reduced G cs) ≡ reduced (l ∷ G) cs
  unfolding reduced
  reduced-later [] = refl
  reduced-later (c ∷ cs) =
      by_test (any_holds G c)
      (λ h. rw (h, any_later c h) (reduced-later cs))
      (λ h. rw (h, any_kept c, kept-later c, reduced-later cs))

-- ---- what a clause's state says

abbrev StateSays : List ℕ → State → Bool → List ℕ → Type 0
StateSays G met a ls = a ≡ true
StateSays G empty a ls = (a ≡ false) × (ls ≡ [])
StateSays G (one l) a ls = (a ≡ false) × (ls ≡ l ∷ []) × (value_of G l ≡ undecided)
StateSays G (many l) a ls = value_of G l ≡ undecided

says-opened : (G : List ℕ) (l : ℕ) (s : State) (a : Bool) (ls : List ℕ) → value_of G l ≡ undecided → StateSays G s a ls
    → StateSays G (opened l s) a (l ∷ ls)
says-opened G l met a ls e q = q
says-opened G l empty a ls e q = (q.0, ap (l ∷◌) q.1, e)
says-opened G l (one m) a ls e q = e
says-opened G l (many m) a ls e q = e

says-joined : (G : List ℕ) (w : Value) (l : ℕ) (s : State) (a : Bool) (ls : List ℕ) → value_of G l ≡ w → StateSays G s a ls
    → StateSays G (joined w l s) (is_holds w || a) (cond (is_fails w) ls (l ∷ ls))
says-joined G holds l s a ls e q = refl
says-joined G fails l s a ls e q = q
says-joined G undecided l s a ls e q = says-opened G l s a ls e q

state-says : (G c : List ℕ) → StateSays G (state_of G c) (any_holds G c) (kept G c)
unfolding state_of any_holds kept
state-says G [] = (refl, refl)
state-says G (l ∷ c) = says-joined G (value_of G l) l (state_of G c) (any_holds G c) (kept G c) refl (state-says G c)

all_met : (G : List ℕ) (cs : List (List ℕ)) → All (λ c. state_of G c ≡ met) cs → reduced G cs ≡ []
unfolding reduced
all_met G [] a = refl
all_met G (c ∷ cs) a =
    let h : any_holds G c ≡ true = subst (λ (s : State). StateSays G s (any_holds G c) (kept G c)) a.0 (state-says G c) in
    rw h (all_met G cs a.1)

-- ---- moves

module _ (ex : ℕ → List (List ℕ)) (goals : List ℕ) where
  module _ (G : List ℕ) where
    says-clause : (k : ℕ) (s : State) → ClauseIs ex goals G k s
        → StateSays G s (any_holds G (get_or (clauses ex goals G) k [])) (kept G (get_or (clauses ex goals G) k []))
    says-clause k s q =
        subst (λ (z : State). StateSays G z (any_holds G (get_or (clauses ex goals G) k [])) (kept G (get_or (clauses ex goals G) k [])))
        q.1 (state-says G (get_or (clauses ex goals G) k []))

    -- the premise of a literal that joins propagates to the next sequent
    joined-propagates : (l : ℕ) (Δ : List (List ℕ)) → reduced (l ∷ G) Δ ≡ reduced (l ∷ G) (clauses ex goals G)
        → Propagates neg ex (l ∷ G ⊢ Δ ++ ex l) (searched ex goals (l ∷ G))
    unfolding clauses
    joined-propagates l Δ e =
        subst (λ (d : List (List ℕ)). Propagates neg ex (l ∷ G ⊢ Δ ++ ex l) (l ∷ G ⊢ d))
        (reduced_append (l ∷ G) Δ (ex l) ∙ ap (◌++ reduced (l ∷ G) (ex l)) e ∙ sym (reduced_append (l ∷ G) (clauses ex goals G) (ex l)))
        (propagates ex (l ∷ G) (Δ ++ ex l))

    pub follows-conflict : (k : ℕ) → ClauseIs ex goals G k empty → Follows ex goals (Conflict k) G
    follows-conflict k q =
        let s = says-clause k empty q in
        let x = found G (clauses ex goals G) k q.0 s.0 in
        conflict-rule (rw s.1 at x.1)

    pub follows_unit : (k l : ℕ) → ClauseIs ex goals G k (one l) → Follows ex goals (Single k l) G
    follows_unit k l q =
        let s = says-clause k (one l) q in
        let x = found G (clauses ex goals G) k q.0 s.0 in
        let w : With (l ∷ []) x.0 (reduced G (clauses ex goals G)) = rw s.1 at x.1 in (
          l ∷ G ⊢ x.0 ++ ex l,
          unit-rule w,
          joined-propagates l x.0 (without_met (l ∷ G) w joined-holds ∙ reduced-later G l s.2 (clauses ex goals G)),
        )
      where
        joined-holds : any_holds (l ∷ G) (l ∷ []) ≡ true
        joined-holds = unfold any_holds in rw (value_joined G l)

    pub follows-split : (l : ℕ) → value_of G l ≡ undecided → Follows ex goals (Split l) G
    follows-split l u = (
      l ∷ G ⊢ reduced G (clauses ex goals G) ++ ex l,
      neg l ∷ G ⊢ reduced G (clauses ex goals G) ++ ex (neg l),
      split-rule,
      joined-propagates l (reduced G (clauses ex goals G)) (reduced-later G l u (clauses ex goals G)),
      joined-propagates (neg l) (reduced G (clauses ex goals G)) (reduced-later G (neg l) (undecided_neg G l u) (clauses ex goals G)),
    )

    -- every move is an instance of the rule of its name
    pub move-follows : (m : Move) → move ex goals G ≡ m → Follows ex goals m G
    move-follows (Conflict k) e = follows-conflict k (conflict_clause ex goals G k e)
    move-follows (Single k l) e = follows_unit k l (unit_clause ex goals G k l e)
    move-follows Done e = all_met G (clauses ex goals G) (done_clauses ex goals G e)
    move-follows (Split l) e =
        let q = split-clause ex goals G l e in
        follows-split l (says-clause q.0 (many l) q.1)

  pub moves_follow : PublishedMoves ex goals
  moves_follow G = move-follows G (move ex goals G) refl

-- ---- the search

unfoldable pub propagated : {ex : ℕ → List (List ℕ)} {s t : Sequent ℕ} → Propagates neg ex s t → Derivation neg ex t → Derivation neg ex s
propagated stop d = d
propagated (red i p) d = by RED i (more (propagated p d) none)
propagated (eliminate i p) d = by ELIM i (more (propagated p d) none)

module _ (n : ℕ) (t : ℕ → Node) (goals : List ℕ) where
  grown_derives : {G : List ℕ} {tr : Tree} → Grown n t goals G tr → answer_of tr ≡ impossible → Derivation neg (expand t) (searched (expand t) goals G)
  unfolding answer_of
  grown_derives {G} (closes {k = k} g m) e = by CONFLICT (move-follows (expand t) goals G (Conflict k) m) none
  grown_derives {G} (joins {k = k} {l = l} g m f r) e =
      let x = move-follows (expand t) goals G (Single k l) m in
      by UNIT x.1 (more (propagated x.2 (grown_derives r e)) none)
  grown_derives (ends g m) e = absurd (possible_closed e)
  grown_derives {G} (parts {l = l} {left = a} {right = b} g m f p q) e =
      let x = move-follows (expand t) goals G (Split l) m in
      let c = or_closed (answer_of a) (answer_of b) e in
      by SPLIT x.2 (more (propagated x.3 (grown_derives p c.0)) (more (propagated x.4 (grown_derives q c.1)) none))

  -- the search of goals called impossible is a derivation of ∅ ⊢ goals
  pub search_derives : Table n t → Below n goals → answer_of (tree (expand t) goals n []) ≡ impossible
      → Derivation neg (expand t) ([] ⊢ map (◌∷ []) goals)
  unfolding clauses
  search_derives T B e =
      propagated (propagates (expand t) [] (map (◌∷ []) goals)) (grown_derives (grown-whole n t goals T B) e)
