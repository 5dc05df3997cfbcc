-- The goals that a derivation names: what is accepted names the caller's, or in version one none, so no other list; the derivation in the solver's order
-- names its goals. Assumes nothing.
use mathlib.Core.Path.{◌≡◌, refl, sym, ◌∙◌}
use mathlib.Core.Logic.{◌⊎◌, inl, inr}
use mathlib.Core.List.{List, [], ◌∷◌, ◌++◌, map}
use mathlib.Core.Bool.{Bool, true, false, ◌&&◌, ◌||◌, false≢true}
use Prim.Native.Nat.{ℕ, zero, suc}
use native.Mathlib.Omega.{arith}
use lib.Dec.{eqb}
use lib.ListN.{length}
use borrow.Author.Tests.{eqb-true, eq-eqb}
use Rattle.scope.specs.declared.Node.{Node}
use Rattle.scope.specs.Outcome.{Outcome, answer, refused, fine, require, ◌>>◌, ◌>>=◌}
use Rattle.scope.specs.Block.{records_in}
use Rattle.scope.specs.Table.{list_from}
use Rattle.scope.proofs.Tests.{and_left, and_right, and_both, refused_no, required, then_first, then_next, bound}
use Rattle.calculus.specs.Expansion.{expand}
use Rattle.calculus.specs.Decide.{nodes_of, asked}
use Rattle.calculus.specs.Order.{value_of, Tree, conflict, unit, split, model, cut}
use Rattle.rules.specs.declared.Step.{Step}
use Rattle.rules.specs.declared.Version.{Version}
use Rattle.rules.specs.declared.Version.TheVariants.{One, Two}
use Rattle.rules.specs.Steps.{derivations, version_of, step_at, G as name, C, U, form_test, decode_steps}
use Rattle.rules.specs.Rules.{is_g, names, body, is_empty, equal, agreed, may_be_unnamed, names_test, is_fails, root, running, ended, run, accepts}
use Rattle.rules.specs.Derivation.{removals, removed, steps_of, named_steps}
use Rattle.rules.specs.Derive.{checked, check}
use Rattle.rules.proofs.Laws.{by_test}

-- ---- lists of literals that are the same

equal_is : (ls goals : List ℕ) → equal ls goals ≡ true → ls ≡ goals
unfolding equal
equal_is [] [] e = refl
equal_is [] (g ∷ goals) e = absurd (false≢true e)
equal_is (l ∷ ls) [] e = absurd (false≢true e)
equal_is (l ∷ ls) (g ∷ goals) e =
    let p : l ≡ g = eqb-true l g (and_left (eqb l g) (equal ls goals) e) in
    let q : ls ≡ goals = equal_is ls goals (and_right (eqb l g) (equal ls goals) e) in
    cc

pub equal_self : (goals : List ℕ) → equal goals goals ≡ true
unfolding equal
equal_self [] = refl
equal_self (g ∷ goals) = and_both (eqb g g) (equal goals goals) (eq-eqb g g refl) (equal_self goals)

none_or : (v : Version) (ls : List ℕ) (t : Bool) → ((may_be_unnamed v && is_empty ls) || t) ≡ true → ((v ≡ One) × (ls ≡ [])) ⊎ (t ≡ true)
none_or One [] t e = inl (refl, refl)
none_or One (l ∷ ls) t e = inr e
none_or Two ls t e = inr e

-- ---- steps that name no goal

-- they are all of the body
pub body-whole : (ss : List Step) → names ss ≡ [] → body ss ≡ ss
unfolding names body
body-whole [] e = refl
body-whole (s ∷ ss) e =
    by_test (is_g s)
    (λ q. absurd (let z : s.value ∷ names ss ≡ [] = rw q at e in let y : ◌≡◌ {A = ℕ} 0 1 = cc in omega arith))
    (λ q. rw q)

names-removals : (G : List ℕ) (k p : ℕ) (c : List ℕ) (s : Step) (ss : List Step) → is_g s ≡ false → names (removals G k p c ++ s ∷ ss) ≡ []
unfolding names removals
names-removals G k p [] s ss e = rw e
names-removals G k p (l ∷ c) s ss e =
    by_test (is_fails (value_of G l)) (λ q. rw q) (λ q. rw q (names-removals G k (suc p) c s ss e))

names_removed : (v : Version) (expand : ℕ → List (List ℕ)) (goals G : List ℕ) (k : ℕ) (s : Step) (ss : List Step) → is_g s ≡ false
    → names (removed v expand goals G k ++ s ∷ ss) ≡ []
unfolding names
names_removed One expand goals G k s ss e = names-removals G k 0 _ s ss e
names_removed Two expand goals G k s ss e = rw e

module _ (v : Version) (expand : ℕ → List (List ℕ)) (goals : List ℕ) where
  -- the steps of a search
  names_search : (G : List ℕ) (search : Tree) → names (steps_of v expand goals G search) ≡ []
  unfolding names steps_of
  names_search G (conflict k) = names_removed v expand goals G k (C k) [] refl
  names_search G (unit k l below) = names_removed v expand goals G k (U k) (steps_of v expand goals (l ∷ G) below) refl
  names_search G (split l left right) = refl
  names_search G (model F) = refl
  names_search G cut = refl

-- ---- steps after the names of goals

names-after : (goals : List ℕ) (ss : List Step) → names ss ≡ [] → names (map name goals ++ ss) ≡ goals
unfolding names
names-after [] ss e = e
names-after (g ∷ goals) ss e = rw (names-after goals ss e)

body-after : (goals : List ℕ) (ss : List Step) → names ss ≡ [] → body (map name goals ++ ss) ≡ ss
unfolding body
body-after [] ss e = body-whole ss e
body-after (g ∷ goals) ss e = body-after goals ss e

module _ (v : Version) (expand : ℕ → List (List ℕ)) (goals : List ℕ) (nodes : ℕ) where
  -- the derivation in the solver's order names its goals, and its search is tried from the start
  pub accepts_named : (search : Tree)
      → accepts v expand goals nodes (named_steps v expand goals search)
      ≡ run v expand goals nodes (length goals) (steps_of v expand goals [] search) (running root [])
  unfolding accepts names_test
  accepts_named search =
      let e = names_search v expand goals [] search in
      rw (names-after goals (steps_of v expand goals [] search) e, body-after goals (steps_of v expand goals [] search) e, equal_self goals)
      (or-fine (may_be_unnamed v && is_empty goals))
    where
      or-fine : (t : Bool) → (require (t || true) 64 (agreed goals goals) >> run v expand goals nodes (length goals) (steps_of v expand goals [] search) (running root [])) ≡ run v expand goals nodes (length goals) (steps_of v expand goals [] search) (running root [])
      or-fine true = refl
      or-fine false = refl

  module _ (ss : List Step) (e : accepts v expand goals nodes ss ≡ fine) where
    -- what is accepted names the caller's goals, or in version one none
    pub accepted-names : ((v ≡ One) × (names ss ≡ [])) ⊎ (names ss ≡ goals)
    unfolding accepts names_test
    accepted-names =
        go (none_or v (names ss) (equal (names ss) goals)
        (required ((may_be_unnamed v && is_empty (names ss)) || equal (names ss) goals) 64 (agreed (names ss) goals)
        (then_first _ (run v expand goals nodes (length (names ss)) (body ss) (running root [])) e)))
      where
        go : ((v ≡ One) × (names ss ≡ [])) ⊎ (equal (names ss) goals ≡ true) → ((v ≡ One) × (names ss ≡ [])) ⊎ (names ss ≡ goals)
        go (inl q) = inl q
        go (inr q) = inr (equal_is (names ss) goals q)

    -- and its other steps run to their end
    pub accepted-runs : run v expand goals nodes (length (names ss)) (body ss) (running root []) ≡ fine
    unfolding accepts
    accepted-runs = then_next (names_test v goals (names ss)) _ e

-- 'Staff have checked against the wrong goal list': a derivation that names goals is accepted for no other list, over whatever table
pub names-only : (v : Version) (expand expand' : ℕ → List (List ℕ)) (goals goals' : List ℕ) (nodes nodes' : ℕ) (ss : List Step) → (names ss ≡ [] → ⊥)
    → accepts v expand goals nodes ss ≡ fine → accepts v expand' goals' nodes' ss ≡ fine → goals ≡ goals'
names-only v expand expand' goals goals' nodes nodes' ss some e e' =
    go (accepted-names v expand goals nodes ss e) (accepted-names v expand' goals' nodes' ss e')
  where
    go : ((v ≡ One) × (names ss ≡ [])) ⊎ (names ss ≡ goals) → ((v ≡ One) × (names ss ≡ [])) ⊎ (names ss ≡ goals') → goals ≡ goals'
    go (inl q) z = absurd (some q.1)
    go (inr p) (inl q) = absurd (some q.1)
    go (inr p) (inr q) = sym p ∙ q

-- the same of the calls, and of bytes whose first step is a G
module _ (d : List ℕ) (opens : (step_at d 0).rule ≡ 71) where
  some-names : (v : Version) (expand : ℕ → List (List ℕ)) (goals : List ℕ) (nodes n : ℕ) → accepts v expand goals nodes (list_from (step_at d) 0 n) ≡ fine
      → names (list_from (step_at d) 0 n) ≡ [] → ⊥
  unfolding accepts names body run ended list_from
  some-names v expand goals nodes zero e q = refused_no (then_next (names_test v goals []) (refused 47 0) e)
  some-names v expand goals nodes (suc n) e q =
      let z : (step_at d 0).value ∷ names (list_from (step_at d) 1 n) ≡ [] = rw (eq-eqb (step_at d 0).rule 71 opens) at q in
      let y : ◌≡◌ {A = ℕ} 0 1 = cc in
      omega arith

  pub check-names : (t t' goals goals' w w' : List ℕ) → check t goals w d ≡ fine → check t' goals' w' d ≡ fine → goals ≡ goals'
  unfolding check checked decode_steps
  check-names t t' goals goals' w w' e e' =
      let a = bound (asked t goals 0 0 (length w)) _ e in
      let b = bound (asked t' goals' 0 0 (length w')) _ e' in
      go (form_test d) (version_of d) a.0 b.0 a.2 b.2
    where
      go : (o : Outcome (Unit {0})) (v : Version) (rs rs' : List Node)
          → ((o >> answer (list_from (step_at d) 0 (records_in derivations d))) >>= accepts v (expand (nodes_of rs)) goals (length rs)) ≡ fine
          → ((o >> answer (list_from (step_at d) 0 (records_in derivations d))) >>= accepts v (expand (nodes_of rs')) goals' (length rs')) ≡ fine
          → goals ≡ goals'
      go (answer u) v rs rs' q q' =
          names-only v (expand (nodes_of rs)) (expand (nodes_of rs')) goals goals' (length rs) (length rs') (list_from (step_at d) 0 (records_in derivations d))
          (some-names v (expand (nodes_of rs)) goals (length rs) (records_in derivations d) q) q q'
      go (refused number place) v rs rs' q q' = refused_no q
