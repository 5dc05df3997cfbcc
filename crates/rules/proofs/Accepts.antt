-- The checker accepts the derivation in the solver's order of goals that the search calls impossible. Assumes nothing.
use mathlib.Core.Path.{◌≡◌, refl, sym, ap, ◌∙◌, subst}
use mathlib.Core.Logic.{◌⊎◌, inl, inr}
use mathlib.Core.List.{List, [], ◌∷◌, ◌++◌, append-nil, append_assoc}
use mathlib.Core.Bool.{Bool, true, false, cond, not, and-false}
use Prim.Native.Nat.{ℕ, zero, suc, ◌+◌, ◌*◌, ◌<◌, ◌≤◌}
use native.Mathlib.Omega.{arith}
use lib.Dec.{eqb, ltb}
use lib.ListN.{length, get_or, drop, length-append}
use borrow.Author.Tests.{lt-ltb, eq-eqb, ne_eqb}
use Rattle.scope.specs.Outcome.{Outcome, answer, fine}
use Rattle.scope.specs.declared.Node.{Node}
use Rattle.scope.proofs.Tests.{and_both}
use Rattle.calculus.specs.Expansion.{neg, expand}
use Rattle.calculus.specs.Order.{Value, holds, fails, undecided, value_of, mem, State, met, empty, one, many, opened, joined, state_of, clauses, Tree, tree, impossible, answer_of}
use Rattle.calculus.specs.Model.{All, Table, Below}
use Rattle.calculus.proofs.Lists.{all_imply}
use Rattle.calculus.proofs.Literals.{is_false, mem_same, mem-later, all_member}
use Rattle.calculus.proofs.Moves.{ClauseIs, conflict_clause, unit_clause}
use Rattle.calculus.proofs.Search.{Grown, closes, joins, ends, parts, grown-whole, possible_closed}
use Rattle.calculus.proofs.Sound.{or_closed}
use Rattle.rules.specs.declared.Step.{Step}
use Rattle.rules.specs.declared.Version.{Version}
use Rattle.rules.specs.declared.Version.TheVariants.{One, Two}
use Rattle.rules.specs.Steps.{U, R, C, S}
use Rattle.rules.specs.Rules.{Place, among, Branch, root, join, strike_clause, strike_literal, is_fails, unstruck, Progress, running, turn, stands, left, rule_u, rule_r, rule_c, rule_s, apply, unit_two, conflict_two, apply_two, advance, ended, run, accepts}
use Rattle.rules.specs.Derivation.{removals, removed, steps_of, named_steps}
use Rattle.rules.proofs.Laws.{by_test, Any, any_imply, place, all_among, still_in, clause-kept}
use Rattle.rules.proofs.Names.{accepts_named}
use Rattle.rules.proofs.Sound.{Agrees, none-accepted}

abbrev branch : List ℕ → List ℕ → List Place → Branch
branch G cs xs = record { G = G; struck_clauses = cs; struck_literals = xs }

-- ---- the literals that removals leave

-- the literals of a clause that G does not make false
kept : List ℕ → List ℕ → List ℕ
kept G [] = []
kept G (l ∷ c) = cond (is_fails (value_of G l)) (kept G c) (l ∷ kept G c)

any_kept : (P : ℕ → Type 0) (G c : List ℕ) → Any P (kept G c) → Any P c
unfolding kept
any_kept P G [] a = a
any_kept P G (l ∷ c) a = go (is_fails (value_of G l)) a (any_kept P G c)
  where
    go : (t : Bool) → Any P (cond t (kept G c) (l ∷ kept G c)) → (Any P (kept G c) → Any P c) → P l ⊎ Any P c
    go true a r = inr (r a)
    go false (inl a) r = inl a
    go false (inr a) r = inr (r a)

-- what a clause's state says of them
abbrev Keeps : State → List ℕ → Type 0
Keeps met ls = Unit {0}
Keeps empty ls = ls ≡ []
Keeps (one l) ls = ls ≡ l ∷ []
Keeps (many l) ls = Unit {0}

keeps_opened : (l : ℕ) (s : State) (ls : List ℕ) → Keeps s ls → Keeps (opened l s) (l ∷ ls)
keeps_opened l met ls k = tt
keeps_opened l empty ls k = ap (l ∷◌) k
keeps_opened l (one m) ls k = tt
keeps_opened l (many m) ls k = tt

keeps_joined : (w : Value) (l : ℕ) (s : State) (ls : List ℕ) → Keeps s ls → Keeps (joined w l s) (cond (is_fails w) ls (l ∷ ls))
keeps_joined holds l s ls k = tt
keeps_joined fails l s ls k = k
keeps_joined undecided l s ls k = keeps_opened l s ls k

state_keeps : (G c : List ℕ) → Keeps (state_of G c) (kept G c)
unfolding state_of kept
state_keeps G [] = refl
state_keeps G (l ∷ c) = keeps_joined (value_of G l) l (state_of G c) (kept G c) (state_keeps G c)

-- ---- the places that removals strike

-- the struck places after the removals of clause k from position p on
struck : List ℕ → ℕ → ℕ → List ℕ → List Place → List Place
struck G k p [] xs = xs
struck G k p (l ∷ c) xs = cond (is_fails (value_of G l)) (struck G k (suc p) c (place k p ∷ xs)) (struck G k (suc p) c xs)

among_same : (k p : ℕ) (xs : List Place) → among (place k p) (place k p ∷ xs) ≡ true
unfolding among
among_same k p xs = rw (eq-eqb k k refl, eq-eqb p p refl)

among_other : (k p q : ℕ) (xs : List Place) → (q ≡ p → ⊥) → among (place k q) (place k p ∷ xs) ≡ among (place k q) xs
unfolding among
among_other k p q xs h = rw (ne_eqb q p h, and-false (eqb k k))

-- places before p are as they were
among_before : (G : List ℕ) (k p q : ℕ) (c : List ℕ) (xs : List Place) → q < p → among (place k q) (struck G k p c xs) ≡ among (place k q) xs
unfolding struck
among_before G k p q [] xs h = refl
among_before G k p q (l ∷ c) xs h =
    by_test (is_fails (value_of G l))
    (λ t. rw t (among_before G k (suc p) q c (place k p ∷ xs) (omega arith) ∙ among_other k p q xs (λ e. omega arith)))
    (λ t. rw t (among_before G k (suc p) q c xs (omega arith)))

all_struck : (P : Place → Type 0) (G : List ℕ) (k p : ℕ) (c : List ℕ) (xs : List Place) → ((q : ℕ) → P (place k q)) → All P xs → All P (struck G k p c xs)
unfolding struck
all_struck P G k p [] xs f a = a
all_struck P G k p (l ∷ c) xs f a =
    by_test (is_fails (value_of G l))
    (λ t. rw t (all_struck P G k (suc p) c (place k p ∷ xs) f (f p, a)))
    (λ t. rw t (all_struck P G k (suc p) c xs f a))

-- no place of clause k from position p on is struck
abbrev Unstruck : ℕ → ℕ → List Place → Type 0
Unstruck k p xs = (q : ℕ) → p ≤ q → among (place k q) xs ≡ false

unstruck-later : (k p : ℕ) (xs : List Place) → Unstruck k p xs → Unstruck k (suc p) xs
unstruck-later k p xs f q h = f q (omega arith)

unstruck_struck : (k p : ℕ) (xs : List Place) → Unstruck k p xs → Unstruck k (suc p) (place k p ∷ xs)
unstruck_struck k p xs f q h = among_other k p q xs (λ e. omega arith) ∙ f q (omega arith)

-- one literal further on
struck-more : (G : List ℕ) (k p l : ℕ) (c : List ℕ) (xs : List Place) → is_fails (value_of G l) ≡ true → struck G k p (l ∷ c) xs ≡ struck G k (suc p) c (place k p ∷ xs)
unfolding struck
struck-more G k p l c xs t = rw t

struck-past : (G : List ℕ) (k p l : ℕ) (c : List ℕ) (xs : List Place) → is_fails (value_of G l) ≡ false → struck G k p (l ∷ c) xs ≡ struck G k (suc p) c xs
unfolding struck
struck-past G k p l c xs t = rw t

-- after the removals, the unstruck literals are those that G does not make false
unstruck-kept : (G cs : List ℕ) (k p : ℕ) (c : List ℕ) (xs : List Place) → Unstruck k p xs → unstruck (branch G cs (struck G k p c xs)) k p c ≡ kept G c
unfolding unstruck kept
unstruck-kept G cs k p [] xs f = refl
unstruck-kept G cs k p (l ∷ c) xs f =
    by_test (is_fails (value_of G l))
    (λ t. subst (λ (ys : List Place). unstruck (branch G cs ys) k p (l ∷ c) ≡ kept G (l ∷ c)) (sym (struck-more G k p l c xs t))
    (rw (t, among_before G k (suc p) p c (place k p ∷ xs) (omega arith), among_same k p xs)
    (unstruck-kept G cs k (suc p) c (place k p ∷ xs) (unstruck_struck k p xs f))))
    (λ t. subst (λ (ys : List Place). unstruck (branch G cs ys) k p (l ∷ c) ≡ kept G (l ∷ c)) (sym (struck-past G k p l c xs t))
    (rw (t, among_before G k (suc p) p c xs (omega arith), f p (omega arith))
    (ap (l ∷◌) (unstruck-kept G cs k (suc p) c xs (unstruck-later k p xs f)))))

-- ---- clauses with a true literal

met_clause : (G c : List ℕ) → Any (λ l. mem l G ≡ true) c → state_of G c ≡ met
unfolding state_of value_of
met_clause G [] a = absurd a
met_clause G (l ∷ c) (inl a) = rw a
met_clause G (l ∷ c) (inr a) = rw (met_clause G c a) (stays (value_of G l))
  where
    stays : (w : Value) → joined w l met ≡ met
    stays holds = refl
    stays fails = refl
    stays undecided = refl

empty_unmet : empty ≡ met → ⊥
empty_unmet e = let z : ◌≡◌ {A = ℕ} 0 1 = cc in omega arith

one_unmet : (l : ℕ) → one l ≡ met → ⊥
one_unmet l e = let z : ◌≡◌ {A = ℕ} 0 1 = cc in omega arith

-- ---- a small law of lists

-- what stands at position p, where the rest from p on is known
drop_here : (ls : List ℕ) (p l : ℕ) (c : List ℕ) → drop p ls ≡ l ∷ c → (p < length ls) × (get_or ls p 0 ≡ l) × (drop (suc p) ls ≡ c)
drop_here [] zero l c e = absurd (let z : ◌≡◌ {A = ℕ} 0 1 = cc in omega arith)
drop_here [] (suc p) l c e = absurd (let z : ◌≡◌ {A = ℕ} 0 1 = cc in omega arith)
drop_here (x ∷ ls) zero l c e = (omega arith, cc, cc)
drop_here (x ∷ ls) (suc p) l c e =
    let q = drop_here ls p l c e in
    (omega (arith, q.0), q.1, q.2)

-- ---- the steps of a search run

module _ (n : ℕ) (t : ℕ → Node) (goals : List ℕ) where
  abbrev clause : List ℕ → ℕ → List ℕ
  clause G k = get_or (clauses (expand t) goals G) k []

  abbrev standing : Branch → ℕ → Bool
  standing b k = stands (expand t) goals n b k

  abbrev rest : Branch → ℕ → List ℕ
  rest b k = left (expand t) goals n b k

  -- the removals of clause k, the steps of a tree, and runs, in a version
  abbrev removes : Version → List ℕ → ℕ → List Step
  removes v G k = removed v (expand t) goals G k

  abbrev steps : Version → List ℕ → Tree → List Step
  steps v G tr = steps_of v (expand t) goals G tr

  abbrev runs : Version → ℕ → List Step → Progress → Outcome (Unit {0})
  runs v i ss p = run v (expand t) goals n i ss p

  -- from one progress to another by a step
  abbrev Goes : Version → ℕ → Step → Progress → Progress → Type 0
  Goes v i s p q = advance v (expand t) goals n i s p ≡ answer q

  module _ (v : Version) where
    run-next : (i : ℕ) (s : Step) (ss : List Step) (p q : Progress) → Goes v i s p q → runs v i (s ∷ ss) p ≡ runs v (suc i) ss q
    unfolding run
    run-next i s ss p q e = rw e

    run_at : (i j : ℕ) (ss : List Step) (p : Progress) → i ≡ j → runs v i ss p ≡ runs v j ss p
    run_at i j ss p e = ap (λ (z : ℕ). runs v z ss p) e

    run-append : (i : ℕ) (xs ys ss : List Step) (p : Progress) → runs v i (xs ++ ys ++ ss) p ≡ runs v i (xs ++ (ys ++ ss)) p
    run-append i xs ys ss p = ap (λ (zs : List Step). runs v i zs p) (append_assoc xs ys ss)

  -- each rule, where its condition holds
  module _ (i : ℕ) (b : Branch) (waiting : List Branch) where
    by-R : (p k : ℕ) → standing b k ≡ true → p < length (clause b.G k) → among (place k p) b.struck_literals ≡ false
        → is_fails (value_of b.G (get_or (clause b.G k) p 0)) ≡ true → Goes One i (R p k) (running b waiting) (running (strike_literal (place k p) b) waiting)
    unfolding advance apply rule_r
    by-R p k s h m f = rw (s, lt-ltb p (length (clause b.G k)) h, m, f)

    by-U : (k l : ℕ) → standing b k ≡ true → rest b k ≡ l ∷ [] → value_of b.G l ≡ undecided
        → Goes One i (U k) (running b waiting) (running (strike_clause k (join l b)) waiting)
    unfolding advance apply rule_u
    by-U k l s o u = rw (s, o, u)

    by-C : (k : ℕ) → standing b k ≡ true → rest b k ≡ [] → Goes One i (C k) (running b waiting) (turn waiting)
    unfolding advance apply rule_c
    by-C k s o = rw (s, o)

    -- in both versions
    by-S : (v : Version) (l : ℕ) → l < 2 * n → value_of b.G l ≡ undecided → Goes v i (S l) (running b waiting) (running (join l b) (join (neg l) b ∷ waiting))
    unfolding advance apply apply_two rule_s
    by-S One l h u = rw (lt-ltb l (2 * n) h, u)
    by-S Two l h u = rw (lt-ltb l (2 * n) h, u)

    -- in version two, by the clause's state under G alone
    by-U-two : (k l : ℕ) → ClauseIs (expand t) goals b.G k (one l) → Goes Two i (U k) (running b waiting) (running (join l b) waiting)
    unfolding advance apply_two unit_two
    by-U-two k l q = rw (lt-ltb k (length (clauses (expand t) goals b.G)) q.0, q.1)

    by-C-two : (k : ℕ) → ClauseIs (expand t) goals b.G k empty → Goes Two i (C k) (running b waiting) (turn waiting)
    unfolding advance apply_two conflict_two
    by-C-two k q = rw (lt-ltb k (length (clauses (expand t) goals b.G)) q.0, q.1)

  -- the removals of a clause that stands, none of its literals struck before, strike its false literals
  module _ (waiting : List Branch) (G cs : List ℕ) (k : ℕ) (s : standing (branch G cs []) k ≡ true) where
    run-removals : (c : List ℕ) (p i : ℕ) (xs : List Place) (ss : List Step) → drop p (clause G k) ≡ c → Unstruck k p xs
        → runs One i (removals G k p c ++ ss) (running (branch G cs xs) waiting)
        ≡ runs One (i + length (removals G k p c)) ss (running (branch G cs (struck G k p c xs)) waiting)
    unfolding removals struck
    run-removals [] p i xs ss d f = run_at One i (i + 0) ss (running (branch G cs xs) waiting) (omega arith)
    run-removals (l ∷ c) p i xs ss d f =
        let here = drop_here (clause G k) p l c d in
        by_test (is_fails (value_of G l))
        (λ e. rw e
        (run-next One i (R p k) (removals G k (suc p) c ++ ss) (running (branch G cs xs) waiting) (running (branch G cs (place k p ∷ xs)) waiting)
        (by-R i (branch G cs xs) waiting p k s here.0 (f p (omega arith)) (rw here.1 e))
        ∙ run-removals c (suc p) (suc i) (place k p ∷ xs) ss here.2 (unstruck_struck k p xs f)
        ∙ run_at One (suc i + length (removals G k (suc p) c)) (i + suc (length (removals G k (suc p) c))) ss
        (running (branch G cs (struck G k (suc p) c (place k p ∷ xs))) waiting) (omega arith)))
        (λ e. rw e (run-removals c (suc p) i xs ss here.2 (unstruck-later k p xs f)))

  -- clause k of the list of G has a literal in G
  abbrev MetAt : List ℕ → ℕ → Type 0
  MetAt G k = (k < length (clauses (expand t) goals G)) × Any (λ l. mem l G ≡ true) (clause G k)

  -- all that is struck lies in such clauses
  abbrev Clean : List ℕ → List ℕ → List Place → Type 0
  Clean G cs xs = All (MetAt G) cs × All (λ x. MetAt G x.clause) xs

  met_later : (G : List ℕ) (l k : ℕ) → MetAt G k → MetAt (l ∷ G) k
  met_later G l k m = (
    still_in (expand t) goals G l k m.0,
    rw (clause-kept (expand t) goals G l k m.0)
        (any_imply (λ j. mem j G ≡ true) (λ j. mem j (l ∷ G) ≡ true) (mem-later G l) (clause G k) m.1),
  )

  clean_later : (G cs : List ℕ) (xs : List Place) (l : ℕ) → Clean G cs xs → Clean (l ∷ G) cs xs
  clean_later G cs xs l a = (
    all_imply (MetAt G) (MetAt (l ∷ G)) (met_later G l) cs a.0,
    all_imply (λ x. MetAt G x.clause) (λ x. MetAt (l ∷ G) x.clause) (λ x. met_later G l x.clause) xs a.1,
  )

  module _ (G cs : List ℕ) (xs : List Place) (a : Clean G cs xs) (k : ℕ) where
    -- the struck places after the removals of clause k
    abbrev after : List Place
    after = struck G k 0 (clause G k) xs

    -- a clause that is not met stands with no literal struck: its false literals are removed
    module _ (s : State) (q : ClauseIs (expand t) goals G k s) (u : s ≡ met → ⊥) where
      unmet : MetAt G k → ⊥
      unmet m = u (sym q.1 ∙ met_clause G (clause G k) m.1)

      unmet-stands : standing (branch G cs []) k ≡ true
      unmet-stands =
          let h = lt-ltb k (length (clauses (expand t) goals G)) q.0 in
          and_both (ltb k (length (clauses (expand t) goals G))) (not (mem k cs)) h
          (ap not (is_false (mem k cs) (λ e. unmet (all_member (MetAt G) cs k a.0 e))))

      unmet-unstruck : Unstruck k 0 xs
      unmet-unstruck p h = is_false (among (place k p) xs) (λ e. unmet (all_among (λ x. MetAt G x.clause) xs (place k p) a.1 e))

      clause-keeps : Keeps s (kept G (clause G k))
      clause-keeps = subst (λ (z : State). Keeps z (kept G (clause G k))) q.1 (state_keeps G (clause G k))

      rest-keeps : Keeps s (rest (branch G cs after) k)
      rest-keeps = subst (Keeps s) (sym (unstruck-kept G cs k 0 (clause G k) xs unmet-unstruck)) clause-keeps

      run-removed : (waiting : List Branch) (i : ℕ) (m : Step) (ss : List Step) (p : Progress)
          → Goes One (i + length (removes One G k)) m (running (branch G cs after) waiting) p
          → runs One i (removes One G k ++ m ∷ ss) (running (branch G cs xs) waiting) ≡ runs One (suc (i + length (removes One G k))) ss p
      run-removed waiting i m ss p e =
          run-removals waiting G cs k unmet-stands (clause G k) 0 i xs (m ∷ ss) refl unmet-unstruck
          ∙ run-next One (i + length (removes One G k)) m ss (running (branch G cs after) waiting) p e

    -- a clause whose literals are all false closes the branch
    run_conflict : ClauseIs (expand t) goals G k empty → (waiting : List Branch) (i : ℕ) (ss : List Step)
        → runs One i (removes One G k ++ C k ∷ ss) (running (branch G cs xs) waiting) ≡ runs One (suc (i + length (removes One G k))) ss (turn waiting)
    run_conflict q waiting i ss =
        run-removed empty q empty_unmet waiting i (C k) ss (turn waiting)
        (by-C (i + length (removes One G k)) (branch G cs after) waiting k (unmet-stands empty q empty_unmet) (rest-keeps empty q empty_unmet))

    -- a clause's one undecided literal joins G
    module _ (l : ℕ) (q : ClauseIs (expand t) goals G k (one l)) where
      run-unit : value_of G l ≡ undecided → (waiting : List Branch) (i : ℕ) (ss : List Step)
          → runs One i (removes One G k ++ U k ∷ ss) (running (branch G cs xs) waiting)
          ≡ runs One (suc (i + length (removes One G k))) ss (running (branch (l ∷ G) (k ∷ cs) after) waiting)
      run-unit v waiting i ss =
          run-removed (one l) q (one_unmet l) waiting i (U k) ss (running (branch (l ∷ G) (k ∷ cs) after) waiting)
          (by-U (i + length (removes One G k)) (branch G cs after) waiting k l
          (unmet-stands (one l) q (one_unmet l)) (rest-keeps (one l) q (one_unmet l)) v)

      -- and makes the clause true
      met-unit : MetAt (l ∷ G) k
      met-unit = (
        still_in (expand t) goals G l k q.0,
        rw (clause-kept (expand t) goals G l k q.0)
            (any_kept (λ m. mem m (l ∷ G) ≡ true) G (clause G k) (rw (clause-keeps (one l) q (one_unmet l)) (inl (mem_same G l l refl)))),
      )

      clean-unit : Clean (l ∷ G) (k ∷ cs) after
      clean-unit =
          let b = clean_later G cs xs l a in
          ((met-unit, b.0), all_struck (λ x. MetAt (l ∷ G) x.clause) G k 0 (clause G k) xs (λ p. met-unit) b.1)

  -- what a version asks of the strikes before a move, and what a move on a clause comes to: in version two nothing, and by its state alone
  abbrev Ready : Version → List ℕ → List ℕ → List Place → Type 0
  Ready One G cs xs = Clean G cs xs
  Ready Two G cs xs = Unit {0}

  ready_later : (v : Version) (G cs : List ℕ) (xs : List Place) (l : ℕ) → Ready v G cs xs → Ready v (l ∷ G) cs xs
  ready_later One G cs xs l a = clean_later G cs xs l a
  ready_later Two G cs xs l a = tt

  ready_conflict : (v : Version) (G cs : List ℕ) (xs : List Place) → Ready v G cs xs → (k : ℕ) → ClauseIs (expand t) goals G k empty
      → (waiting : List Branch) (i : ℕ) (ss : List Step)
      → runs v i (removes v G k ++ C k ∷ ss) (running (branch G cs xs) waiting) ≡ runs v (suc (i + length (removes v G k))) ss (turn waiting)
  ready_conflict One G cs xs a k q waiting i ss = run_conflict G cs xs a k q waiting i ss
  ready_conflict Two G cs xs a k q waiting i ss =
      run-next Two i (C k) ss (running (branch G cs xs) waiting) (turn waiting) (by-C-two i (branch G cs xs) waiting k q)
      ∙ run_at Two (suc i) (suc (i + 0)) ss (turn waiting) (omega arith)

  -- the strikes after a unit
  record Joining (v : Version) (G cs : List ℕ) (xs : List Place) (k l : ℕ) : Type 0 where
    clauses : List ℕ
    places : List Place
    ready : Ready v (l ∷ G) clauses places
    goes : (waiting : List Branch) (i : ℕ) (ss : List Step)
        → runs v i (removes v G k ++ U k ∷ ss) (running (branch G cs xs) waiting)
        ≡ runs v (suc (i + length (removes v G k))) ss (running (branch (l ∷ G) clauses places) waiting)

  ready_unit : (v : Version) (G cs : List ℕ) (xs : List Place) → Ready v G cs xs → (k l : ℕ) → ClauseIs (expand t) goals G k (one l)
      → value_of G l ≡ undecided → Joining v G cs xs k l
  ready_unit One G cs xs a k l q u = record {
    clauses = k ∷ cs;
    places = after G cs xs a k;
    ready = clean-unit G cs xs a k l q;
    goes = run-unit G cs xs a k l q u;
  }
  ready_unit Two G cs xs a k l q u = record {
    clauses = cs;
    places = xs;
    ready = tt;
    goes = λ waiting i ss.
        run-next Two i (U k) ss (running (branch G cs xs) waiting) (running (branch (l ∷ G) cs xs) waiting) (by-U-two i (branch G cs xs) waiting k l q)
        ∙ run_at Two (suc i) (suc (i + 0)) ss (running (branch (l ∷ G) cs xs) waiting) (omega arith);
  }

  module _ (v : Version) where
    -- the steps of a closed tree close the branch that they start on
    pub run-grown : {G : List ℕ} {tr : Tree} → Grown n t goals G tr → answer_of tr ≡ impossible
        → (cs : List ℕ) (xs : List Place) → Ready v G cs xs → (waiting : List Branch) (i : ℕ) (ss : List Step)
        → runs v i (steps v G tr ++ ss) (running (branch G cs xs) waiting) ≡ runs v (i + length (steps v G tr)) ss (turn waiting)
    unfolding steps_of answer_of
    run-grown {G} (closes {k = k} g m) e cs xs a waiting i ss =
        run-append v i (removes v G k) (C k ∷ []) ss (running (branch G cs xs) waiting)
        ∙ ready_conflict v G cs xs a k (conflict_clause (expand t) goals G k m) waiting i ss
        ∙ run_at v _ _ ss (turn waiting) (omega (arith, length-append (removes v G k) (C k ∷ [])))
    run-grown {G} (joins {k = k} {l = l} {below = tr} g m f r) e cs xs a waiting i ss =
        let u = ready_unit v G cs xs a k l (unit_clause (expand t) goals G k l m) f.1 in
        run-append v i (removes v G k) (U k ∷ steps v (l ∷ G) tr) ss (running (branch G cs xs) waiting)
        ∙ u.goes waiting i (steps v (l ∷ G) tr ++ ss)
        ∙ run-grown r e u.clauses u.places u.ready waiting (suc (i + length (removes v G k))) ss
        ∙ run_at v _ _ ss (turn waiting) (omega (arith, length-append (removes v G k) (U k ∷ steps v (l ∷ G) tr)))
    run-grown (ends g m) e cs xs a waiting i ss = absurd (possible_closed e)
    run-grown {G} (parts {l = l} {left = x} {right = y} g m f p q) e cs xs a waiting i ss =
        let c = or_closed (answer_of x) (answer_of y) e in
        let b : Branch = branch G cs xs in
        run-next v i (S l) (steps v (l ∷ G) x ++ steps v (neg l ∷ G) y ++ ss) (running b waiting) (running (join l b) (join (neg l) b ∷ waiting))
        (by-S i b waiting v l f.0 f.1)
        ∙ run-append v (suc i) (steps v (l ∷ G) x) (steps v (neg l ∷ G) y) ss (running (join l b) (join (neg l) b ∷ waiting))
        ∙ run-grown p c.0 cs xs (ready_later v G cs xs l a) (join (neg l) b ∷ waiting) (suc i) (steps v (neg l ∷ G) y ++ ss)
        ∙ run-grown q c.1 cs xs (ready_later v G cs xs (neg l) a) waiting (suc i + length (steps v (l ∷ G) x)) ss
        ∙ run_at v _ _ ss (turn waiting) (omega (arith, length-append (steps v (l ∷ G) x) (steps v (neg l ∷ G) y)))

  -- nothing is struck at the start
  ready_root : (v : Version) → Ready v [] [] []
  ready_root One = (tt, tt)
  ready_root Two = tt

  module _ (T : Table n t) (B : Below n goals) (v : Version) where
    -- the derivation in the solver's order of goals called impossible is accepted, in either version
    pub derivation-accepted : answer_of (tree (expand t) goals n []) ≡ impossible
        → accepts v (expand t) goals n (named_steps v (expand t) goals (tree (expand t) goals n [])) ≡ fine
    unfolding run ended
    derivation-accepted e =
        accepts_named v (expand t) goals n (tree (expand t) goals n [])
        ∙ ap (λ (zs : List Step). runs v (length goals) zs (running root [])) (sym (append-nil (steps v [] (tree (expand t) goals n []))))
        ∙ run-grown v (grown-whole n t goals T B) e [] [] (ready_root v) [] (length goals) []

    -- so goals that some truths agree with are not called impossible
    pub never_both : (True : ℕ → Type 0) → Agrees (expand t) goals n True → answer_of (tree (expand t) goals n []) ≡ impossible → ⊥
    never_both True A e = none-accepted (expand t) goals n True A v (named_steps v (expand t) goals (tree (expand t) goals n [])) (derivation-accepted e)
