-- What the checker accepts is true: where truths of literals agree with the goals and the clauses, no steps of any author are accepted.
-- Assumes nothing.
use mathlib.Core.Path.{◌≡◌, refl, sym, ap, ◌∙◌, subst}
use mathlib.Core.Logic.{◌⊎◌, inl, inr}
use mathlib.Core.List.{List, [], ◌∷◌}
use mathlib.Core.Bool.{Bool, true, not, false≢true, true≢false}
use Prim.Native.Nat.{ℕ, suc, ◌+◌, ◌*◌, ◌/◌, ◌<◌}
use native.Mathlib.Omega.{arith}
use lib.Dec.{eqb, ltb}
use lib.ListN.{length, get_or}
use borrow.Author.Tests.{ltb-true, eqb-true}
use Rattle.scope.specs.Outcome.{Outcome, answer, refused, fine, ◌>>=◌}
use Rattle.scope.specs.declared.Node.{Node}
use Rattle.scope.specs.Truth.{classical}
use Rattle.scope.proofs.Tests.{and_left, refused_no}
use Rattle.calculus.specs.Expansion.{neg, expand}
use Rattle.calculus.specs.Order.{Value, holds, fails, undecided, value_of, mem, State, met, empty, one, many, is_empty as are_all_false, joined, state_of, clauses}
use Rattle.calculus.specs.Model.{All, Table, lit_true, Model, AllTrue, Below}
use Rattle.calculus.proofs.Lists.{all_append, all_at, all_imply, all_zip, all_map}
use Rattle.calculus.proofs.Stays.{one_undecided}
use Rattle.calculus.proofs.Literals.{neg_below, mem_other, mem-later, all_member, fails_mem, undecided_mem, undecided_neg}
use Rattle.calculus.proofs.Fresh.{expand-under}
use Rattle.calculus.proofs.Truth.{clause_true, neg-true, expand-true}
use Rattle.rules.specs.declared.Step.{Step}
use Rattle.rules.specs.declared.Version.{Version}
use Rattle.rules.specs.declared.Version.TheVariants.{One, Two}
use Rattle.rules.specs.Rules.{Place, among, Branch, root, join, strike_clause, is_fails, is_undecided, unstruck, any_holds, Progress, running, complete, turn, only, clause_at, stands, left, rule_u, rule_r, rule_e, rule_c, rule_s, in_list, unit_two, conflict_two, apply_in, advance, names, body, ended, run, accepts}
use Rattle.rules.proofs.Names.{accepted-runs}
use Rattle.rules.proofs.Laws.{by_test, Any, place, all_among, still_in, clause-kept, After, after-given, after-only, after_one, after-apply, after_two, after-advance}

-- Truths of literals: `True l` says that l is true. No literal is true with its negation, one of the two is, the clauses of a true
-- literal have a true literal each, and the goals are true
pub record Agrees (expand : ℕ → List (List ℕ)) (goals : List ℕ) (nodes : ℕ) (True : ℕ → Type 0) : Type 0 where
  pub apart : (l : ℕ) → True l → True (neg l) → ⊥
  pub either : (l : ℕ) → l < 2 * nodes → True l ⊎ True (neg l)
  pub opens : (l : ℕ) → True l → All (Any True) (expand l)
  pub starts : All True goals

value_fails : (w : Value) → is_fails w ≡ true → w ≡ fails
value_fails holds e = absurd (false≢true e)
value_fails fails e = refl
value_fails undecided e = absurd (false≢true e)

-- ---- a clause under G: the facts that both versions rest on

-- what a state says where the clause has a true literal and G is true
abbrev Saying : (ℕ → Type 0) → State → Type 0
Saying True met = Unit {0}
Saying True empty = ⊥
Saying True (one l) = True l
Saying True (many l) = Unit {0}

module _ (True : ℕ → Type 0) where
  saying_joined : (w : Value) (l : ℕ) (s : State) → (w ≡ fails → True l → ⊥) → True l → Saying True (joined w l s)
  saying_joined holds l s f t = tt
  saying_joined fails l s f t = absurd (f refl t)
  saying_joined undecided l met f t = tt
  saying_joined undecided l empty f t = t
  saying_joined undecided l (one m) f t = tt
  saying_joined undecided l (many m) f t = tt

  saying_later : (w : Value) (l : ℕ) (s : State) → Saying True s → Saying True (joined w l s)
  saying_later holds l s r = tt
  saying_later fails l s r = r
  saying_later undecided l met r = tt
  saying_later undecided l empty r = absurd r
  saying_later undecided l (one m) r = tt
  saying_later undecided l (many m) r = tt

  -- where literals that G makes false are false, the one that is left is true, and some is left
  state-true : (G c : List ℕ) → ((l : ℕ) → value_of G l ≡ fails → True l → ⊥) → Any True c → Saying True (state_of G c)
  unfolding state_of
  state-true G [] f a = a
  state-true G (l ∷ c) f (inl a) = saying_joined (value_of G l) l (state_of G c) (f l) a
  state-true G (l ∷ c) f (inr a) = saying_later (value_of G l) l (state_of G c) (state-true G c f a)

-- ---- version one: what is struck is false under G, so its conditions are those of version two

module _ (b : Branch) (k : ℕ) where
  -- the struck literals of a clause from position p on are false under G
  abbrev StruckFalse : ℕ → List ℕ → Type 0
  StruckFalse p c = (q r : ℕ) → r ≡ p + q → among (place k r) b.struck_literals ≡ true → q < length c → is_fails (value_of b.G (get_or c q 0)) ≡ true

  struck_tail : (p l : ℕ) (c : List ℕ) → StruckFalse p (l ∷ c) → StruckFalse (suc p) c
  struck_tail p l c f q r e m h = f (suc q) r (omega arith) m (omega arith)

  all_struck_empty : (p : ℕ) (c : List ℕ) → StruckFalse p c → unstruck b k p c ≡ [] → state_of b.G c ≡ empty
  unfolding unstruck state_of
  all_struck_empty p [] f e = refl
  all_struck_empty p (l ∷ c) f e =
      by_test (among (place k p) b.struck_literals)
      (λ m. rw (value_fails (value_of b.G l) (f 0 p (omega arith) m (omega arith))) (all_struck_empty (suc p) c (struck_tail p l c f) (rw m at e)))
      (λ m. absurd (let x : l ∷ unstruck b k (suc p) c ≡ [] = rw m at e in let z : ◌≡◌ {A = ℕ} 0 1 = cc in omega arith))

  one-unstruck-one : (p : ℕ) (c : List ℕ) (l : ℕ) → StruckFalse p c → unstruck b k p c ≡ l ∷ [] → value_of b.G l ≡ undecided → state_of b.G c ≡ one l
  unfolding unstruck state_of
  one-unstruck-one p [] l f e u = absurd (let z : ◌≡◌ {A = ℕ} 0 1 = cc in omega arith)
  one-unstruck-one p (m ∷ c) l f e u =
      by_test (among (place k p) b.struck_literals)
      (λ s. rw (value_fails (value_of b.G m) (f 0 p (omega arith) s (omega arith))) (one-unstruck-one (suc p) c l (struck_tail p m c f) (rw s at e) u))
      (λ s.
      let x : m ∷ unstruck b k (suc p) c ≡ l ∷ [] = rw s at e in
      let y : m ≡ l = cc in
      let z : unstruck b k (suc p) c ≡ [] = cc in
      rw (y, u, all_struck_empty (suc p) c (struck_tail p m c f) z))

only-is : (ls : List ℕ) (l : ℕ) → only ls ≡ answer l → ls ≡ l ∷ []
only-is [] l e = refused_no e
only-is (m ∷ []) l e =
    let q : m ≡ l = cc in
    cc
only-is (m ∷ k ∷ ls) l e = refused_no e

none_is : (ls : List ℕ) → eqb (length ls) 0 ≡ true → ls ≡ []
none_is [] e = refl
none_is (l ∷ ls) e = absurd (omega (arith, eqb-true (length (l ∷ ls)) 0 e))

is_undecided_lem : (w : Value) → is_undecided w ≡ true → w ≡ undecided
is_undecided_lem holds e = absurd (false≢true e)
is_undecided_lem fails e = absurd (false≢true e)
is_undecided_lem undecided e = refl

-- a false literal stays false where an undecided one joins
fails_later : (G : List ℕ) (l m : ℕ) → value_of G l ≡ undecided → is_fails (value_of G m) ≡ true → is_fails (value_of (l ∷ G) m) ≡ true
unfolding value_of
fails_later G l m u f =
    let q = fails_mem G m (value_fails (value_of G m) f) in
    let other : (m ≡ l → ⊥) = λ e. false≢true (sym (undecided_mem G l u).1 ∙ subst (λ (x : ℕ). mem (neg x) G ≡ true) e q.1) in
    rw (mem_other G l m other, q.0, mem-later G l (neg m) q.1)

-- ---- branches that the truths agree with

module _ (expand : ℕ → List (List ℕ)) (goals : List ℕ) (nodes : ℕ) where
  -- a place in the clause list of G whose literal is false under G
  abbrev FalseAt : List ℕ → Place → Type 0
  FalseAt G x =
      (x.clause < length (clauses expand goals G))
      × (is_fails (value_of G (get_or (get_or (clauses expand goals G) x.clause []) x.position 0)) ≡ true)

  -- 'The shared fact': what a branch has struck is false under its G
  abbrev pub Lawful : Branch → Type 0
  Lawful b = All (FalseAt b.G) b.struck_literals

  lawful_join : (l : ℕ) (b : Branch) → value_of b.G l ≡ undecided → Lawful b → Lawful (join l b)
  lawful_join l b u a = all_imply (FalseAt b.G) (FalseAt (l ∷ b.G)) later b.struck_literals a
    where
      later : (x : Place) → FalseAt b.G x → FalseAt (l ∷ b.G) x
      later x f = (
        still_in expand goals b.G l x.clause f.0,
        rw (clause-kept expand goals b.G l x.clause f.0) (fails_later b.G l _ u f.1),
      )

  module _ (b : Branch) (k : ℕ) where
    abbrev clause : List ℕ
    clause = clause_at expand goals nodes b k

    abbrev standing : Bool
    standing = stands expand goals nodes b k

    abbrev rest : List ℕ
    rest = left expand goals nodes b k

    in_list_lem : standing ≡ true → k < length (clauses expand goals b.G)
    in_list_lem s =
        let t : Bool = ltb k (length (clauses expand goals b.G)) in
        ltb-true k (length (clauses expand goals b.G)) (and_left t (not (mem k b.struck_clauses)) s)

    struck-false : Lawful b → StruckFalse b k 0 clause
    struck-false a q r e m h =
        let z : r ≡ q = omega arith in
        rw z at (all_among (FalseAt b.G) b.struck_literals (place k r) a m).1

    -- the conditions of version one are those of version two
    pub unit-state : (l : ℕ) → Lawful b → only rest ≡ answer l → value_of b.G l ≡ undecided → state_of b.G clause ≡ one l
    unit-state l a o u = one-unstruck-one b k 0 clause l (struck-false a) (only-is rest l o) u

    pub conflict-state : Lawful b → eqb (length rest) 0 ≡ true → state_of b.G clause ≡ empty
    conflict-state a e = all_struck_empty b k 0 clause (struck-false a) (none_is rest e)

module _ (expand : ℕ → List (List ℕ)) (goals : List ℕ) (nodes : ℕ) (True : ℕ → Type 0) (A : Agrees expand goals nodes True) where
  clauses_true : (G : List ℕ) → All True G → All (Any True) (clauses expand goals G)
  unfolding clauses
  clauses_true [] h = all_map (Any True) (◌∷ []) goals (all_imply True (λ l. Any True (l ∷ [])) (λ l a. inl a) goals A.starts)
  clauses_true (l ∷ G) h = all_append (Any True) (clauses expand goals G) (expand l) (clauses_true G h.1) (A.opens l h.0)

  -- G is true
  abbrev Agreed : Branch → Type 0
  Agreed b = All True b.G

  -- what the state of a clause in the list says of a true G: soundness of both versions rests on this
  clause-says : (b : Branch) (k : ℕ) → k < length (clauses expand goals b.G) → Agreed b → Saying True (state_of b.G (clause_at expand goals nodes b k))
  clause-says b k h g =
      state-true True b.G (clause_at expand goals nodes b k)
      (λ l f t. A.apart l t (all_member True b.G (neg l) g (fails_mem b.G l f).1))
      (all_at (Any True) (clauses expand goals b.G) k [] (clauses_true b.G g) h)

  module _ (b : Branch) (k : ℕ) (h : k < length (clauses expand goals b.G)) (g : Agreed b) where
    unit-true : (l : ℕ) → state_of b.G (clause_at expand goals nodes b k) ≡ one l → True l
    unit-true l e = subst (Saying True) e (clause-says b k h g)

    conflict-never : state_of b.G (clause_at expand goals nodes b k) ≡ empty → ⊥
    conflict-never e = subst (Saying True) e (clause-says b k h g)

  -- ---- each rule keeps agreement with the open branch or with one that waits

  abbrev Live : Progress → Type 0
  Live (running b waiting) = Any Agreed (b ∷ waiting) × All (Lawful expand goals nodes) (b ∷ waiting)
  Live complete = ⊥

  abbrev LiveAfter : Outcome Progress → Type 0
  LiveAfter = After Live

  live_turn : (waiting : List Branch) → Any Agreed waiting → All (Lawful expand goals nodes) waiting → Live (turn waiting)
  live_turn [] a L = a
  live_turn (b ∷ waiting) a L = (a, L)

  -- the open branch goes on
  live_on : (b b' : Branch) (waiting : List Branch) → (Agreed b → Agreed b') → Any Agreed (b ∷ waiting) → Any Agreed (b' ∷ waiting)
  live_on b b' waiting f (inl a) = inl (f a)
  live_on b b' waiting f (inr a) = inr a

  module _ (b : Branch) (waiting : List Branch) (a : Any Agreed (b ∷ waiting)) (L : All (Lawful expand goals nodes) (b ∷ waiting)) where
    -- a clause's one literal joins, or the clause closes the branch: in both versions
    live-unit : (k l : ℕ) (b' : Branch) → k < length (clauses expand goals b.G) → state_of b.G (clause_at expand goals nodes b k) ≡ one l
        → b'.G ≡ l ∷ b.G → b'.struck_literals ≡ b.struck_literals → Live (running b' waiting)
    live-unit k l b' h e p q =
        let u = one_undecided b.G (clause_at expand goals nodes b k) l e in (
          live_on b b' waiting (λ g. rw p (unit-true b k h g l e, g)) a,
          (rw (p, q) (lawful_join expand goals nodes l b u L.0), L.1),
        )

    live-conflict : (k : ℕ) → k < length (clauses expand goals b.G) → state_of b.G (clause_at expand goals nodes b k) ≡ empty → Live (turn waiting)
    live-conflict k h e = live_turn waiting (waits a) L.1
      where
        waits : Any Agreed (b ∷ waiting) → Any Agreed waiting
        waits (inl g) = absurd (conflict-never b k h g e)
        waits (inr g) = g

    live-U : (k : ℕ) → LiveAfter (rule_u expand goals nodes k b waiting)
    unfolding rule_u
    live-U k =
        after-given Live (standing expand goals nodes b k) _
        (λ s. after-only Live (rest expand goals nodes b k) _
        (λ l o. after-given Live (is_undecided (value_of b.G l)) _
        (λ u. live-unit k l (strike_clause k (join l b)) (in_list_lem expand goals nodes b k s)
        (unit-state expand goals nodes b k l L.0 o (is_undecided_lem (value_of b.G l) u)) refl refl)))

    live-R : (p k : ℕ) → LiveAfter (rule_r expand goals nodes p k b waiting)
    unfolding rule_r
    live-R p k =
        after-given Live (standing expand goals nodes b k) _
        (λ s. after-given Live (ltb p (length (clause expand goals nodes b k))) _
        (λ h. after-given Live (not (among (place k p) b.struck_literals)) _
        (λ n. after-given Live (is_fails (value_of b.G (get_or (clause expand goals nodes b k) p 0))) _
        (λ f. (a, (((in_list_lem expand goals nodes b k s, f), L.0), L.1))))))

    live-E : (k : ℕ) → LiveAfter (rule_e expand goals nodes k b waiting)
    unfolding rule_e
    live-E k =
        after-given Live (standing expand goals nodes b k) _
        (λ s. after-given Live (any_holds b.G (rest expand goals nodes b k)) _ (λ h. (a, L)))

    live-C : (k : ℕ) → LiveAfter (rule_c expand goals nodes k b waiting)
    unfolding rule_c
    live-C k =
        after-given Live (standing expand goals nodes b k) _
        (λ s. after-given Live (eqb (length (rest expand goals nodes b k)) 0) _
        (λ e. live-conflict k (in_list_lem expand goals nodes b k s) (conflict-state expand goals nodes b k L.0 e)))

    live-S : (l : ℕ) → LiveAfter (rule_s expand goals nodes l b waiting)
    unfolding rule_s
    live-S l =
        after-given Live (ltb l (2 * nodes)) _
        (λ h. after-given Live (is_undecided (value_of b.G l)) _
        (λ u.
        let v = is_undecided_lem (value_of b.G l) u in (
          sides (A.either l (ltb-true l (2 * nodes) h)) a,
          (lawful_join expand goals nodes l b v L.0, (lawful_join expand goals nodes (neg l) b (undecided_neg b.G l v) L.0, L.1)),
        )))
      where
        sides : True l ⊎ True (neg l) → Any Agreed (b ∷ waiting) → Any Agreed (join l b ∷ join (neg l) b ∷ waiting)
        sides (inl t) (inl g) = inl (t, g)
        sides (inr t) (inl g) = inr (inl (t, g))
        sides t (inr g) = inr (inr g)

    live-unit_two : (k : ℕ) → LiveAfter (unit_two expand goals nodes k b waiting)
    unfolding unit_two
    live-unit_two k =
        after-given Live (in_list expand goals nodes b k) _
        (λ h. after_one Live (state_of b.G (clause expand goals nodes b k)) _
        (λ l e. live-unit k l (join l b) (ltb-true k (length (clauses expand goals b.G)) h) e refl refl))

    live-conflict_two : (k : ℕ) → LiveAfter (conflict_two expand goals nodes k b waiting)
    unfolding conflict_two
    live-conflict_two k =
        after-given Live (in_list expand goals nodes b k) _
        (λ h. after-given Live (are_all_false (state_of b.G (clause expand goals nodes b k))) _
        (λ e. live-conflict k (ltb-true k (length (clauses expand goals b.G)) h) (all_false (state_of b.G (clause expand goals nodes b k)) e)))
      where
        all_false : (s : State) → are_all_false s ≡ true → s ≡ empty
        all_false met e = absurd (false≢true e)
        all_false empty e = refl
        all_false (one l) e = absurd (false≢true e)
        all_false (many l) e = absurd (false≢true e)

    live-apply : (v : Version) (s : Step) → LiveAfter (apply_in expand goals nodes v s b waiting)
    live-apply One s =
        after-apply Live expand goals nodes s b waiting
        (live-U s.value) (live-R s.position s.value) (live-E s.value) (live-C s.value) (live-S s.value)
    live-apply Two s =
        after_two Live expand goals nodes s b waiting (live-unit_two s.value) (live-conflict_two s.value) (live-S s.value)

  -- ---- so does a run, which therefore does not complete

  module _ (v : Version) where
    live-advance : (i : ℕ) (s : Step) (p : Progress) → Live p → LiveAfter (advance v expand goals nodes i s p)
    live-advance i s (running b waiting) a = after-advance Live expand goals nodes s b waiting v i (live-apply b waiting a.0 a.1 v s)
    live-advance i s complete a = absurd a

    live-run : (ss : List Step) (i : ℕ) (p : Progress) → Live p → run v expand goals nodes i ss p ≡ fine → ⊥
    unfolding run ended
    live-run [] i (running b waiting) a e = refused_no e
    live-run [] i complete a e = a
    live-run (s ∷ ss) i p a e = go (advance v expand goals nodes i s p) (live-advance i s p a) e (live-run ss (suc i))
      where
        go : (o : Outcome Progress) → LiveAfter o → (o >>= run v expand goals nodes (suc i) ss) ≡ fine
            → ((q : Progress) → Live q → run v expand goals nodes (suc i) ss q ≡ fine → ⊥) → ⊥
        go (answer q) g e r = r q g e
        go (refused number at) g e r = refused_no e

    -- no steps are accepted
    pub none-accepted : (ss : List Step) → accepts v expand goals nodes ss ≡ fine → ⊥
    none-accepted ss e = live-run (body ss) (length (names ss)) (running root []) (inl tt, (tt, tt)) (accepted-runs v expand goals nodes ss e)

-- ---- the truths of a table's nodes

-- a literal of n nodes that v makes true
abbrev pub TrueOf : ℕ → (ℕ → Bool) → ℕ → Type 0
TrueOf n v l = (l < 2 * n) × (lit_true v l ≡ true)

some-true : (n : ℕ) (v : ℕ → Bool) (c : List ℕ) → Below n c → clause_true v c ≡ true → Any (TrueOf n v) c
some-true n v [] h e = false≢true e
some-true n v (l ∷ c) h e = by_test (lit_true v l) (λ q. inl (h.0, q)) (λ q. inr (some-true n v c h.1 (rw q at e)))

-- truths that agree with the nodes, and make the goals true, agree with the clauses
pub model_agrees : (n : ℕ) (t : ℕ → Node) (goals : List ℕ) → Table n t → Below n goals → (v : ℕ → Bool) → Model classical n t v → AllTrue v goals
    → Agrees (expand t) goals n (TrueOf n v)
model_agrees n t goals T B v M a = record {
  apart = λ l p q. true≢false (sym q.1 ∙ neg-true v l ∙ ap not p.1);
  either = λ l h.
      by_test (lit_true v l) (λ e. inl (h, e)) (λ e. inr (neg_below n l h, neg-true v l ∙ ap not e));
  opens = λ l h.
      all_zip (All (λ m. m / 2 < l / 2)) (λ c. clause_true v c ≡ true) (Any (TrueOf n v))
      (λ c u e. some-true n v c (all_imply (λ m. m / 2 < l / 2) (λ m. m < 2 * n) (λ m k. omega (arith, k, h.0)) c u) e)
      (expand t l) (expand-under n t T l h.0) (expand-true n t v T M l h.0 h.1);
  starts = all_zip (λ l. l < 2 * n) (λ l. lit_true v l ≡ true) (TrueOf n v) (λ l h e. (h, e)) goals B a;
}

-- where steps of any author, in either version, are accepted, no truths that agree with the table make all goals true
pub check_sound : (n : ℕ) (t : ℕ → Node) (goals : List ℕ) → Table n t → Below n goals
    → (version : Version) (ss : List Step) → accepts version (expand t) goals n ss ≡ fine → (v : ℕ → Bool) → Model classical n t v → AllTrue v goals → ⊥
check_sound n t goals T B version ss e v M a =
    none-accepted (expand t) goals n (TrueOf n v) (model_agrees n t goals T B v M a) version ss e
