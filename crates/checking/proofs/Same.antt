-- Nodes that agree below n give one run of the checker: every literal that a run holds is one of theirs. Assumes nothing.
use mathlib.Core.Path.{◌≡◌, refl, ap, ◌∙◌}
use mathlib.Core.List.{List, [], ◌∷◌}
use mathlib.Core.Bool.{true, not, false≢true}
use Prim.Native.Nat.{ℕ, suc, ◌*◌, ◌<◌}
use lib.Dec.{eqb, ltb}
use lib.ListN.{length, get_or}
use borrow.Author.Tests.{ltb-true}
use Rattle.scope.specs.declared.Node.{Node}
use Rattle.scope.specs.Outcome.{Outcome, answer, refused, ◌>>◌, ◌>>=◌}
use Rattle.scope.proofs.Tests.{refused_no}
use Rattle.calculus.specs.Expansion.{expand}
use Rattle.calculus.specs.Order.{Value, holds, fails, undecided, value_of, is_empty as are_all_false, state_of, clauses}
use Rattle.calculus.specs.Model.{All, Table, Below, Fresh, Good}
use Rattle.scope.proofs.Tests.{by_test}
use Rattle.calculus.proofs.Lists.{all_get_d}
use Rattle.calculus.proofs.Literals.{neg-fresh}
use Rattle.calculus.proofs.Fresh.{clauses-below}
use Rattle.rules.specs.declared.Step.{Step}
use Rattle.rules.specs.declared.Version.{Version}
use Rattle.rules.specs.declared.Version.TheVariants.{One, Two}
use Rattle.rules.specs.Rules.{among, Branch, root, is_fails, is_undecided, unstruck, any_holds, Progress, running, complete, turn, only, clause_at, stands, left, rule_u, rule_r, rule_e, rule_c, rule_s, unit_two, conflict_two, in_list, names, body, names_test, apply, apply_two, apply_in, advance, ended, run, accepts}
use Rattle.rules.proofs.Laws.{place, After, after-given, after-only, after_one, after-apply, after_two, after-advance}
use Rattle.seen.proofs.States.{one-says}
use Rattle.calculus.proofs.Same.{clauses_same}

-- ---- the one literal that a clause has left is one of its literals

module _ (P : ℕ → Type 0) where
  all_unstruck : (b : Branch) (k p : ℕ) (c : List ℕ) → All P c → All P (unstruck b k p c)
  unfolding unstruck
  all_unstruck b k p [] a = tt
  all_unstruck b k p (l ∷ c) a =
      let rest : All P (unstruck b k (suc p) c) = all_unstruck b k (suc p) c a.1 in
      by_test (among (place k p) b.struck_literals) (λ e. rw e rest) (λ e. rw e (a.0, rest))

  all_only : (ls : List ℕ) (l : ℕ) → All P ls → only ls ≡ answer l → P l
  all_only [] l a e = refused_no e
  all_only (m ∷ []) l a e =
      let q : m ≡ l = cc in
      rw q at a.0
  all_only (m ∷ k ∷ ls) l a e = refused_no e

is_undecided_lem : (v : Value) → is_undecided v ≡ true → v ≡ undecided
is_undecided_lem holds e = absurd (false≢true e)
is_undecided_lem fails e = absurd (false≢true e)
is_undecided_lem undecided e = refl

-- ---- each literal of the open branch and of those that wait was fresh when it joined

module _ (n : ℕ) (t : ℕ → Node) (goals : List ℕ) (T : Table n t) (B : Below n goals) where
  abbrev GoodBranch : Branch → Type 0
  GoodBranch b = Good n b.G

  abbrev Kept : Progress → Type 0
  Kept (running b waiting) = GoodBranch b × All GoodBranch waiting
  Kept complete = Unit {0}

  kept-turn : (waiting : List Branch) → All GoodBranch waiting → Kept (turn waiting)
  kept-turn [] h = tt
  kept-turn (b ∷ waiting) h = h

  module _ (b : Branch) (waiting : List Branch) (g : GoodBranch b) (h : All GoodBranch waiting) where
    left_below : (k : ℕ) → Below n (left (expand t) goals n b k)
    left_below k =
        all_unstruck (λ l. l < 2 * n) b k 0 (clause_at (expand t) goals n b k)
        (all_get_d (Below n) (clauses (expand t) goals b.G) k [] tt (clauses-below n t T goals B b.G g))

    kept-U : (k : ℕ) → After Kept (rule_u (expand t) goals n k b waiting)
    unfolding rule_u
    kept-U k =
        after-given Kept (stands (expand t) goals n b k) _
        (λ s. after-only Kept (left (expand t) goals n b k) _
        (λ l o. after-given Kept (is_undecided (value_of b.G l)) _
        (λ e. (((all_only (λ m. m < 2 * n) (left (expand t) goals n b k) l (left_below k) o, is_undecided_lem (value_of b.G l) e), g), h))))

    kept-R : (p k : ℕ) → After Kept (rule_r (expand t) goals n p k b waiting)
    unfolding rule_r
    kept-R p k =
        after-given Kept (stands (expand t) goals n b k) _
        (λ s. after-given Kept (ltb p (length (clause_at (expand t) goals n b k))) _
        (λ i. after-given Kept (not (among (place k p) b.struck_literals)) _
        (λ m. after-given Kept (is_fails (value_of b.G (get_or (clause_at (expand t) goals n b k) p 0))) _
        (λ f. (g, h)))))

    kept-E : (k : ℕ) → After Kept (rule_e (expand t) goals n k b waiting)
    unfolding rule_e
    kept-E k =
        after-given Kept (stands (expand t) goals n b k) _
        (λ s. after-given Kept (any_holds b.G (left (expand t) goals n b k)) _ (λ e. (g, h)))

    kept-C : (k : ℕ) → After Kept (rule_c (expand t) goals n k b waiting)
    unfolding rule_c
    kept-C k =
        after-given Kept (stands (expand t) goals n b k) _
        (λ s. after-given Kept (eqb (length (left (expand t) goals n b k)) 0) _ (λ e. kept-turn waiting h))

    kept-S : (l : ℕ) → After Kept (rule_s (expand t) goals n l b waiting)
    unfolding rule_s
    kept-S l =
        after-given Kept (ltb l (2 * n)) _
        (λ i. after-given Kept (is_undecided (value_of b.G l)) _
        (λ e.
        let f : Fresh n b.G l = (ltb-true l (2 * n) i, is_undecided_lem (value_of b.G l) e) in
        ((f, g), ((neg-fresh n b.G l f, g), h))))

    kept-unit_two : (k : ℕ) → After Kept (unit_two (expand t) goals n k b waiting)
    unfolding unit_two
    kept-unit_two k =
        after-given Kept (in_list (expand t) goals n b k) _
        (λ s. after_one Kept (state_of b.G (clause_at (expand t) goals n b k)) _
        (λ l e.
        let below : Below n (clause_at (expand t) goals n b k) =
        all_get_d (Below n) (clauses (expand t) goals b.G) k [] tt (clauses-below n t T goals B b.G g) in
        ((one-says (λ m. m < 2 * n) b.G (clause_at (expand t) goals n b k) l below e, g), h)))

    kept-conflict_two : (k : ℕ) → After Kept (conflict_two (expand t) goals n k b waiting)
    unfolding conflict_two
    kept-conflict_two k =
        after-given Kept (in_list (expand t) goals n b k) _
        (λ s. after-given Kept (are_all_false (state_of b.G (clause_at (expand t) goals n b k))) _ (λ e. kept-turn waiting h))

    kept-apply : (v : Version) (s : Step) → After Kept (apply_in (expand t) goals n v s b waiting)
    kept-apply One s =
        after-apply Kept (expand t) goals n s b waiting
        (kept-U s.value) (kept-R s.position s.value) (kept-E s.value) (kept-C s.value) (kept-S s.value)
    kept-apply Two s =
        after_two Kept (expand t) goals n s b waiting (kept-unit_two s.value) (kept-conflict_two s.value) (kept-S s.value)

    kept-advance : (v : Version) (i : ℕ) (s : Step) → After Kept (advance v (expand t) goals n i s (running b waiting))
    kept-advance v i s = after-advance Kept (expand t) goals n s b waiting v i (kept-apply v s)

  -- ---- nodes that agree

  module _ (u : ℕ → Node) (same : (i : ℕ) → i < n → t i ≡ u i) where
    apply-same : (v : Version) (s : Step) (b : Branch) (waiting : List Branch) → GoodBranch b
        → apply_in (expand t) goals n v s b waiting ≡ apply_in (expand u) goals n v s b waiting
    unfolding apply apply_two rule_u rule_r rule_e rule_c rule_s unit_two conflict_two
    apply-same One s b waiting g = rw (clauses_same n t u same goals b.G g)
    apply-same Two s b waiting g = rw (clauses_same n t u same goals b.G g)

    advance-same : (v : Version) (i : ℕ) (s : Step) (b : Branch) (waiting : List Branch) → GoodBranch b
        → advance v (expand t) goals n i s (running b waiting) ≡ advance v (expand u) goals n i s (running b waiting)
    unfolding advance
    advance-same v i s b waiting g = rw (apply-same v s b waiting g)

    run-kept : (v : Version) (ss : List Step) (i : ℕ) (p : Progress) → Kept p → run v (expand t) goals n i ss p ≡ run v (expand u) goals n i ss p
    unfolding run ended advance
    run-kept v [] i (running b waiting) h = refl
    run-kept v [] i complete h = refl
    run-kept v (s ∷ ss) i complete h = refl
    run-kept v (s ∷ ss) i (running b waiting) h =
        go (advance v (expand t) goals n i s (running b waiting)) (kept-advance b waiting h.0 h.1 v i s) (run-kept v ss (suc i))
        ∙ ap (◌>>= run v (expand u) goals n (suc i) ss) (advance-same v i s b waiting h.0)
      where
        go : (o : Outcome Progress) → After Kept o
            → ((p : Progress) → Kept p → run v (expand t) goals n (suc i) ss p ≡ run v (expand u) goals n (suc i) ss p)
            → (o >>= run v (expand t) goals n (suc i) ss) ≡ (o >>= run v (expand u) goals n (suc i) ss)
        go (answer p) k r = r p k
        go (refused number place) k r = refl

    -- steps are accepted over t as over u
    pub accepts_same : (v : Version) (ss : List Step) → accepts v (expand t) goals n ss ≡ accepts v (expand u) goals n ss
    unfolding accepts
    accepts_same v ss = ap (names_test v goals (names ss) >>◌) (run-kept v (body ss) (length (names ss)) (running root []) (tt, tt))
