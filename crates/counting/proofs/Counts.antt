-- The limit of a count, how many steps each move has, and what the contracts of counting come to at each return. Assumes nothing.
use mathlib.Core.Path.{◌≡◌, refl, sym, ap, ◌∙◌}
use mathlib.Core.Bool.{cond}
use mathlib.Core.List.{List, [], ◌∷◌}
use Rattle.std.specs.Prelude.{Option, None, Some}
use Prim.Native.Nat.{ℕ, suc, ◌+◌, ◌-◌, ◌<◌, ◌≤◌}
use native.Mathlib.Omega.{arith}
use lib.ListN.{length, get_or, length-append}
use Rattle.scope.specs.declared.Node.{Node}
use Rattle.calculus.specs.Expansion.{neg, expand}
use Rattle.calculus.specs.Order.{Value, holds, fails, undecided, value_of, State, met, empty, one, many, opened, joined, state_of, clauses, move, tree}
use Rattle.calculus.specs.Model.{Table, Below}
use Rattle.calculus.specs.declared.Move.TheVariants.{Conflict, Unit as Single, Done, Split}
use Rattle.calculus.proofs.Count.{room}
use Rattle.calculus.proofs.Fresh.{split-fresh}
use Rattle.calculus.proofs.Limits.{most_low, most_more}
use Rattle.calculus.proofs.Moves.{ClauseIs, conflict_clause, unit_clause}
use Rattle.rules.specs.declared.Step.{Step}
use Rattle.rules.specs.declared.Version.{Version}
use Rattle.rules.specs.declared.Version.TheVariants.{One, Two}
use Rattle.rules.specs.Steps.{U, R, C}
use Rattle.rules.specs.Rules.{is_fails}
use Rattle.rules.specs.Derivation.{removals, removed, steps_of}
use Rattle.state.specs.Work.{g_of}
use Rattle.state.specs.Holds.{Holds}
use Rattle.searching.specs.Search.{Searched}
use Rattle.searching.specs.declared.Stop.TheVariants.{Closed as Shut, Model as Ends, Fork}
use Rattle.searching.specs.declared.Found.TheVariants.{Model}
use Rattle.searching.proofs.Searches.{tree_conflict, tree_unit, tree_split, fuel, Run, run_starts, run_looked, run_conflict, run_done, run_split, run_room, run-unit, shut_open, shut_fork, open_fork, stopped_closed, stopped_model, left-model, right-searched}
use Rattle.counting.specs.Count.{at_most, step_count, size_in, SizedIn, Advanced, found_by, Tallied}
use Rattle.counting.specs.declared.Told.{Told}

-- ---- the R of a clause: one for each literal, at a conflict; for each but one, at a unit

opened_some : (l : ℕ) (s : State) → opened l s ≡ empty → ⊥
opened_some l met e = let z : ◌≡◌ {A = ℕ} 0 1 = cc in omega arith
opened_some l empty e = let z : ◌≡◌ {A = ℕ} 0 1 = cc in omega arith
opened_some l (one m) e = let z : ◌≡◌ {A = ℕ} 0 1 = cc in omega arith
opened_some l (many m) e = let z : ◌≡◌ {A = ℕ} 0 1 = cc in omega arith

opened_one : (l m : ℕ) (s : State) → opened l s ≡ one m → s ≡ empty
opened_one l m met e = absurd (let z : ◌≡◌ {A = ℕ} 0 1 = cc in omega arith)
opened_one l m empty e = refl
opened_one l m (one k) e = absurd (let z : ◌≡◌ {A = ℕ} 0 1 = cc in omega arith)
opened_one l m (many k) e = absurd (let z : ◌≡◌ {A = ℕ} 0 1 = cc in omega arith)

module _ (G : List ℕ) (k : ℕ) where
  removals_all : (p : ℕ) (c : List ℕ) → state_of G c ≡ empty → length (removals G k p c) ≡ length c
  unfolding removals state_of
  removals_all p [] e = refl
  removals_all p (l ∷ c) e = go (value_of G l) e (removals_all (suc p) c)
    where
      go : (v : Value) → joined v l (state_of G c) ≡ empty → (state_of G c ≡ empty → length (removals G k (suc p) c) ≡ length c)
          → length (cond (is_fails v) (R p k ∷ removals G k (suc p) c) (removals G k (suc p) c)) ≡ suc (length c)
      go holds q f = absurd (let z : ◌≡◌ {A = ℕ} 0 1 = cc in omega arith)
      go fails q f = ap suc (f q)
      go undecided q f = absurd (opened_some l (state_of G c) q)

  removals_but_one : (p m : ℕ) (c : List ℕ) → state_of G c ≡ one m → suc (length (removals G k p c)) ≡ length c
  unfolding removals state_of
  removals_but_one p m [] e = absurd (let z : ◌≡◌ {A = ℕ} 0 1 = cc in omega arith)
  removals_but_one p m (l ∷ c) e = go (value_of G l) e (removals_but_one (suc p) m c)
    where
      go : (v : Value) → joined v l (state_of G c) ≡ one m → (state_of G c ≡ one m → suc (length (removals G k (suc p) c)) ≡ length c)
          → suc (length (cond (is_fails v) (R p k ∷ removals G k (suc p) c) (removals G k (suc p) c))) ≡ suc (length c)
      go holds q f = absurd (let z : ◌≡◌ {A = ℕ} 0 1 = cc in omega arith)
      go fails q f = ap suc (f q)
      go undecided q f = ap suc (removals_all (suc p) c (opened_one l m (state_of G c) q))

-- .. so a conflict has as many steps as its size and one more, a unit as many as its size
removed_all : (v : Version) (t : ℕ → Node) (goals G : List ℕ) (k : ℕ) → ClauseIs (expand t) goals G k empty
    → length (removed v (expand t) goals G k) ≡ size_in v 0 (length (get_or (clauses (expand t) goals G) k []))
removed_all One t goals G k q = removals_all G k 0 (get_or (clauses (expand t) goals G) k []) q.1
removed_all Two t goals G k q = refl

removed_but_one : (v : Version) (t : ℕ → Node) (goals G : List ℕ) (k l : ℕ) → ClauseIs (expand t) goals G k (one l)
    → suc (length (removed v (expand t) goals G k)) ≡ size_in v 1 (length (get_or (clauses (expand t) goals G) k []))
removed_but_one One t goals G k l q = removals_but_one G k 0 l (get_or (clauses (expand t) goals G) k []) q.1
removed_but_one Two t goals G k l q = refl

-- ---- the steps from G, by its next move

module _ (v : Version) (t : ℕ → Node) (n : ℕ) (goals G : List ℕ) where
  steps_conflict : {k : ℕ} → move (expand t) goals G ≡ Conflict k
      → step_count v t n goals G ≡ size_in v 0 (length (get_or (clauses (expand t) goals G) k [])) + 1
  unfolding steps_of
  steps_conflict {k} e =
      let a = removed_all v t goals G k (conflict_clause (expand t) goals G k e) in
      rw (tree_conflict t goals G (n - length G) e)
      (omega (arith, length-append (removed v (expand t) goals G k) (C k ∷ []), a))

  module _ (h : length G < n) where
    steps-unit : {k l : ℕ} → move (expand t) goals G ≡ Single k l
        → step_count v t n goals G ≡ size_in v 1 (length (get_or (clauses (expand t) goals G) k [])) + step_count v t n goals (l ∷ G)
    unfolding steps_of
    steps-unit {k} {l} e =
        let a = removed_but_one v t goals G k l (unit_clause (expand t) goals G k l e) in
        let below : List Step = steps_of v (expand t) goals (l ∷ G) (tree (expand t) goals (n - suc (length G)) (l ∷ G)) in
        rw (fuel t goals G n h, tree_unit t goals G (n - suc (length G)) e)
        (omega (arith, length-append (removed v (expand t) goals G k) (U k ∷ below), a))

    steps-split : {l : ℕ} → move (expand t) goals G ≡ Split l
        → step_count v t n goals G ≡ 1 + (step_count v t n goals (l ∷ G) + step_count v t n goals (neg l ∷ G))
    unfolding steps_of
    steps-split {l} e =
        let left : List Step = steps_of v (expand t) goals (l ∷ G) (tree (expand t) goals (n - suc (length G)) (l ∷ G)) in
        let right : List Step = steps_of v (expand t) goals (neg l ∷ G) (tree (expand t) goals (n - suc (length G)) (neg l ∷ G)) in
        rw (fuel t goals G n h, tree_split t goals G (n - suc (length G)) e)
        (omega (arith, length-append left right))

-- ---- the units

-- what holds before each turn: the search goes on as from the start, and so does the count
pub record Counting (v : Version) (t : ℕ → Node) (n : ℕ) (goals w m w' m' : List ℕ) (cap s count : ℕ) : Type 0 where
  pub run : Run t n goals w m w' m'
  pub low : count ≤ cap
  pub same : at_most cap (count + step_count v t n goals (g_of w')) ≡ at_most cap (s + step_count v t n goals (g_of w))

pub counting_starts : {v : Version} {t : ℕ → Node} {n : ℕ} {goals w m : List ℕ} {cap s : ℕ} → Holds t n goals w m → s ≤ cap → Counting v t n goals w m w m cap s s
counting_starts h l = record { run = run_starts h; low = l; same = refl }

pub counting_looked : {v : Version} {t : ℕ → Node} {n : ℕ} {goals w m w' m' w'' : List ℕ} {cap s count : ℕ} → Counting v t n goals w m w' m' cap s count
    → Holds t n goals w'' m' → g_of w'' ≡ g_of w' → length w'' ≡ length w' → Counting v t n goals w m w'' m' cap s count
counting_looked r h g z = record { run = run_looked r.run h g z; low = r.low; same = rw g r.same }

-- `more` of the steps to come are counted
count_more : (cap count more rest all : ℕ) → all ≡ more + rest → at_most cap (at_most cap (count + more) + rest) ≡ at_most cap (count + all)
count_more cap count more rest all e =
    let z : count + more + rest ≡ count + all = omega arith in
    most_more cap (count + more) rest ∙ ap (at_most cap) z

module _ {v : Version} {t : ℕ → Node} {n : ℕ} {goals w m w' m' : List ℕ} {cap s count : ℕ} (r : Counting v t n goals w m w' m' cap s count) where
  pub counting_conflict : {k size c : ℕ} → move (expand t) goals (g_of w') ≡ Conflict k → SizedIn v t goals (g_of w') k 0 size → c ≡ at_most cap (count + (size + 1))
      → Advanced v t n goals w w' m' cap s (record { stop = Shut; count = c })
  counting_conflict {k} {size} {c} e z q =
      let all : size + 1 ≡ step_count v t n goals (g_of w') = ap (◌+ 1) z.size ∙ sym (steps_conflict v t n goals (g_of w') e) in
      record {
        settled = run_conflict r.run e;
        low = omega (arith, q, most_low cap (count + (size + 1)));
        closes = λ _. q ∙ ap (λ (m : ℕ). at_most cap (count + m)) all ∙ r.same;
        forks = λ l y. shut_fork y;
      }

  pub counting_done : move (expand t) goals (g_of w') ≡ Done → Advanced v t n goals w w' m' cap s (record { stop = Ends; count = count })
  counting_done e = record {
    settled = run_done r.run e;
    low = r.low;
    closes = λ y. shut_open (sym y);
    forks = λ l y. open_fork y;
  }

  module _ (T : Table n t) (B : Below n goals) where
    pub counting-split : {l c : ℕ} → move (expand t) goals (g_of w') ≡ Split l → c ≡ at_most cap (count + 1)
        → Advanced v t n goals w w' m' cap s (record { stop = Fork l; count = c })
    counting-split {l} {c} e q =
        let f = split-fresh n t goals T B (g_of w') r.run.holds.ready.trail.good l e in
        let h = room n (g_of w') l r.run.holds.ready.trail.good f in
        let left = step_count v t n goals (l ∷ g_of w') in
        let right = step_count v t n goals (neg l ∷ g_of w') in
        record {
          settled = run_split r.run e;
          low = omega (arith, q, most_low cap (count + 1));
          closes = λ y. shut_fork (sym y);
          forks = λ k y. let z : k ≡ l = cc in
              rw (z, q)
              (count_more cap count 1 (left + right) (step_count v t n goals (g_of w')) (steps-split v t n goals (g_of w') h e) ∙ r.same);
        }

    pub counting-unit : {k l size c : ℕ} {w'' m'' : List ℕ} → move (expand t) goals (g_of w') ≡ Single k l → SizedIn v t goals (g_of w') k 1 size
        → c ≡ at_most cap (count + size) → Holds t n goals w'' m'' → g_of w'' ≡ l ∷ g_of w' → length w'' ≡ length w' → length m'' ≡ length m'
        → Counting v t n goals w m w'' m'' cap s c
    counting-unit {k} {l} {size} {c} e z q h y d f =
        let all : step_count v t n goals (g_of w') ≡ size + step_count v t n goals (l ∷ g_of w') =
        steps-unit v t n goals (g_of w') (run_room r.run T B e) e ∙ ap (◌+ step_count v t n goals (l ∷ g_of w')) (sym z.size) in
        record {
          run = run-unit r.run T B e h y d f;
          low = omega (arith, q, most_low cap (count + size));
          same = rw (y, q) (count_more cap count size (step_count v t n goals (l ∷ g_of w')) (step_count v t n goals (g_of w')) all ∙ r.same);
        }

-- ---- the search

-- a model: there are no steps
tallied_open : {v : Version} {t : ℕ → Node} {n : ℕ} {goals w w' m' : List ℕ} {cap s : ℕ} → Searched t n goals w w' m' Model → Tallied v t n goals w w' m' cap s None
tallied_open h = record {
  searched = h;
  counted = λ c q. absurd (let z : ◌≡◌ {A = ℕ} 0 1 = cc in omega arith);
}

module _ {v : Version} {t : ℕ → Node} {n : ℕ} {goals w w₁ m₁ : List ℕ} {cap s : ℕ} {told : Told} (a : Advanced v t n goals w w₁ m₁ cap s told) where
  -- the units end on a conflict
  pub ended_closed : told.stop ≡ Shut → Tallied v t n goals w w₁ m₁ cap s (Some told.count)
  ended_closed e = record {
    searched = stopped_closed a.settled e;
    counted = λ c q. let z : c ≡ told.count = cc in z ∙ a.closes e;
  }

  -- or on a model
  pub ended_open : told.stop ≡ Ends → Tallied v t n goals w w₁ m₁ cap s None
  ended_open e = tallied_open (stopped_model a.settled e)

  -- or on a split: the left branch
  module _ (T : Table n t) (B : Below n goals) {l : ℕ} (e : told.stop ≡ Fork l) {w₂ w₃ m₃ : List ℕ} {left : Option ℕ} (q : g_of w₂ ≡ l ∷ g_of w₁)
      (b : Tallied v t n goals w₂ w₃ m₃ cap told.count left) where
    pub left_open : left ≡ None → Tallied v t n goals w w₃ m₃ cap s None
    left_open p = tallied_open (left-model a.settled T B e q b.searched (ap found_by p))

    module _ {c : ℕ} (p : left ≡ Some c) where
      left-count : c ≡ at_most cap (told.count + step_count v t n goals (l ∷ g_of w₁))
      left-count = b.counted c p ∙ ap (λ (G : List ℕ). at_most cap (told.count + step_count v t n goals G)) q

      pub left-low : c ≤ cap
      left-low = omega (arith, left-count, most_low cap (told.count + step_count v t n goals (l ∷ g_of w₁)))

      -- the right branch: what it comes to is what the whole comes to
      pub right-tallied : {w₄ w₅ m₅ : List ℕ} {right : Option ℕ} → g_of w₄ ≡ neg l ∷ g_of w₁ → Tallied v t n goals w₄ w₅ m₅ cap c right
          → Tallied v t n goals w w₅ m₅ cap s right
      right-tallied d f =
          let x = step_count v t n goals (l ∷ g_of w₁) in
          let y = step_count v t n goals (neg l ∷ g_of w₁) in
          let sum : told.count + x + y ≡ told.count + (x + y) = omega arith in
          record {
            searched = right-searched a.settled T B e q b.searched (ap found_by p) d f.searched;
            counted = λ k z.
                f.counted k z ∙ ap (λ (G : List ℕ). at_most cap (c + step_count v t n goals G)) d
                ∙ ap (λ (i : ℕ). at_most cap (i + y)) left-count ∙ most_more cap (told.count + x) y ∙ ap (at_most cap) sum ∙ a.forks l e;
          }
