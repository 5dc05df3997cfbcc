-- What the search's contracts come to at each return, over the lists of literals held. Assumes nothing.
use mathlib.Core.Path.{◌≡◌, refl, sym, ap, ◌∙◌}
use mathlib.Core.List.{List, ◌∷◌}
use Prim.Native.Nat.{ℕ, zero, suc, ◌+◌, ◌-◌, ◌<◌}
use native.Mathlib.Omega.{arith}
use lib.ListN.{length, drop}
use lib.Seq.{drop-drop}
use Rattle.scope.specs.declared.Node.{Node}
use Rattle.calculus.specs.Expansion.{neg, expand}
use Rattle.calculus.specs.Order.{move, conflict, unit, split, model, tree, possible, impossible, or_else, answer_of}
use Rattle.calculus.specs.Model.{Table, Below, Fresh, Good}
use Rattle.calculus.specs.declared.Move.{Move}
use Rattle.calculus.specs.declared.Move.TheVariants.{Conflict, Unit as Single, Done, Split}
use Rattle.calculus.proofs.Literals.{neg-fresh}
use Rattle.calculus.proofs.Count.{room}
use Rattle.calculus.proofs.Fresh.{unit_fresh, split-fresh}
use Rattle.state.specs.Work.{g_of}
use Rattle.state.specs.Holds.{Holds, Splits}
use Rattle.moves.specs.Place.{place_number, Placed}
use Rattle.searching.specs.Search.{result, Extends, found_of, Settled, Searched}
use Rattle.searching.specs.declared.Stop.{Stop}
use Rattle.searching.specs.declared.Stop.TheVariants.{Closed as Shut, Model as Open, Fork}
use Rattle.searching.specs.declared.Found.{Found}
use Rattle.searching.specs.declared.Found.TheVariants.{Model, Closed}

-- ---- lists that grow at the front

pub extends_self : (G : List ℕ) → Extends G G
extends_self G =
    let z : length G - length G ≡ 0 = omega arith in
    record { more = omega arith; first = ap (λ (k : ℕ). drop k G) z }

pub extends_more : {G F : List ℕ} → Extends G F → (l : ℕ) → Extends G (l ∷ F)
extends_more {G} {F} x l =
    let m = x.more in
    let z : suc (length F) - length G ≡ suc (length F - length G) = omega arith in
    record { more = omega arith; first = ap (λ (k : ℕ). drop k (l ∷ F)) z ∙ x.first }

pub extends_on : {G H F : List ℕ} → Extends G H → Extends H F → Extends G F
extends_on {G} {H} {F} x y =
    let z : length F - length H + (length H - length G) ≡ length F - length G = omega (arith, x.more, y.more) in
    record {
      more = omega (arith, x.more, y.more);
      first =
          ap (λ (k : ℕ). drop k F) (sym z) ∙ sym (drop-drop (length H - length G) (length F - length H) F)
          ∙ ap (λ (E : List ℕ). drop (length H - length G) E) y.first ∙ x.first;
    }

-- ---- the search from G, by its next move

module _ (t : ℕ → Node) (goals G : List ℕ) where
  pub tree_conflict : (fuel : ℕ) {k : ℕ} → move (expand t) goals G ≡ Conflict k → tree (expand t) goals fuel G ≡ conflict k
  unfolding tree
  tree_conflict zero e = rw e
  tree_conflict (suc fuel) e = rw e

  tree_done : (fuel : ℕ) → move (expand t) goals G ≡ Done → tree (expand t) goals fuel G ≡ model G
  unfolding tree
  tree_done zero e = rw e
  tree_done (suc fuel) e = rw e

  pub tree_unit : (fuel : ℕ) {k l : ℕ} → move (expand t) goals G ≡ Single k l → tree (expand t) goals (suc fuel) G ≡ unit k l (tree (expand t) goals fuel (l ∷ G))
  unfolding tree
  tree_unit fuel e = rw e

  pub tree_split : (fuel : ℕ) {l : ℕ} → move (expand t) goals G ≡ Split l
      → tree (expand t) goals (suc fuel) G ≡ split l (tree (expand t) goals fuel (l ∷ G)) (tree (expand t) goals fuel (neg l ∷ G))
  unfolding tree
  tree_split fuel e = rw e

  module _ (n : ℕ) where
    pub result-conflict : {k : ℕ} → move (expand t) goals G ≡ Conflict k → result t n goals G ≡ impossible
    unfolding answer_of
    result-conflict e = rw (tree_conflict (n - length G) e)

    pub result-done : move (expand t) goals G ≡ Done → result t n goals G ≡ possible G
    unfolding answer_of
    result-done e = rw (tree_done (n - length G) e)

    module _ (h : length G < n) where
      pub fuel : n - length G ≡ suc (n - suc (length G))
      fuel = omega arith

      pub result-unit : {k l : ℕ} → move (expand t) goals G ≡ Single k l → result t n goals G ≡ result t n goals (l ∷ G)
      unfolding answer_of
      result-unit e = rw (fuel, tree_unit (n - suc (length G)) e)

      pub result-split : {l : ℕ} → move (expand t) goals G ≡ Split l → result t n goals G ≡ or_else (result t n goals (l ∷ G)) (result t n goals (neg l ∷ G))
      unfolding answer_of
      result-split e = rw (fuel, tree_split (n - suc (length G)) e)

-- the place that is kept is that of its own number
pub placed_there : {t : ℕ → Node} {goals w : List ℕ} {k : ℕ} → Placed t goals w k → Placed t goals w (place_number w)
placed_there p = rw p.number p

-- ---- cases that are apart

pub shut_open : {P : Type 0} → ◌≡◌ {A = Stop} Shut Open → P
shut_open e = absurd (let z : ◌≡◌ {A = ℕ} 0 1 = cc in omega arith)

pub shut_fork : {P : Type 0} {l : ℕ} → ◌≡◌ {A = Stop} Shut (Fork l) → P
shut_fork e = absurd (let z : ◌≡◌ {A = ℕ} 0 1 = cc in omega arith)

pub open_fork : {P : Type 0} {l : ℕ} → ◌≡◌ {A = Stop} Open (Fork l) → P
open_fork e = absurd (let z : ◌≡◌ {A = ℕ} 0 1 = cc in omega arith)

-- ---- the units

-- what holds before each turn
pub record Run (t : ℕ → Node) (n : ℕ) (goals w m w' m' : List ℕ) : Type 0 where
  pub holds : Holds t n goals w' m'
  pub grows : Extends (g_of w) (g_of w')
  pub same : result t n goals (g_of w') ≡ result t n goals (g_of w)
  pub size : length w' ≡ length w
  pub sets : length m' ≡ length m

pub run_starts : {t : ℕ → Node} {n : ℕ} {goals w m : List ℕ} → Holds t n goals w m → Run t n goals w m w m
run_starts {w = w} h = record { holds = h; grows = extends_self (g_of w); same = refl; size = refl; sets = refl }

-- the next move is looked up, which leaves the literals held
pub looked : {t : ℕ → Node} {n : ℕ} {goals w m G : List ℕ} {v u : Move} → Holds t n goals w m → v ≡ move (expand t) goals G → g_of w ≡ G → v ≡ u
    → move (expand t) goals (g_of w) ≡ u
looked {t} {goals = goals} h e g q = ap (move (expand t) goals) g ∙ sym e ∙ q

pub run_looked : {t : ℕ → Node} {n : ℕ} {goals w m w' m' w'' : List ℕ} → Run t n goals w m w' m' → Holds t n goals w'' m' → g_of w'' ≡ g_of w'
    → length w'' ≡ length w' → Run t n goals w m w'' m'
run_looked r h g z = record { holds = h; grows = rw g r.grows; same = rw g r.same; size = z ∙ r.size; sets = r.sets }

module _ {t : ℕ → Node} {n : ℕ} {goals w m w' m' : List ℕ} (r : Run t n goals w m w' m') where
  pub run_conflict : {k : ℕ} → move (expand t) goals (g_of w') ≡ Conflict k → Settled t n goals w w' m' Shut
  run_conflict e = record {
    holds = r.holds;
    grows = r.grows;
    same = r.same;
    closes = λ _. result-conflict t goals (g_of w') n e;
    ends = λ q. shut_open q;
    forks = λ l q. shut_fork q;
  }

  pub run_done : move (expand t) goals (g_of w') ≡ Done → Settled t n goals w w' m' Open
  run_done e = record {
    holds = r.holds;
    grows = r.grows;
    same = r.same;
    closes = λ q. shut_open (sym q);
    ends = λ _. result-done t goals (g_of w') n e;
    forks = λ l q. open_fork q;
  }

  pub run_split : {l : ℕ} → move (expand t) goals (g_of w') ≡ Split l → Settled t n goals w w' m' (Fork l)
  run_split {l} e = record {
    holds = r.holds;
    grows = r.grows;
    same = r.same;
    closes = λ q. shut_fork (sym q);
    ends = λ q. open_fork (sym q);
    forks = λ k q. let z : l ≡ k = cc in e ∙ ap Split z;
  }

  module _ (T : Table n t) (B : Below n goals) {k l : ℕ} (e : move (expand t) goals (g_of w') ≡ Single k l) where
    pub run-fresh : Fresh n (g_of w') l
    run-fresh = unit_fresh n t goals T B (g_of w') r.holds.ready.trail.good k l e

    pub run_room : length (g_of w') < n
    run_room = room n (g_of w') l r.holds.ready.trail.good run-fresh

    pub run-unit : {w'' m'' : List ℕ} → Holds t n goals w'' m'' → g_of w'' ≡ l ∷ g_of w' → length w'' ≡ length w' → length m'' ≡ length m' → Run t n goals w m w'' m''
    run-unit h q z y = record {
      holds = h;
      grows = rw q (extends_more r.grows l);
      same = rw q (sym (result-unit t goals (g_of w') n run_room e) ∙ r.same);
      size = z ∙ r.size;
      sets = y ∙ r.sets;
    }

-- ---- a split

-- the units that joined after G end at G₁, where the next move is a split on l
pub record Forked (t : ℕ → Node) (n : ℕ) (goals G G₁ : List ℕ) (l : ℕ) : Type 0 where
  pub table : Table n t
  pub below : Below n goals
  pub good : Good n G₁
  pub grows : Extends G G₁
  pub splits : move (expand t) goals G₁ ≡ Split l

module _ {t : ℕ → Node} {n : ℕ} {goals G G₁ : List ℕ} {l : ℕ} (f : Forked t n goals G G₁ l) where
  pub fork_fresh : Fresh n G₁ l
  fork_fresh = split-fresh n t goals f.table f.below G₁ f.good l f.splits

  pub fork_room : length G₁ < n
  fork_room = room n G₁ l f.good fork_fresh

  -- a branch has fewer undecided nodes, and ends with no fewer literals than the whole began with
  pub fork_less : {B : List ℕ} {m : ℕ} → B ≡ m ∷ G₁ → n - length B < n - length G
  fork_less q = omega (arith, fork_room, f.grows.more, ap length q)

  pub fork_grows : {B F : List ℕ} {m : ℕ} → B ≡ m ∷ G₁ → Extends B F → Extends G F
  fork_grows {m = m} q x = extends_on (extends_more f.grows m) (rw q at x)

  pub fork_result : or_else (result t n goals (l ∷ G₁)) (result t n goals (neg l ∷ G₁)) ≡ result t n goals G₁
  fork_result = sym (result-split t goals G₁ n fork_room f.splits)

  -- the left branch, from L, closed with F; h literals were held at the split
  module _ {h : ℕ} {L F : List ℕ} (e : h ≡ length G₁) (q : L ≡ l ∷ G₁) (x : Extends L F) where
    pub undo-less : h < length F
    undo-less = omega (arith, e, ap length q, x.more)

    undone : drop (length F - h) F ≡ G₁
    undone = rw e (extends_on (extends_more (extends_self G₁) l) (rw q at x)).first

    pub undo-splits : Splits (expand t) goals (drop (length F - h) F)
    undo-splits = (l, rw undone f.splits)

    -- the right branch begins with m, the negation
    module _ {U : List ℕ} {m : ℕ} (u : U ≡ drop (length F - h) F) (z : m ≡ neg l) where
      pub right-fresh : Fresh n U m
      right-fresh = rw (u, undone, z) (neg-fresh n G₁ l fork_fresh)

      pub right-list : {R : List ℕ} → R ≡ m ∷ U → R ≡ neg l ∷ G₁
      right-list r = rw (u, undone, z) at r

-- ---- the search

module _ {t : ℕ → Node} {n : ℕ} {goals w w₁ m₁ : List ℕ} {r : Stop} (s : Settled t n goals w w₁ m₁ r) where
  -- the units end on a conflict
  pub stopped_closed : r ≡ Shut → Searched t n goals w w₁ m₁ Closed
  stopped_closed e = record { holds = s.holds; grows = s.grows; answered = sym (s.closes e) ∙ s.same }

  -- or on a model
  pub stopped_model : r ≡ Open → Searched t n goals w w₁ m₁ Model
  stopped_model e = record { holds = s.holds; grows = s.grows; answered = sym (s.ends e) ∙ s.same }

  -- or on a split
  module _ (T : Table n t) (B : Below n goals) {l : ℕ} (e : r ≡ Fork l) where
    pub forked : Forked t n goals (g_of w) (g_of w₁) l
    forked = record { table = T; below = B; good = s.holds.ready.trail.good; grows = s.grows; splits = s.forks l e }

    -- the left branch
    module _ {w₂ w₃ m₃ : List ℕ} {left : Found} (q : g_of w₂ ≡ l ∷ g_of w₁) (a : Searched t n goals w₂ w₃ m₃ left) where
      left-answered : found_of left (g_of w₃) ≡ result t n goals (l ∷ g_of w₁)
      left-answered = a.answered ∙ ap (result t n goals) q

      branches : or_else (found_of left (g_of w₃)) (result t n goals (neg l ∷ g_of w₁)) ≡ result t n goals (g_of w)
      branches = rw left-answered (fork_result forked ∙ s.same)

      pub left-model : left ≡ Model → Searched t n goals w w₃ m₃ Model
      left-model p = record { holds = a.holds; grows = fork_grows forked q a.grows; answered = rw p at branches }

      -- the right branch: what it ends on is what the whole ends on
      pub right-searched : left ≡ Closed → {w₄ w₅ m₅ : List ℕ} {right : Found} → g_of w₄ ≡ neg l ∷ g_of w₁ → Searched t n goals w₄ w₅ m₅ right
          → Searched t n goals w w₅ m₅ right
      right-searched p d b = record {
        holds = b.holds;
        grows = fork_grows forked d b.grows;
        answered = b.answered ∙ ap (result t n goals) d ∙ rw p at branches;
      }
