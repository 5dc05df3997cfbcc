-- The goals join, one after another; which of them wait is not looked at meanwhile. Assumes nothing.
use mathlib.Core.Path.{◌≡◌, refl, sym, ap, ◌∙◌, subst}
use mathlib.Core.Logic.{inl, inr, ⊎_elim}
use mathlib.Core.Bool.{Bool, true, false, false≢true}
use mathlib.Core.List.{List, [], ◌∷◌}
use Prim.Native.Nat.{ℕ, zero, suc, ◌+◌, ◌<◌, ◌≤◌}
use native.Mathlib.Omega.{arith}
use native.Mathlib.Decide.{dec_lt}
use lib.ListN.{length, get_or, set, replicate, length-map, length-set, length-replicate, get_or-replicate}
use lib.Seq.{get_or-set_same, get_or-set_other}
use Rattle.scope.specs.declared.Node.{Node}
use Rattle.calculus.specs.Expansion.{expand}
use Rattle.calculus.specs.Order.{Value, holds, fails, undecided, value_of, mem, joined, empty, is_empty, some, first_of, clauses, move_of, move}
use Rattle.calculus.specs.Model.{Goals, Fresh, Below}
use Rattle.calculus.proofs.Literals.{value_joined, value_negated}
use Rattle.calculus.proofs.Sizes.{clauses_more}
use Rattle.trail.proofs.Trails.{trail-length}
use Rattle.index.specs.Index.{index_node, most_nodes}
use Rattle.index.specs.Indexed.{Indexed}
use Rattle.state.specs.Work.{area, tail, g_of, conflict_of, waiting_of, Ready, trail_at, values_at}
use Rattle.state.specs.Holds.{Waiting, Holds, denied_of, NoneDenied}
use Rattle.state.proofs.Areas.{ready_same}
use Rattle.state.proofs.Clauses.{sofar, none-at, none-goals, none-position, goal_state_lem, goals-length}
use Rattle.solver.specs.Changes.{Taken, Attached, Apart, Awaited, Stands, Shuts, Enlisted}
use Rattle.calculus.proofs.Stays.{holds_fails, holds_undecided, fails_undecided, value_stays}
use Rattle.solver.proofs.Settles.{waiting_over, awaited_apart}
use Rattle.solver.proofs.Assumes.{ready_attached, list_now, holds-attached, list-attached, taken_none}

-- where nothing is held there is no conflict
pub free_first : {t : ℕ → Node} {n : ℕ} {goals w m : List ℕ} → Holds t n goals w m → g_of w ≡ [] → most_nodes ≤ conflict_of w
free_first {w = w} H e = go (dec_lt (conflict_of w) most_nodes)
  where
    go : Dec (conflict_of w < most_nodes) → most_nodes ≤ conflict_of w
    go (yes i) = absurd (omega (arith, (H.closed i).0, trail-length (tail w 0) (tail w), ap length e))
    go (no i) = omega (arith, i)

-- ---- other goals, as many

clauses_many : (t : ℕ → Node) (goals others : List ℕ) → length others ≡ length goals → (G : List ℕ)
    → length (clauses (expand t) goals G) ≡ length (clauses (expand t) others G)
unfolding clauses
clauses_many t goals others e [] = length-map goals (◌∷ []) ∙ sym e ∙ sym (length-map others (◌∷ []))
clauses_many t goals others e (l ∷ G) =
    clauses_more (expand t) goals l G ∙ ap (◌+ length (expand t l)) (clauses_many t goals others e G) ∙ sym (clauses_more (expand t) others l G)

pub as_many : {t : ℕ → Node} {n : ℕ} {goals others w m : List ℕ} → Holds t n goals w m → length others ≡ length goals → Waiting others (g_of w) (waiting_of w)
    → (denied_of w ≡ 0 → NoneDenied others (g_of w)) → Holds t n others w m
as_many {t} {goals = goals} {others} H e W D = record {
  ready = H.ready;
  numbered = λ q i. H.numbered q i ∙ clauses_many t goals others e _;
  units = H.units;
  entered = H.entered;
  late = H.late;
  first = H.first;
  clear = H.clear;
  closed = H.closed;
  cursor = H.cursor;
  met_before = H.met_before;
  cursors = H.cursors;
  waiting = W;
  denied = D;
}

-- ---- a goal joins

module _ {x w m w₄ m' : List ℕ} {n l u : ℕ} (I : Indexed x n) (f : Fresh n (g_of w) l) (a : Attached (index_node x) n l w m w₄ m' u) where
  -- others, all of them true with it
  module _ {others : List ℕ} (gs : Goals n others) (H : Holds (index_node x) n others w m)
      (T : (k : ℕ) → k < length others → value_of (l ∷ g_of w) (get_or others k 0) ≡ holds) where
    N : Taken w m l m
    N = taken_none H.units

    size : area ≤ length w₄
    size = (ready_attached I H N f a).size

    apart : Apart others l
    apart k i e = holds_fails (sym (T k i) ∙ ap (value_of (l ∷ g_of w)) e ∙ value_negated (g_of w) l f.1)

    A : Awaited others l w₄ (set w₄ 2 0)
    A = awaited_apart size (waiting_over {k = length others} (omega arith) (λ k i. rw (list_now I H N f a) (T k i))) apart

    joins : {goals : List ℕ} → length others ≡ length goals → Stands (index_node x) n goals (set w₄ 2 0) m' × (g_of (set w₄ 2 0) ≡ l ∷ g_of w)
    joins many = (
      record {
        others = others;
        many = many;
        below = gs;
        holds_them = holds-attached I H N f a A;
        idle = inl (get_or-set_same w₄ 2 0 0 (omega (arith, size)));
      },
      list-attached I H N f a A,
    )

  -- so many times the goal itself, where nothing was held
  module _ {goals : List ℕ} (S : Stands (index_node x) n goals w m) (e : g_of w ≡ []) where
    abbrev same : List ℕ
    same = replicate (length goals) l

    count : length same ≡ length goals
    count = length-replicate (length goals) l

    each : (k : ℕ) → k < length same → get_or same k 0 ≡ l
    each k i = get_or-replicate (length goals) k l 0 (omega (arith, i, count))

    below : (c : ℕ) → Below n (replicate c l)
    below zero = tt
    below (suc c) = (f.0, below c)

    waits : Waiting same (g_of w) (waiting_of w)
    unfolding value_of mem
    waits =
        let W = S.holds_them.waiting in
        record {
          few = omega (arith, W.few, count, S.many);
          over = λ k i. absurd (holds_undecided (sym (W.over k (omega (arith, i, count, S.many))) ∙ ap (λ (G : List ℕ). value_of G (get_or S.others k 0)) e));
          on = λ z. (0, omega (arith, (W.on z).1, count, S.many), λ y. holds_undecided (sym y ∙ ap (value_of (g_of w)) (each 0 (omega (arith, (W.on z).1, count, S.many))) ∙ f.1));
        }

    first-joins : Stands (index_node x) n goals (set w₄ 2 0) m' × (g_of (set w₄ 2 0) ≡ l ∷ g_of w)
    first-joins =
        joins (record { most = omega (arith, count, S.many, S.below.most); below = below (length goals) })
        (as_many S.holds_them (count ∙ sym S.many) waits (λ z k i y. fails_undecided (sym y ∙ ap (value_of (g_of w)) (each k i) ∙ f.1)))
        (λ k i. ap (value_of (l ∷ g_of w)) (each k i) ∙ value_joined (g_of w) l) count

  pub goal_joins : {goals : List ℕ} → Stands (index_node x) n goals w m → Stands (index_node x) n goals (set w₄ 2 0) m' × (g_of (set w₄ 2 0) ≡ l ∷ g_of w)
  goal_joins {goals} S = ⊎_elim next (first-joins S) S.idle
    where
      next : waiting_of w ≡ 0 → Stands (index_node x) n goals (set w₄ 2 0) m' × (g_of (set w₄ 2 0) ≡ l ∷ g_of w)
      next z =
          joins S.below S.holds_them
          (λ k i. value_stays (g_of w) l f.1 (get_or S.others k 0) holds holds_undecided (S.holds_them.waiting.over k (omega (arith, i, z))))
          S.many

-- ---- a conflict

module _ (t : ℕ → Node) (goals w : List ℕ) where
  abbrev states : Type 0
  states = some is_empty (sofar t goals (g_of w) (tail w) (tail w 0)) ≡ true

  shuts : states → Shuts (expand t) goals (g_of w)
  unfolding move move_of
  shuts e = (first_of is_empty (sofar t goals (g_of w) (tail w) (tail w 0)), rw e)

  -- it cannot be that none is all false
  by_cases : (some is_empty (sofar t goals (g_of w) (tail w) (tail w 0)) ≡ false → ⊥) → Shuts (expand t) goals (g_of w)
  by_cases never = shuts (go (some is_empty (sofar t goals (g_of w) (tail w) (tail w 0))) refl)
    where
      go : (b : Bool) → some is_empty (sofar t goals (g_of w) (tail w) (tail w 0)) ≡ b → states
      go true e = e
      go false e = absurd (never e)

  -- a goal is false
  pub shuts_goal : (k : ℕ) → k < length goals → value_of (g_of w) (get_or goals k 0) ≡ fails → Shuts (expand t) goals (g_of w)
  shuts_goal k i v = by_cases (λ e.
      let z = none-at is_empty (sofar t goals (g_of w) (tail w) 0) k (none-goals t goals (g_of w) (tail w) is_empty (tail w 0) e) (omega (arith, i, goals-length t goals (g_of w) (tail w))) in
      false≢true (sym z ∙ ap is_empty (goal_state_lem t goals (g_of w) (tail w) k i ∙ ap (λ (u : Value). joined u (get_or goals k 0) empty) v)))

  -- a clause of a literal held is all false
  pub shuts_position : {n : ℕ} {m others : List ℕ} → Holds t n others w m → conflict_of w < most_nodes → Shuts (expand t) goals (g_of w)
  shuts_position H b =
      let (i, s) = H.closed b in
      by_cases (λ e. false≢true (sym (none-position t goals (g_of w) (tail w) is_empty (conflict_of w) (tail w 0) i e) ∙ s))

-- ---- what `join_goal` leaves

-- one cell is changed
noted : {n : ℕ} {w : List ℕ} → n ≤ most_nodes → Ready n w → (v : ℕ) → Ready n (set w 2 v)
noted {w = w} few h v =
    ready_same few h (length-set w 2 v) (λ i b. get_or-set_other w 2 (trail_at + i) v 0 (λ e. omega (arith, e)))
    (λ i b. get_or-set_other w 2 (trail_at + (values_at + i)) v 0 (λ e. omega (arith, e)))

module _ {t : ℕ → Node} {n : ℕ} {goals w m : List ℕ} (l : ℕ) (S : Stands t n goals w m) where
  -- it is false
  pub enlisted_false : n ≤ most_nodes → (v : ℕ) {w' m' : List ℕ} → w' ≡ set w 2 v → value_of (g_of w) l ≡ fails → Enlisted t n goals l w w' m' false
  enlisted_false few v e y = record {
    ready = subst (Ready n) (sym e) (noted few S.holds_them.ready v);
    on = λ e. absurd (false≢true e);
    list = λ e. absurd (false≢true e);
    shut = λ _. inl y;
  }

module _ {t : ℕ → Node} {n : ℕ} {goals w w₁ m₁ : List ℕ} (l : ℕ) (v : value_of (g_of w) l ≡ undecided) (S : Stands t n goals w₁ m₁) (g : g_of w₁ ≡ l ∷ g_of w) where
  -- and closes
  pub enlisted_shut : n ≤ most_nodes → (c : ℕ) {w' m' : List ℕ} → w' ≡ set w₁ 2 c → conflict_of w₁ < most_nodes → Enlisted t n goals l w w' m' false
  enlisted_shut few c e b = record {
    ready = subst (Ready n) (sym e) (noted few S.holds_them.ready c);
    on = λ e. absurd (false≢true e);
    list = λ e. absurd (false≢true e);
    shut = λ _. inr (v, subst (Shuts (expand t) goals) g (shuts_position t goals w₁ S.holds_them b));
  }
