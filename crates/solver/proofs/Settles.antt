-- What start and undo leave: no position is a unit, none has a conflict. Assumes nothing.
use Rattle.index.specs.Index.{most_nodes}
use mathlib.Core.Path.{◌≡◌, refl, sym, ap, ◌∙◌, subst, fun_ext}
use mathlib.Core.Bool.{Bool, false, false≢true}
use mathlib.Core.Logic.{inl, inr}
use mathlib.Core.List.{List}
use Prim.Native.Nat.{ℕ, ◌+◌, ◌-◌, ◌*◌, ◌<◌, ◌≤◌}
use native.Mathlib.Omega.{arith}
use lib.ListN.{length, get_or, set, length-set}
use lib.Seq.{get_or-set_same, get_or-set_other}
use Rattle.scope.specs.declared.Node.{Node}
use Rattle.calculus.specs.Expansion.{neg}
use Rattle.calculus.specs.Order.{holds, value_of, is_empty, is_one, some}
use Rattle.units.specs.Units.{Units, Empty}
use Rattle.trail.proofs.Trails.{trail-length}
use Rattle.state.specs.Work.{tail, lit_at, base_of, cursor_at, g_of, trail, cursor_of, waiting_of, held, Ready, Numbered}
use Rattle.state.specs.Work.{trail_at, literals_at, bases_at, values_at, cursors_at, area}
use Rattle.state.specs.Holds.{Holds, AllMet, Waiting, states_at, denied_at, NoneDenied}
use Rattle.state.specs.Changes.{Popped}
use Rattle.state.proofs.Areas.{count_most, held_below, ready_same}
use Rattle.solver.specs.Changes.{Served, Apart, Awaited, Settled, Left}

-- ---- whether a goal waits

pub waiting_over : {goals G : List ℕ} {k : ℕ} → length goals ≤ k → ((i : ℕ) → i < k → value_of G (get_or goals i 0) ≡ holds) → Waiting goals G 0
waiting_over d f = record { few = omega arith; over = λ i b. f i (omega (arith, b, d)); on = λ z. absurd (z refl) }

-- ---- the cells are set

module _ {w : List ℕ} {c v : ℕ} (size : area ≤ length w) where
  pub settled : Settled w c v (set (set (set w 0 c) 1 most_nodes) 2 v)
  settled = record {
    size = simp length-set;
    cursor =
        get_or-set_other (set (set w 0 c) 1 most_nodes) 2 0 v 0 (λ e. omega (arith, e)) ∙ get_or-set_other (set w 0 c) 1 0 most_nodes 0 (λ e. omega (arith, e))
        ∙ get_or-set_same w 0 c 0 (omega (arith, size));
    conflict =
        get_or-set_other (set (set w 0 c) 1 most_nodes) 2 1 v 0 (λ e. omega (arith, e))
        ∙ get_or-set_same (set w 0 c) 1 most_nodes 0 (simp length-set (omega (arith, size)));
    waiting = get_or-set_same (set (set w 0 c) 1 most_nodes) 2 v 0 (simp length-set (omega (arith, size)));
    rest = λ i k.
        get_or-set_other (set (set w 0 c) 1 most_nodes) 2 i v 0 (λ e. omega (arith, e, k)) ∙ get_or-set_other (set w 0 c) 1 i most_nodes 0 (λ e. omega (arith, e, k))
        ∙ get_or-set_other w 0 i c 0 (λ e. omega (arith, e, k));
  }

-- the work area holds, with an empty set, where no position of its trail has a unit or a conflict
module _ {n : ℕ} {w w' : List ℕ} {c v : ℕ} (few : n ≤ most_nodes) (h : Ready n w) (z : Settled w c v w') where
  same : tail w' ≡ tail w
  same = fun_ext (λ i. z.rest (trail_at + i) (omega arith))

  pub settled_list : g_of w' ≡ g_of w
  settled_list = ap held same

  module _ {t : ℕ → Node} {goals m' : List ℕ} (u : Units m' × Empty m') (numbered : Numbered t goals (tail w)) (low : c ≤ tail w 0) (before : AllMet t (g_of w) (tail w) c)
      (cursors : (q : ℕ) → q < tail w 0 → (cursor_at (tail w) q ≤ q) × AllMet t (trail q (tail w)) (tail w) (cursor_at (tail w) q))
      (waiting : Waiting goals (g_of w) v) (undenied : NoneDenied goals (g_of w))
      (none : (q : ℕ) → q < tail w 0 → (some is_empty (states_at t (g_of w) (tail w) q) ≡ false) × (some is_one (states_at t (g_of w) (tail w) q) ≡ false)) where
    pub settled-holds : Holds t n goals w' m'
    settled-holds = record {
      ready = ready_same few h z.size (λ i k. z.rest (trail_at + i) (omega arith)) (λ l k. z.rest (trail_at + (values_at + l)) (omega arith));
      numbered = subst (Numbered t goals) (sym same) numbered;
      units = u.0;
      entered = λ q i. record {
        unit = λ f y. absurd (false≢true (sym (none' q i).1 ∙ y));
        conflict = λ y. absurd (false≢true (sym (none' q i).0 ∙ y));
      };
      late = λ q i. record {
        low = λ y. absurd (omega (arith, y, u.1 q (omega (arith, low', i, few))));
        live = λ f y v. absurd (omega (arith, y, u.1 q (omega (arith, low', i, few))));
      };
      first = λ f q y. absurd (omega (arith, y.here, u.1 q y.low));
      clear = λ q i k. u.1 q k;
      closed = λ k. absurd (omega (arith, k, z.conflict));
      cursor = omega (arith, z.cursor, low, ap (λ (r : ℕ → ℕ). r 0) same);
      met_before = subst (λ (r : ℕ → ℕ). AllMet t (held r) r (cursor_of w')) (sym same) (subst (AllMet t (g_of w) (tail w)) (sym z.cursor) before);
      cursors = subst (λ (r : ℕ → ℕ). (q : ℕ) → q < r 0 → (cursor_at r q ≤ q) × AllMet t (trail q r) r (cursor_at r q)) (sym same) cursors;
      waiting = subst (λ (r : ℕ → ℕ). Waiting goals (held r) (waiting_of w')) (sym same) (subst (Waiting goals (g_of w)) (sym z.waiting) waiting);
      denied = λ e. subst (NoneDenied goals) (sym settled_list) undenied;
    }
      where
        none' : (q : ℕ) → q < tail w' 0 → (some is_empty (states_at t (g_of w') (tail w') q) ≡ false) × (some is_one (states_at t (g_of w') (tail w') q) ≡ false)
        none' =
            subst (λ (r : ℕ → ℕ). (q : ℕ) → q < r 0 → (some is_empty (states_at t (held r) r q) ≡ false) × (some is_one (states_at t (held r) r q) ≡ false))
            (sym same) none

        low' : tail w' 0 ≤ n
        low' = omega (arith, count_most h, ap (λ (r : ℕ → ℕ). r 0) same)

-- ---- literals leave

pub record Leaving (n to : ℕ) (w₀ w : List ℕ) : Type 0 where
  pub ready : Ready n w
  pub size : length w ≡ length w₀
  pub low : to ≤ tail w 0
  pub lits : (q : ℕ) → q < most_nodes → lit_at (tail w) q ≡ lit_at (tail w₀) q
  pub bases : (q : ℕ) → q ≤ most_nodes → base_of (tail w) q ≡ base_of (tail w₀) q
  pub cursors : (q : ℕ) → cursor_at (tail w) q ≡ cursor_at (tail w₀) q

module _ {n to : ℕ} {w₀ w : List ℕ} (few : n ≤ most_nodes) (v : Leaving n to w₀ w) {c : ℕ} (count : c ≡ length (g_of w)) where
  count-is : c ≡ tail w 0
  count-is = count ∙ trail-length (tail w 0) (tail w)

  module _ (b : to < c) where
    -- what `pop` asks
    pub held-some : 0 < tail w 0
    held-some = omega (arith, count-is, b)

    pub held-few : tail w 0 ≤ most_nodes
    held-few = omega (arith, count_most v.ready, few)

    pub newest-few : lit_at (tail w) (tail w 0 - 1) < 2 * most_nodes
    newest-few = omega (arith, held_below v.ready (tail w 0 - 1) (omega (arith, held-some)), few)

    pub leaving-goes : {w' : List ℕ} → Popped n w w' → Leaving n to w₀ w'
    leaving-goes k = record {
      ready = k.ready;
      size = k.size ∙ v.size;
      low = omega (arith, k.count, count-is, b);
      lits = λ q i. k.kept (trail_at + (literals_at + q)) (inr (inl (omega arith, omega arith))) ∙ v.lits q i;
      bases = λ q i. k.kept (trail_at + (bases_at + q)) (inr (inr (inl (omega arith, omega arith)))) ∙ v.bases q i;
      cursors = λ q. k.kept (trail_at + (cursors_at + q)) (inr (inr (inr (omega arith)))) ∙ v.cursors q;
    }

  pub leaving_ends : c ≤ to → Left n to w₀ w
  leaving_ends d =
      let count : tail w 0 ≡ to = omega (arith, count-is, v.low, d) in
      search

-- ---- the goals are looked at anew

-- none waited
pub awaited_none : {goals w : List ℕ} {l : ℕ} → Served goals w → waiting_of w ≡ 0 → Awaited goals l w w
awaited_none {goals} {w} s z = record {
  size = refl;
  waiting = rw z (waiting_over {k = length goals} (omega arith) (λ k i. s.over k (omega (arith, i, z))));
  denied = λ e. inl z;
  other = λ i d e. refl;
}

module _ {goals w : List ℕ} {l v : ℕ} (b : area ≤ length w) (a : Waiting goals (g_of w) v) where
  -- the negation of l is none of them
  pub awaited_apart : Apart goals l → Awaited goals l w (set w 2 v)
  awaited_apart f = record {
    size = length-set w 2 v;
    waiting = rw (get_or-set_same w 2 v 0 (omega arith)) a;
    denied = λ e. inr (sym (get_or-set_other w 2 denied_at v 0 (λ y. omega (arith, y))) ∙ e, f);
    other = λ i d e. get_or-set_other w 2 i v 0 d;
  }

-- ---- whether a literal's negation is among the goals

-- of the first j goals
pub record Denying (goals : List ℕ) (l : ℕ) (found : Bool) (j : ℕ) : Type 0 where
  pub turns : j ≤ length goals
  pub apart : found ≡ false → (k : ℕ) → k < j → get_or goals k 0 ≡ neg l → ⊥
