-- What undo_to, start and restart leave. Assumes nothing.
use Rattle.index.specs.Index.{most_nodes}
use mathlib.Core.Path.{◌≡◌, refl, sym, ap, ◌∙◌, subst}
use mathlib.Core.Bool.{false, false≢true}
use mathlib.Core.List.{List, []}
use Prim.Native.Nat.{ℕ, zero, suc, ◌+◌, ◌-◌, ◌<◌, ◌≤◌}
use native.Mathlib.Omega.{arith}
use lib.ListN.{length, get_or, set, drop, replicate, length-set, get_or-replicate}
use lib.Seq.{get_or-set_same, get_or-set_other}
use Rattle.scope.specs.declared.Node.{Node}
use Rattle.calculus.specs.Expansion.{expand}
use Rattle.calculus.specs.Order.{undecided, value_of, mem, is_empty, is_one, some, clauses, move}
use Rattle.trail.proofs.Trails.{trail-length, trail_same}
use Rattle.state.specs.Work.{tail, cursor_at, g_of, trail, Numbered, trail_at, bases_at, values_at}
use Rattle.units.specs.Units.{words, Units, Empty}
use Rattle.units.proofs.Sets.{cleared}
use Rattle.state.specs.Holds.{Holds, AllMet, Waiting, Splits, states_at, denied_at, NoneDenied}
use Rattle.state.specs.Changes.{Blank}
use Rattle.state.proofs.Areas.{count_most, ready_same}
use Rattle.state.proofs.Idle.{split_clear, split-true}
use Rattle.state.proofs.Clauses.{sofar_length, none-position, goals-length}
use Rattle.solver.specs.Changes.{Settled, Left}
use Rattle.calculus.proofs.Stays.{holds_fails}
use Rattle.solver.proofs.Settles.{waiting_over, settled_list, settled-holds}

-- the first literals of a trail, from those held
trail-drop : (k q : ℕ) (r : ℕ → ℕ) → trail q r ≡ drop k (trail (k + q) r)
unfolding trail
trail-drop zero q r =
    let e : 0 + q ≡ q = omega arith in
    ap (λ (i : ℕ). trail i r) (sym e)
trail-drop (suc k) q r =
    let e : suc k + q ≡ suc (k + q) = omega arith in
    rw e (trail-drop k q r)

-- ---- back to a split

module _ {t : ℕ → Node} {n to : ℕ} {goals w m w₁ : List ℕ} (few : n ≤ most_nodes) (H : Holds t n goals w m) (low : to < length (g_of w))
    (s : Splits (expand t) goals (drop (length (g_of w) - to) (g_of w))) (k : Left n to w w₁) where
  under : to < tail w 0
  under = omega (arith, low, trail-length (tail w 0) (tail w))

  most : tail w 0 ≤ most_nodes
  most = omega (arith, count_most H.ready, few)

  trails : (q : ℕ) → q ≤ to → trail q (tail w₁) ≡ trail q (tail w)
  trails q i = trail_same q (tail w₁) (tail w) (λ p b. k.lits p (omega (arith, b, under, most)))

  list : g_of w₁ ≡ drop (length (g_of w) - to) (g_of w)
  list =
      let e : length (g_of w) - to + to ≡ tail w 0 = omega (arith, low, trail-length (tail w 0) (tail w)) in
      ap (λ (q : ℕ). trail q (tail w₁)) k.count ∙ trails to (omega arith) ∙ trail-drop (length (g_of w) - to) to (tail w)
      ∙ ap (λ (q : ℕ). drop (length (g_of w) - to) (trail q (tail w))) e

  splits : Splits (expand t) goals (g_of w₁)
  splits = (s.0, ap (move (expand t) goals) list ∙ s.1)

  waiting : Waiting goals (g_of w₁) 0
  waiting = waiting_over {k = length goals} (omega arith) (split-true t goals w₁ splits)

  -- a cursor of before
  met_before : (q : ℕ) → q ≤ to → (cursor_at (tail w₁) q ≤ q) × AllMet t (trail q (tail w₁)) (tail w₁) (cursor_at (tail w₁) q)
  met_before q i =
      let c = H.cursors q (omega (arith, i, under)) in (
        omega (arith, k.cursors q, c.0),
        λ p b. rw (trails q i, k.lits p (omega (arith, b, k.cursors q, c.0, i, under, most))) (c.1 p (omega (arith, b, k.cursors q))),
      )

  module _ {c : ℕ} {w₂ : List ℕ} (e : c ≡ cursor_at (tail w₁) to) (z : Settled w₁ c 0 w₂) where
    pub undone : {m₂ : List ℕ} → Units m₂ × Empty m₂ → Holds t n goals w₂ m₂
    undone u =
        settled-holds few k.ready z u
        (λ q i. k.bases q (omega (arith, i, k.count, under, most)) ∙ H.numbered q (omega (arith, i, k.count, under))
        ∙ ap (λ (F : List ℕ). length (clauses (expand t) goals F)) (sym (trails q (omega (arith, i, k.count)))))
        (omega (arith, e, (met_before to (omega arith)).0, k.count))
        (subst (λ (j : ℕ). AllMet t (trail j (tail w₁)) (tail w₁) c) (sym k.count)
        (subst (AllMet t (trail to (tail w₁)) (tail w₁)) (sym e) (met_before to (omega arith)).1))
        (λ q i. met_before q (omega (arith, i, k.count)))
        waiting
        (λ i b y. holds_fails (sym (waiting.over i (omega (arith, b))) ∙ y))
        (λ q i. (
          none-position t goals (g_of w₁) (tail w₁) is_empty q (tail w₁ 0) i (split_clear t goals w₁ splits).0,
          none-position t goals (g_of w₁) (tail w₁) is_one q (tail w₁ 0) i (split_clear t goals w₁ splits).1,
        ))

    pub undone-list : g_of w₂ ≡ drop (length (g_of w) - to) (g_of w)
    undone-list = settled_list few k.ready z ∙ list

  pub cursor_low : to < most_nodes
  cursor_low = omega (arith, under, most)

-- ---- a set anew

-- at a split an empty set will do, as no clause is a unit
module _ {t : ℕ → Node} {n : ℕ} {goals w m : List ℕ} (few : n ≤ most_nodes) (H : Holds t n goals w m) (s : Splits (expand t) goals (g_of w)) where
  no_one : (q : ℕ) → q < tail w 0 → some is_one (states_at t (g_of w) (tail w) q) ≡ false
  no_one q i = none-position t goals (g_of w) (tail w) is_one q (tail w 0) i (split_clear t goals w s).1

  emptied : {m' : List ℕ} → Units m' × Empty m' → Holds t n goals w m'
  emptied {m'} (u, e) = record {
    ready = H.ready;
    numbered = H.numbered;
    units = u;
    entered = λ q i. record { unit = λ d y. absurd (false≢true (sym (no_one q i) ∙ y)); conflict = (H.entered q i).conflict };
    late = λ q i.
        let z = e q (omega (arith, i, count_most H.ready, few)) in
        record { low = λ y. absurd (omega (arith, y, z)); live = λ d y. absurd (omega (arith, y, z)) };
    first = λ d q f. absurd (omega (arith, f.here, e q f.low));
    clear = λ q i b. e q b;
    closed = H.closed;
    cursor = H.cursor;
    met_before = H.met_before;
    cursors = H.cursors;
    waiting = H.waiting;
    denied = H.denied;
  }

  -- so will one that was just made
  pub split_anew : Holds t n goals w (replicate words 0)
  split_anew = emptied (cleared (replicate words 0) refl (λ i b. get_or-replicate words i 0 0 b))

-- ---- nothing is held

module _ (t : ℕ → Node) (goals : List ℕ) {n : ℕ} {w w' : List ℕ} (few : n ≤ most_nodes) (b : Blank n (length goals) w)
    (z : Settled w 0 (length goals) w') where
  empty_list : g_of w ≡ []
  unfolding trail
  empty_list = ap (λ (q : ℕ). trail q (tail w)) b.count

  numbered : Numbered t goals (tail w)
  numbered q i =
      let e : q ≡ 0 = omega (arith, i, b.count) in
      rw e (b.base ∙ sym (goals-length t goals [] (tail w)) ∙ sofar_length t goals [] (tail w) 0)

  no_value : (l : ℕ) → value_of (g_of w) l ≡ undecided
  unfolding value_of mem
  no_value l = ap (λ (G : List ℕ). value_of G l) empty_list

  waits : Waiting goals (g_of w) (length goals)
  waits = record {
    few = omega arith;
    over = λ k i. absurd (omega (arith, i));
    on = λ e. (0, omega (arith, e), λ y. let z : ◌≡◌ {A = ℕ} 0 1 = cc (no_value (get_or goals 0 0)) in omega arith);
  }

  undenied : NoneDenied goals (g_of w)
  undenied k i y = let z : ◌≡◌ {A = ℕ} 0 1 = cc (no_value (get_or goals k 0)) in omega arith

  pub started : {m' : List ℕ} → Units m' × Empty m' → Holds t n goals w' m'
  started u =
      settled-holds few b.ready z u numbered (omega arith) (λ q i. absurd (omega (arith, i))) (λ q i. absurd (omega (arith, i, b.count))) waits
      undenied (λ q i. absurd (omega (arith, i, b.count)))

  pub started_list : g_of w' ≡ []
  started_list = settled_list few b.ready z ∙ empty_list

-- all literals have left: with the clauses before the first literal's the area is as good as blank
module _ (c : ℕ) {n : ℕ} {w w₁ w₂ w₃ : List ℕ} (few : n ≤ most_nodes) (k : Left n 0 w w₁)
    (p : w₂ ≡ set w₁ (trail_at + bases_at) c) (q : w₃ ≡ set w₂ denied_at 0) where
  kept : (i : ℕ) → (i ≡ trail_at + bases_at → ⊥) → (i ≡ denied_at → ⊥) → get_or w₃ i 0 ≡ get_or w₁ i 0
  kept i d e = rw (q, p) (get_or-set_other (set w₁ (trail_at + bases_at) c) denied_at i 0 0 e ∙ get_or-set_other w₁ (trail_at + bases_at) i c 0 d)

  pub rebased : Blank n c w₃
  rebased = record {
    ready =
        ready_same few k.ready (rw (q, p) (simp length-set)) (λ i b. kept (trail_at + i) (λ e. omega (arith, e, b)) (λ e. omega (arith, e, b)))
        (λ l b. kept (trail_at + (values_at + l)) (λ e. omega (arith, e)) (λ e. omega (arith, e, b)));
    count = kept (trail_at + 0) (λ e. omega (arith, e)) (λ e. omega (arith, e)) ∙ k.count;
    base =
        rw (q, p)
        (get_or-set_other (set w₁ (trail_at + bases_at) c) denied_at (trail_at + bases_at) 0 0 (λ e. omega (arith, e))
        ∙ get_or-set_same w₁ (trail_at + bases_at) c 0 (omega (arith, k.ready.size)));
  }
