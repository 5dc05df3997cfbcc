-- The move of a work area that holds. Assumes nothing.
use mathlib.Core.Path.{◌≡◌, refl, sym, ap, ◌∙◌, subst, fun_ext}
use mathlib.Core.Bool.{Bool, true, false}
use mathlib.Core.List.{List}
use Prim.Native.Nat.{ℕ, ◌+◌, ◌*◌, ◌/◌, ◌%◌, ◌<◌, ◌≤◌}
use native.Mathlib.Omega.{arith}
use native.Mathlib.Decide.{dec_lt}
use lib.ListN.{length, get_or, length-map}
use borrow.Author.Tests.{lt-ltb, le-ltb}
use Rattle.scope.specs.declared.Node.{Node}
use Rattle.calculus.specs.Expansion.{chosen, expand}
use Rattle.calculus.specs.Order.{State, met, empty, joined, value_of, state_of, literal_of, literal_at, is_empty, is_one, some, first_of, move_of, move}
use Rattle.calculus.specs.Model.{Goals}
use Rattle.calculus.specs.declared.Move.{Move}
use Rattle.calculus.specs.declared.Move.TheVariants.{Conflict, Unit as Single, Done, Split}
use Rattle.calculus.proofs.Literals.{is_false}
use Rattle.calculus.proofs.Sizes.{expand-few}
use Rattle.trail.proofs.Codes.{code_fails}
use Rattle.scope.specs.Table.{operands}
use Rattle.index.specs.Index.{most_nodes}
use Rattle.units.specs.Units.{member, Empty, First, positions}
use Rattle.clause.specs.Coded.{is_open, Coded}
use Rattle.state.specs.Work.{tail, lit_at, base_of, g_of, held, trail, value_code, cursor_at, code_at, cursor_of, conflict_of, waiting_of, place_of, Numbered, trail_at, literals_at, bases_at, values_at}
use Rattle.state.specs.Holds.{states_at, Forces, Entered, Late, FirstLive, Closed, AllMet, Waiting, Holds, denied_at, NoneDenied}
use Rattle.state.specs.Picked.{Picked}
use Rattle.state.proofs.Areas.{count_most, base_most, ready_same}
use Rattle.state.proofs.Clauses.{sofar, sofar_length, none-by, first-at, none-sofar, found-goal, found-position, goal_state_lem, goals-length}
use Rattle.moves.specs.Place.{On, place_number, Placed, Without, FirstGoal, CellSet, FirstOpen, Moved, goals_at}
use Rattle.moves.proofs.Tests.{move_conflict, move_unit, move-split, move-done, all_met, met_closed, first_low, goal_false, goal_unfalse, goal_unit, goal_ununit}

single_same : {a b c d : ℕ} → a ≡ b → c ≡ d → Single a c ≡ Single b d
single_same p q = cc

-- a property of those before k, and of k
pub step : {P : ℕ → Type 0} {k : ℕ} (i : ℕ) → i < k + 1 → Dec (i ≡ k) → P k → ((j : ℕ) → j < k → P j) → P i
step {P} i b (yes e) h f = subst P (sym e) h
step i b (no e) h f = f i (omega (arith, b, e))

-- no goal is false
pub undenied : (goals G : List ℕ) → NoneDenied goals G → Without 2 goals G
undenied goals G f k i e = f k i (code_fails (value_of G (get_or goals k 0)) e)

-- ---- a cell is set

module _ {t : ℕ → Node} {n : ℕ} {goals w m : List ℕ} (w' : List ℕ) (few : n ≤ most_nodes) (H : Holds t n goals w m) (size : length w' ≡ length w)
    (rest : (i : ℕ) → trail_at ≤ i → get_or w' i 0 ≡ get_or w i 0) (conflict : conflict_of w' ≡ conflict_of w) (waits : waiting_of w' ≡ waiting_of w)
    (low : cursor_of w' ≤ tail w 0) (before : AllMet t (g_of w) (tail w) (cursor_of w')) where
  same : tail w' ≡ tail w
  same = fun_ext (λ i. rest (trail_at + i) (omega arith))

  cell_list : g_of w' ≡ g_of w
  cell_list = ap held same

  cell_holds : Holds t n goals w' m
  cell_holds = record {
    ready = ready_same few H.ready size (λ i k. rest (trail_at + i) (omega arith)) (λ l k. rest (trail_at + (values_at + l)) (omega arith));
    numbered = subst (Numbered t goals) (sym same) H.numbered;
    units = H.units;
    entered = subst (λ (r : ℕ → ℕ). (q : ℕ) → q < r 0 → Entered t (held r) r (conflict_of w') m q) (sym same)
        (subst (λ (c : ℕ). (q : ℕ) → q < tail w 0 → Entered t (g_of w) (tail w) c m q) (sym conflict) H.entered);
    late = subst (λ (r : ℕ → ℕ). (q : ℕ) → q < r 0 → Late t n (held r) r (conflict_of w') m q) (sym same)
        (subst (λ (c : ℕ). (q : ℕ) → q < tail w 0 → Late t n (g_of w) (tail w) c m q) (sym conflict) H.late);
    first = subst (λ (r : ℕ → ℕ). FirstLive (held r) r (conflict_of w') m) (sym same)
        (subst (λ (c : ℕ). FirstLive (g_of w) (tail w) c m) (sym conflict) H.first);
    clear = subst (λ (r : ℕ → ℕ). (q : ℕ) → r 0 ≤ q → q < positions → member m q ≡ 0) (sym same) H.clear;
    closed = subst (λ (r : ℕ → ℕ). Closed t (held r) r (conflict_of w')) (sym same) (subst (Closed t (g_of w) (tail w)) (sym conflict) H.closed);
    cursor = omega (arith, low, ap (λ (r : ℕ → ℕ). r 0) same);
    met_before = subst (λ (r : ℕ → ℕ). AllMet t (held r) r (cursor_of w')) (sym same) before;
    cursors = subst (λ (r : ℕ → ℕ). (h : ℕ) → h < r 0 → (cursor_at r h ≤ h) × AllMet t (trail h r) r (cursor_at r h)) (sym same) H.cursors;
    waiting = subst (λ (r : ℕ → ℕ). Waiting goals (held r) (waiting_of w')) (sym same) (subst (Waiting goals (g_of w)) (sym waits) H.waiting);
    denied = λ e. subst (NoneDenied goals) (sym cell_list) (H.denied (sym (rest denied_at (omega arith)) ∙ e));
  }

-- the place of the move's clause
module _ {t : ℕ → Node} {n place : ℕ} {goals w w' m : List ℕ} (few : n ≤ most_nodes) (H : Holds t n goals w m) (z : CellSet 3 place w w') where
  cell : (i : ℕ) → i < 3 → get_or w' i 0 ≡ get_or w i 0
  cell i b = z.other i (λ e. omega (arith, e, b))

  rest : (i : ℕ) → trail_at ≤ i → get_or w' i 0 ≡ get_or w i 0
  rest i b = z.other i (λ e. omega (arith, e, b))

  before : AllMet t (g_of w) (tail w) (cursor_of w')
  before = subst (AllMet t (g_of w) (tail w)) (sym (cell 0 (omega arith))) H.met_before

  keeps : Holds t n goals w' m
  keeps = cell_holds w' few H z.size rest (cell 1 (omega arith)) (cell 2 (omega arith)) (omega (arith, cell 0 (omega arith), H.cursor)) before

  keeps_list : g_of w' ≡ g_of w
  keeps_list = cell_list w' few H z.size rest (cell 1 (omega arith)) (cell 2 (omega arith)) (omega (arith, cell 0 (omega arith), H.cursor)) before

  -- a goal's
  placed_goal : (k : ℕ) → place ≡ goals_at + k → k < length goals → Placed t goals w' k
  unfolding place_number
  placed_goal k e b =
      let p : place_of w' ≡ goals_at + k = z.cell ∙ e in
      record {
        number = rw (p, le-ltb (goals_at + k) goals_at (omega arith)) (omega arith);
        goal = λ i. omega (arith, p, b);
        held = λ i. absurd (omega (arith, i, p));
        column = λ i. absurd (omega (arith, i, p));
      }

  -- that of a position's clause
  placed_at : (q j : ℕ) → place ≡ 4 * q + j → j < 4 → q < tail w 0 → q < most_nodes → j < length (expand t (lit_at (tail w) q)) → Placed t goals w' (base_of (tail w) q + j)
  unfolding place_number
  placed_at q j e c b o l =
      let p : place_of w' ≡ 4 * q + j = z.cell ∙ e in
      let d : (4 * q + j) / 4 ≡ q = omega (arith, c) in
      let f : (4 * q + j) % 4 ≡ j = omega (arith, c) in
      record {
        number = rw (p, lt-ltb (4 * q + j) goals_at (omega (arith, c, o)), d, f) (ap (◌+ j) (rest (trail_at + (bases_at + q)) (omega arith)));
        goal = λ i. absurd (omega (arith, i, p, c, o));
        held = λ i. rw (p, d) (omega (arith, b, rest 4 (omega arith)));
        column = λ i. rw (p, d, f, rest (trail_at + (literals_at + q)) (omega arith)) l;
      }

-- a literal has fewer than four clauses
pub on_few : {t : ℕ → Node} {goals w : List ℕ} {q j : ℕ} {v : Move} → On t goals w q j v → j < 4
on_few {t} {w = w} {q} o = omega (arith, o.column, expand-few t (lit_at (tail w) q))

-- ---- the unit that was picked

pub picks : {w m : List ℕ} {q k : ℕ} → waiting_of w ≡ 0 → most_nodes ≤ conflict_of w → First m q → k ≡ get_or w (12104 + q) 0 → k < 65536 → Picked w m (65536 * q + k)
picks {w} {m} {q} {k} z c f e b =
    let d : (65536 * q + k) / 65536 ≡ q = omega (arith, b) in
    record { waiting = z; free = c; first = rw d f; kept = ap (code_at (tail w)) d ∙ ap (λ (i : ℕ). get_or w i 0) (omega arith) ∙ sym e ∙ omega (arith, b) }

-- ---- the moves

-- the clauses of goals and of the literals held, and their states
module _ (t : ℕ → Node) (goals w : List ℕ) where
  abbrev states : ℕ → List State
  states k = sofar t goals (g_of w) (tail w) k

  move-is : move_of (states (tail w 0)) ≡ move (expand t) goals (g_of w)
  unfolding move
  move-is = refl

  -- a goal's clause by its value
  abbrev goal_state : ℕ → State
  goal_state k = joined (value_of (g_of w) (get_or goals k 0)) (get_or goals k 0) empty

  goal_at : (p : State → Bool) (b : Bool) (k : ℕ) → k < length goals → p (goal_state k) ≡ b → p (get_or (states 0) k met) ≡ b
  goal_at p b k i e = ap p (goal_state_lem t goals (g_of w) (tail w) k i) ∙ e

  no_goal : (p : State → Bool) → ((k : ℕ) → k < length goals → p (goal_state k) ≡ false) → some p (states 0) ≡ false
  no_goal p f =
      none-by p (states 0) (λ k i. let b : k < length goals = omega (arith, i, goals-length t goals (g_of w) (tail w)) in goal_at p false k b (f k b))

  none-false : Without 2 goals (g_of w) → some is_empty (states 0) ≡ false
  none-false f = no_goal is_empty (λ k i. goal_unfalse (value_of (g_of w) (get_or goals k 0)) (get_or goals k 0) (f k i))

  -- no clause is all false
  module _ (free : (q : ℕ) → q < tail w 0 → some is_empty (states_at t (g_of w) (tail w) q) ≡ false) (f : Without 2 goals (g_of w)) where
    all-free : some is_empty (states (tail w 0)) ≡ false
    all-free = none-sofar t goals (g_of w) (tail w) is_empty (tail w 0) (none-false f) free

    -- then the first goal that is undecided is a unit
    pub goal-next : {k : ℕ} → FirstGoal goals (g_of w) 0 k → k < length goals → move (expand t) goals (g_of w) ≡ Single k (get_or goals k 0)
    goal-next {k} u i =
        let b : k < length (states 0) = omega (arith, i, goals-length t goals (g_of w) (tail w)) in
        let v = goal_unit (value_of (g_of w) (get_or goals k 0)) (get_or goals k 0) (u.here i) in
        let a = first-at is_one (states 0) k b (goal_at is_one true k i v.0)
        (λ j y. goal_at is_one false j (omega (arith, y, i)) (goal_ununit (value_of (g_of w) (get_or goals j 0)) (get_or goals j 0) (u.before j y))) in
        let o = found-goal t goals (g_of w) (tail w) is_one (tail w 0) a.0 in
        let l : literal_at (states (tail w 0)) (first_of is_one (states (tail w 0))) ≡ get_or goals k 0 =
        o.2 ∙ ap (literal_at (states 0)) a.1 ∙ ap literal_of (goal_state_lem t goals (g_of w) (tail w) k i) ∙ v.1 in
        sym move-is ∙ move_unit (states (tail w 0)) all-free o.0 ∙ single_same (o.1 ∙ a.1) l

module _ {t : ℕ → Node} {n : ℕ} {goals w m : List ℕ} (few : n ≤ most_nodes) (gs : Goals n goals) (H : Holds t n goals w m) where
  abbrev G : List ℕ
  G = g_of w

  abbrev r : ℕ → ℕ
  r = tail w

  abbrev C : ℕ → List State
  C k = sofar t goals G r k

  abbrev S : ℕ → List State
  S q = states_at t G r q

  most : r 0 ≤ most_nodes
  most = omega (arith, count_most H.ready, few)

  pub base_low : (q : ℕ) → q ≤ r 0 → base_of r q ≤ 8192
  base_low q i = base_most H.ready t few gs H.numbered q i

  base_is : (q : ℕ) → q ≤ r 0 → length (C q) ≡ base_of r q
  base_is q i = sofar_length t goals G r q ∙ sym (H.numbered q i)

  true_goal : waiting_of w ≡ 0 → (k : ℕ) → k < length goals → value_code (value_of G (get_or goals k 0)) ≡ 1
  true_goal z k i = ap value_code (H.waiting.over k (omega (arith, i, z)))

  pub without : waiting_of w ≡ 0 → Without 2 goals G
  without z k i e = omega (arith, e, true_goal z k i)

  -- ---- a conflict

  -- on a goal
  pub conflict_goal : {k : ℕ} {w' : List ℕ} → FirstGoal goals G 2 k → k < length goals → CellSet 3 (goals_at + k) w w' → Moved t n goals w w' m (Conflict k)
  conflict_goal {k} f i z =
      let b : k < length (C 0) = omega (arith, i, goals-length t goals G r) in
      let a = first-at is_empty (C 0) k b (goal_at t goals w is_empty true k i (goal_false (value_of G (get_or goals k 0)) (get_or goals k 0) (f.here i)))
      (λ j y. goal_at t goals w is_empty false j (omega (arith, y, i)) (goal_unfalse (value_of G (get_or goals j 0)) (get_or goals j 0) (f.before j y))) in
      let o = found-goal t goals G r is_empty (r 0) a.0 in
      record {
        is = ap Conflict (sym (o.1 ∙ a.1)) ∙ sym (move_conflict (C (r 0)) o.0) ∙ move-is t goals w;
        holds_on = keeps few H z;
        list = keeps_list few H z;
        kept = placed_goal few H z k refl i;
      }

  -- on the first position that has one
  module _ {q : ℕ} (e : q ≡ conflict_of w) (i : q < most_nodes) where
    conflict-there : (q < r 0) × (some is_empty (S q) ≡ true)
    conflict-there = subst (Closed t G r) (sym e) H.closed i

    pub conflict-low : q < r 0
    conflict-low = conflict-there.0

    pub conflict-on : {code : ℕ} → Without 2 goals G → Coded (t (lit_at r q / 2)) (S q) code → On t goals w q (code / 256 % 4) (Conflict (base_of r q + code / 256 % 4))
    conflict-on {code} f c =
        let (b, s) = conflict-there in
        let n = none-sofar t goals G r is_empty q (none-false t goals w f) (λ p a. is_false (some is_empty (S p)) (λ u. omega (arith, e, a, (H.entered p (omega (arith, a, b))).conflict u))) in
        let o = found-position t goals G r is_empty q (r 0) b n s in
        let j : code / 256 % 4 ≡ first_of is_empty (S q) = c.conflict_clause s in
        record {
          held = b;
          column = omega (arith, j, first_low is_empty (S q) s, length-map (expand t (lit_at r q)) (state_of G));
          next =
              sym (move-is t goals w) ∙ move_conflict (C (r 0)) o.0
              ∙ ap Conflict (o.1 ∙ ap (length (C q) +◌) (sym j) ∙ ap (◌+ code / 256 % 4) (base_is q (omega (arith, b))));
        }

    pub conflict-position : {j : ℕ} {w' : List ℕ} → On t goals w q j (Conflict (base_of r q + j)) → CellSet 3 (4 * q + j) w w'
        → {k : ℕ} → k ≡ base_of r q → Moved t n goals w w' m (Conflict (k + j))
    conflict-position {j} o z {k} y = record {
      is = ap (λ (a : ℕ). Conflict (a + j)) y ∙ sym o.next;
      holds_on = keeps few H z;
      list = keeps_list few H z;
      kept = rw y (placed_at few H z q j refl (on_few o) o.held i o.column);
    }

  -- ---- no conflict

  module _ (free : most_nodes ≤ conflict_of w) where
    pub position-free : (q : ℕ) → q < r 0 → some is_empty (S q) ≡ false
    position-free q i = is_false (some is_empty (S q)) (λ u. omega (arith, free, i, most, (H.entered q i).conflict u))

    -- a goal that is undecided
    pub unit-goal : {k : ℕ} {w' : List ℕ} → Without 2 goals G → FirstGoal goals G 0 k → k < length goals → CellSet 3 (goals_at + k) w w'
        → Moved t n goals w w' m (Single k (get_or goals k 0))
    unit-goal {k} f u i z = record {
      is = sym (goal-next t goals w position-free f u i);
      holds_on = keeps few H z;
      list = keeps_list few H z;
      kept = placed_goal few H z k refl i;
    }

    -- ---- every goal is true

    module _ (z₀ : waiting_of w ≡ 0) where
      no-unit-goal : some is_one (C 0) ≡ false
      no-unit-goal = no_goal t goals w is_one (λ k i. goal_ununit (value_of G (get_or goals k 0)) (get_or goals k 0) (λ e. omega (arith, e, true_goal z₀ k i)))

      -- the first position of the set
      module _ {q : ℕ} (f : First m q) where
        pub unit-low : q < r 0
        unit-low = go (dec_lt q (r 0))
          where
            go : Dec (q < r 0) → q < r 0
            go (yes i) = i
            go (no i) = absurd (omega (arith, H.clear q (omega (arith, i)) f.low, f.here))

        -- what is kept of it is undecided, so a clause is a unit
        unit-there : some is_one (S q) ≡ true
        unit-there = (H.late q unit-low).live free f.here (H.first free q f)

        unit_kept : Forces (S q) (code_at r q)
        unit_kept = ((H.entered q unit-low).unit free unit-there).1

        unit-column : code_at r q / 4096 < length (expand t (lit_at r q))
        unit-column = omega (arith, unit_kept.column, first_low is_one (S q) unit-there, length-map (expand t (lit_at r q)) (state_of G))

        -- which of its clauses: one of three
        unit-few : code_at r q / 4096 < 4
        unit-few = omega (arith, unit-column, expand-few t (lit_at r q))

        -- no position before has one
        none-earlier : (p : ℕ) → p < q → some is_one (S p) ≡ false
        none-earlier p a = is_false (some is_one (S p)) (λ u. omega (arith, ((H.entered p (omega (arith, a, unit-low))).unit free u).0, f.before p a))

        unit-next : move (expand t) goals G ≡ Single (base_of r q + code_at r q / 4096) (code_at r q % 4096)
        unit-next =
            let n = none-sofar t goals G r is_one q no-unit-goal none-earlier in
            let o = found-position t goals G r is_one q (r 0) unit-low n unit-there in
            sym (move-is t goals w) ∙ move_unit (C (r 0)) (all-free t goals w position-free (without z₀)) o.0
            ∙ single_same (o.1 ∙ ap (◌+ first_of is_one (S q)) (base_is q (omega (arith, unit-low))) ∙ ap (base_of r q +◌) (sym unit_kept.column))
            (o.2 ∙ sym unit_kept.literal)

        pub unit-position : {j l k : ℕ} {w' : List ℕ} → j ≡ code_at r q / 4096 → l ≡ code_at r q % 4096 → CellSet 3 (4 * q + j) w w' → k ≡ base_of r q
            → Moved t n goals w w' m (Single (k + j) l)
        unit-position {j} {l} {k} d e z y = record {
          is = single_same (ap (◌+ j) y ∙ ap (base_of r q +◌) d) e ∙ sym unit-next;
          holds_on = keeps few H z;
          list = keeps_list few H z;
          kept = rw y (placed_at few H z q j refl (omega (arith, d, unit-few)) unit-low (omega (arith, unit-low, most)) (omega (arith, d, unit-column)));
        }

      -- no unit: a split at the first position that has an open clause, or none
      module _ {q : ℕ} {w' : List ℕ} (none : Empty m) (f : FirstOpen t w q) (z : CellSet 0 q w w') where
        no_unit : some is_one (C (r 0)) ≡ false
        no_unit =
            none-sofar t goals G r is_one (r 0) no-unit-goal
            (λ p a. is_false (some is_one (S p)) (λ u. omega (arith, ((H.entered p a).unit free u).0, none p (omega (arith, a, most)))))

        no-open-goal : some is_open (C 0) ≡ false
        no-open-goal = no_goal t goals w is_open (λ k i. rw (H.waiting.over k (omega (arith, i, z₀))))

        -- none before q is open
        closed-before : (p : ℕ) → p < q → some is_open (S p) ≡ false
        closed-before p a = go (dec_lt p (cursor_of w))
          where
            go : Dec (p < cursor_of w) → some is_open (S p) ≡ false
            go (yes i) = met_closed (S p) (H.met_before p i)
            go (no i) = is_false (some is_open (S p)) (f.before p (omega (arith, i)) a)

        rest₀ : (i : ℕ) → 0 < i → get_or w' i 0 ≡ get_or w i 0
        rest₀ i b = z.other i (λ e. omega (arith, e, b))

        before₀ : AllMet t G r (cursor_of w')
        before₀ =
            subst (AllMet t G r) (sym z.cell)
            (λ p a. all_met (S p) (position-free p (omega (arith, a, f.low))) (closed-before p a))

        pub on : Holds t n goals w' m
        on = cell_holds w' few H z.size (λ i b. rest₀ i (omega arith)) (rest₀ 1 (omega arith)) (rest₀ 2 (omega arith)) (omega (arith, z.cell, f.low)) before₀

        pub on_list : g_of w' ≡ G
        on_list = cell_list w' few H z.size (λ i b. rest₀ i (omega arith)) (rest₀ 1 (omega arith)) (rest₀ 2 (omega arith)) (omega (arith, z.cell, f.low)) before₀

        pub done : r 0 ≤ q → Moved t n goals w w' m Done
        done i = record {
          is =
              sym (move-done (C (r 0)) (all-free t goals w position-free (without z₀)) no_unit
              (none-sofar t goals G r is_open (r 0) no-open-goal (λ p a. closed-before p (omega (arith, a, i))))) ∙ move-is t goals w;
          holds_on = on;
          list = on_list;
          kept = tt;
        }

        module _ (i : q < r 0) where
          pub split-low : q < tail w' 0
          split-low = omega (arith, i, rest₀ 4 (omega arith))

          -- the code was read before the cursor moved on, the literal after
          pub split : {code l y : ℕ} → y ≡ lit_at (tail w') q → Coded (t (lit_at r q / 2)) (S q) code
              → (code / 1024 % 8 / 2 < length (operands (t (y / 2)))) × (l ≡ chosen (t (y / 2)) (code / 1024 % 8) → Moved t n goals w w' m (Split l))
          split {code} {l} {y} u v =
              let s = f.here i in
              let y' : y ≡ lit_at r q = u ∙ rest₀ (trail_at + (literals_at + q)) (omega arith) in
              let d = v.unmet_literal s in
              let n = none-sofar t goals G r is_open q no-open-goal closed-before in
              let o = found-position t goals G r is_open q (r 0) i n s in (
                rw y' d.0,
                λ k. record {
                  is =
                      ap Split (k ∙ ap (λ (a : ℕ). chosen (t (a / 2)) (code / 1024 % 8)) y' ∙ d.1 ∙ sym o.2)
                      ∙ sym (move-split (C (r 0)) (all-free t goals w position-free (without z₀)) no_unit o.0) ∙ move-is t goals w;
                  holds_on = on;
                  list = on_list;
                  kept = tt;
                },
              )

  -- the unit that was picked is the next move, on the clause that is kept
  pub unit_on : {u : ℕ} → Picked w m u → On t goals w (u / 65536) (u / 4096 % 16) (Single (base_of r (u / 65536) + u / 4096 % 16) (u % 4096))
  unit_on {u} p =
      let j : code_at r (u / 65536) / 4096 ≡ u / 4096 % 16 = omega (arith, p.kept) in
      let l : code_at r (u / 65536) % 4096 ≡ u % 4096 = omega (arith, p.kept) in
      record {
        held = unit-low p.free p.waiting p.first;
        column = omega (arith, j, unit-column p.free p.waiting p.first);
        next = unit-next p.free p.waiting p.first ∙ single_same (ap (base_of r (u / 65536) +◌) j) l;
      }

  pub picked_next : {u : ℕ} → Picked w m u → (k : ℕ) × (move (expand t) goals G ≡ Single k (u % 4096))
  picked_next p = (_, (unit_on p).next)
