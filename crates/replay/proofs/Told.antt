-- What is read of a clause is what the rules ask, whatever history the work area holds; and what may be read. Assumes nothing.
use mathlib.Core.Path.{◌≡◌, refl, sym, ap, ◌∙◌, subst}
use mathlib.Core.Bool.{Bool, true, false, not, ◌&&◌}
use mathlib.Core.List.{List, [], map}
use Prim.Native.Nat.{ℕ, suc, ◌+◌, ◌*◌, ◌<◌, ◌≤◌}
use native.Mathlib.Omega.{arith}
use native.Mathlib.Nat.{zero-add}
use native.Mathlib.Decide.{dec_lt}
use lib.Dec.{eqb, ltb}
use lib.ListN.{length, get_or}
use lib.Seq.{ext_get_or}
use borrow.Author.Tests.{lt-ltb, le-ltb, ltb-true}
use Rattle.scope.specs.declared.Node.{Node}
use Rattle.scope.proofs.Lists.{length_list_from, get_d_list_from}
use Rattle.scope.proofs.Tests.{and_left, and_right}
use Rattle.calculus.specs.Expansion.{expand}
use Rattle.trail.proofs.Codes.{code_undecided}
use Rattle.calculus.specs.Order.{Value, holds, fails, undecided, value_of, mem, state_of}
use Rattle.calculus.specs.Model.{Table, Fresh}
use Rattle.calculus.proofs.Lists.{all_at}
use Rattle.calculus.proofs.Fresh.{clauses-below}
use Rattle.rules.specs.Rules.{among, is_fails, is_undecided, Branch, any_holds, clause_at, stands, left, in_list}
use Rattle.area.specs.Area.{area_size, most_nodes, most_clauses, most_slots, clause_count, depth, newest, base_at, slot_at, strike_at, length_at, trail_at, g_of, value_code, Trail, Ranged, whole_in, stands_in, free_from, free_in, true_from}
use Rattle.area.proofs.Strikes.{head_most}
use Rattle.seen.specs.Seen.{literals_from, state_in}
use Rattle.branch.specs.Clauses.{flat, offset}
use Rattle.branch.specs.Holds.{clauses_in, slot_of, History, branch_of, clauses_of, Holds, Held}
use Rattle.branch.proofs.Offsets.{offset_most, flat-at}
use Rattle.branch.proofs.Appends.{all_flat}
use Rattle.branch.proofs.Scans.{whole_is, struck-is, left-from, true-is}
use Rattle.branch.proofs.Marks.{slot_below}
use Rattle.branch.proofs.Branches.{slots_fit, base_is, length-is, ranged, depth_low, push_room}

-- ---- values as numbers

is_undecided_lem : (v : Value) → is_undecided v ≡ eqb (value_code v) 0
is_undecided_lem holds = refl
is_undecided_lem fails = refl
is_undecided_lem undecided = refl

is_fails_lem : (v : Value) → is_fails v ≡ eqb (value_code v) 2
is_fails_lem holds = refl
is_fails_lem fails = refl
is_fails_lem undecided = refl

pub free_is : (n l : ℕ) (G : List ℕ) {v : ℕ} → l < 2 * n → v ≡ value_code (value_of G l) → v ≡ 0 → Fresh n G l
free_is n l G b e z = (b, code_undecided (value_of G l) (sym e ∙ z))

-- ---- what may be read

module _ {t : ℕ → Node} {n : ℕ} {w : List ℕ} (few : n ≤ most_nodes) (H : Held t n w) where
  pub size_of : area_size ≤ length w
  size_of = H.2.base.size

  pub trail_of : Trail n (trail_at w)
  trail_of = H.2.base.trail

  pub ranged_of : Ranged w
  ranged_of = ranged t n H.0 w few H.2.base

  pub newest_of : newest w ≤ most_slots
  newest_of = head_most w (map (slot_of (clauses_of t H.0 w)) H.1.strikes) H.2.marked.chained

  pub depth_of : depth w ≤ trail_at w 0
  depth_of = omega (arith, H.2.depths, depth_low t n H.0 w few H.1 H.2)

  -- a literal may join
  pub push_ready : {l : ℕ} → Fresh n (g_of w) l
      → (area_size ≤ length w) × (((clause_count w + 3 ≤ most_clauses) × (base_at w (clause_count w) + 4 ≤ most_slots)) × (Trail n (trail_at w) × Fresh n
      (g_of w) l))
  push_ready {l} f = (size_of, (push_room t n H.0 w few H.2.base f, (trail_of, f)))

  -- the literals in a clause's slots are those of the nodes
  pub slot_literal : Table n t → (k : ℕ) → k < clause_count w → (s : ℕ) → s < base_at w (k + 1) → slot_at w s < 2 * n
  slot_literal T k b s i =
      let c : k < length (clauses_of t H.0 w) = omega (arith, b, H.2.base.listed.count) in
      let z : k + 1 ≡ suc k = omega arith in
      let j : s < length (flat (clauses_of t H.0 w)) =
      omega (arith, i, H.2.base.listed.bases (k + 1) (omega (arith, c)), ap (offset (clauses_of t H.0 w)) z, offset_most (clauses_of t H.0 w) (suc k)) in
      subst (λ (l : ℕ). l < 2 * n) (sym (H.2.base.listed.slots s j))
      (all_at (λ (l : ℕ). l < 2 * n) (flat (clauses_of t H.0 w)) s 0
      (all_flat (λ (l : ℕ). l < 2 * n) (clauses_of t H.0 w) (clauses-below n t T H.0 H.2.base.aims.below (g_of w) H.2.base.trail.good)) j)

-- ---- what is told

not-not : (b : Bool) → not (not b) ≡ b
not-not true = refl
not-not false = refl

module _ (t : ℕ → Node) (n : ℕ) (w : List ℕ) where
  -- what a function of the open branch is, whatever the history
  abbrev pub Told : {A : Type 0} → (List ℕ → Branch → A) → A → Type 0
  Told f r = (goals : List ℕ) (s : History) → Holds t n goals w s → f goals (branch_of w s) ≡ r

  pub undecided_told : (l : ℕ) {v : ℕ} {r : Bool} → v ≡ value_code (value_of (g_of w) l) → eqb v 0 ≡ r → Told (λ goals b. is_undecided (value_of b.G l)) r
  undecided_told l e q goals s h = is_undecided_lem (value_of (g_of w) l) ∙ ap (λ (c : ℕ). eqb c 0) (sym e) ∙ q

  module _ (few : n ≤ most_nodes) (k : ℕ) where
    in_list_lem : stands_in w k ≡ true → k < clause_count w
    in_list_lem e = ltb-true k (clause_count w) (and_left (ltb k (clause_count w)) (not (whole_in w (base_at w k) (length_at w k))) e)

    pub stands-told : {r : Bool} → r ≡ stands_in w k → Told (λ goals b. stands (expand t) goals n b k) r
    stands-told {r} e goals s h = go (dec_lt k (clause_count w))
      where
        go : Dec (k < clause_count w) → (ltb k (length (clauses_of t goals w)) && not (mem k (clauses_in s.strikes))) ≡ r
        go (yes i) =
            let c : k < length (clauses_of t goals w) = omega (arith, i, h.base.listed.count) in
            let p : whole_in w (base_at w k) (length_at w k) ≡ mem k (clauses_in s.strikes) =
            ap (λ (b : ℕ). whole_in w b (length_at w k)) (base_is t n goals w few h.base k c)
            ∙ ap (whole_in w (offset (clauses_of t goals w) k)) (length-is t n goals w few h.base k c)
            ∙ whole_is (clauses_of t goals w) w s.strikes (slots_fit t n goals w few h.base) h.marked k c in
            sym (e ∙ ap (λ (b : Bool). ltb k (clause_count w) && not b) p ∙ ap (λ (m : ℕ). ltb k m && not (mem k (clauses_in s.strikes))) h.base.listed.count)
        go (no i) =
            let p : ltb k (length (clauses_of t goals w)) ≡ false = le-ltb k (length (clauses_of t goals w)) (omega (arith, i, h.base.listed.count)) in
            let q : ltb k (clause_count w) ≡ false = le-ltb k (clause_count w) (omega (arith, i)) in
            ap (◌&& not (mem k (clauses_in s.strikes))) p ∙ sym (e ∙ ap (◌&& not (whole_in w (base_at w k) (length_at w k))) q)

    -- a clause in the list
    pub listed-told : {r : Bool} → r ≡ ltb k (clause_count w) → Told (λ goals b. in_list (expand t) goals n b k) r
    listed-told {r} e goals s h = ap (ltb k) (sym h.base.listed.count) ∙ sym e

    module _ (num : k < clause_count w) where
      module _ (goals : List ℕ) (s : History) (h : Holds t n goals w s) where
        in-clauses : k < length (clauses_of t goals w)
        in-clauses = omega (arith, num, h.base.listed.count)

        clause-length : length (clause_at (expand t) goals n (branch_of w s) k) ≡ length_at w k
        clause-length = sym (length-is t n goals w few h.base k in-clauses)

        -- its literal at a position
        clause-literal : (p : ℕ) → p < length_at w k → get_or (clause_at (expand t) goals n (branch_of w s) k) p 0 ≡ slot_at w (base_at w k + p)
        clause-literal p b =
            let low : p < length (get_or (clauses_of t goals w) k []) = omega (arith, b, length-is t n goals w few h.base k in-clauses) in
            sym (ap (λ (x : ℕ). slot_at w (x + p)) (base_is t n goals w few h.base k in-clauses)
            ∙ h.base.listed.slots (offset (clauses_of t goals w) k + p) (slot_below (clauses_of t goals w) k p in-clauses low)
            ∙ flat-at (clauses_of t goals w) k p in-clauses low)

      -- its literals, and what it is under G
      clause-told : Told (λ goals b. clause_at (expand t) goals n b k) (literals_from w (base_at w k) (length_at w k))
      clause-told goals s h =
          ext_get_or 0 (clause_at (expand t) goals n (branch_of w s) k) (literals_from w (base_at w k) (length_at w k))
          (clause-length goals s h ∙ sym (length_list_from (slot_at w) (length_at w k) (base_at w k)))
          (λ i b.
          let c : i < length_at w k = omega (arith, b, clause-length goals s h) in
          clause-literal goals s h i c ∙ sym (get_d_list_from (slot_at w) (length_at w k) (base_at w k) i 0 c))

      pub state-told : Told (λ goals b. state_of b.G (clause_at (expand t) goals n b k)) (state_in w k)
      state-told goals s h = ap (state_of (g_of w)) (clause-told goals s h)

    -- a clause that stands
    module _ (st : stands_in w k ≡ true) where
      pub number_of : k < clause_count w
      number_of = in_list_lem st

      not-true : (b : Bool) → not b ≡ true → b ≡ false
      not-true true e = sym e
      not-true false e = refl

      module _ (goals : List ℕ) (s : History) (h : Holds t n goals w s) where
        pub inside : k < length (clauses_of t goals w)
        inside = in-clauses number_of goals s h

        pub length-told : length (clause_at (expand t) goals n (branch_of w s) k) ≡ length_at w k
        length-told = clause-length number_of goals s h

        upright : whole_in w (offset (clauses_of t goals w) k) (length (get_or (clauses_of t goals w) k [])) ≡ false
        upright =
            sym (ap (λ (b : ℕ). whole_in w b (length_at w k)) (base_is t n goals w few h.base k inside) ∙ ap (whole_in w (offset (clauses_of t goals w) k))
            (length-is t n goals w few h.base k inside))
            ∙ not-true (whole_in w (base_at w k) (length_at w k)) (and_right (ltb k (clause_count w)) (not (whole_in w (base_at w k) (length_at w k))) st)

        -- its literal at a position
        module _ (p : ℕ) (b : p < length_at w k) where
          low : p < length (get_or (clauses_of t goals w) k [])
          low = omega (arith, b, length-is t n goals w few h.base k inside)

          pub literal-told : get_or (clause_at (expand t) goals n (branch_of w s) k) p 0 ≡ slot_at w (base_at w k + p)
          literal-told = clause-literal number_of goals s h p b

          pub among-told : among (record { clause = k; position = p }) (branch_of w s).struck_literals ≡ not (eqb (strike_at w (base_at w k + p)) 0)
          among-told =
              struck-is (clauses_of t goals w) w s.strikes (slots_fit t n goals w few h.base) h.marked k inside p low upright
              ∙ ap (λ (x : ℕ). not (eqb (strike_at w (x + p)) 0)) (sym (base_is t n goals w few h.base k inside))

      -- what it has left
      pub left-told : Told (λ goals b. left (expand t) goals n b k) (map (slot_at w) (free_in w k))
      left-told goals s h =
          sym (ap (λ (m : ℕ). map (slot_at w) (free_from w (base_at w k) m)) (length-is t n goals w few h.base k (inside goals s h))
          ∙ left-from w (branch_of w s) k (base_at w k) 0 (get_or (clauses_of t goals w) k [])
          (λ i c. sym (literal-told goals s h i (low i c)))
          (λ i c. ap (λ (q : ℕ). among (record { clause = k; position = q }) (branch_of w s).struck_literals) (zero-add i) ∙ among-told goals s h i (low i c)))
        where
          low : (i : ℕ) → i < length (get_or (clauses_of t goals w) k []) → i < length_at w k
          low i c = omega (arith, c, length-is t n goals w few h.base k (inside goals s h))

      pub true-told : {v : ℕ} {r : Bool} → v ≡ true_from w (base_at w k) (length_at w k) → not (eqb v 0) ≡ r
          → Told (λ goals b. any_holds b.G (left (expand t) goals n b k)) r
      true-told {v} e q goals s h =
          ap (any_holds (g_of w)) (left-told goals s h) ∙ true-is w (base_at w k) (length_at w k) ∙ ap (λ (x : ℕ). not (eqb x 0)) (sym e) ∙ q

      -- R asks of literal p
      module _ (p : ℕ) where
        pub past-told : length_at w k ≤ p → Told (λ goals b. ltb p (length (clause_at (expand t) goals n b k))) false
        past-told b goals s h = le-ltb p (length (clause_at (expand t) goals n (branch_of w s) k)) (omega (arith, b, length-told goals s h))

        module _ (b : p < length_at w k) where
          pub there-told : Told (λ goals b. ltb p (length (clause_at (expand t) goals n b k))) true
          there-told goals s h = lt-ltb p (length (clause_at (expand t) goals n (branch_of w s) k)) (omega (arith, b, length-told goals s h))

          pub unstruck-told : {v : ℕ} {r : Bool} → v ≡ strike_at w (base_at w k + p) → eqb v 0 ≡ r
              → Told (λ goals b. not (among (record { clause = k; position = p }) b.struck_literals)) r
          unstruck-told {v} e q goals s h =
              ap not (among-told goals s h p b) ∙ not-not (eqb (strike_at w (base_at w k + p)) 0) ∙ ap (λ (x : ℕ). eqb x 0) (sym e) ∙ q

          pub fails-told : {l v : ℕ} {r : Bool} → l ≡ slot_at w (base_at w k + p) → v ≡ value_code (value_of (g_of w) l) → eqb v 2 ≡ r
              → Told (λ goals b. is_fails (value_of b.G (get_or (clause_at (expand t) goals n b k) p 0))) r
          fails-told {l} e f q goals s h =
              ap (λ (x : ℕ). is_fails (value_of (g_of w) x)) (literal-told goals s h p b ∙ sym e) ∙ is_fails_lem (value_of (g_of w) l)
              ∙ ap (λ (x : ℕ). eqb x 2) (sym f) ∙ q

-- ---- the slots of a clause that stands

pub record Within (w : List ℕ) (k : ℕ) : Type 0 where
  pub size : area_size ≤ length w
  pub number : k < clause_count w
  pub most : clause_count w ≤ most_clauses
  pub order : base_at w k ≤ base_at w (k + 1)
  pub end : base_at w (k + 1) ≤ most_slots

pub clause_within : {t : ℕ → Node} {n : ℕ} {w : List ℕ} (few : n ≤ most_nodes) (H : Held t n w) {k : ℕ} → stands_in w k ≡ true → Within w k
clause_within {t} {n} {w} few H {k} st =
    let number = number_of t n w few k st in
    let ends = (ranged_of few H).ends k number in
    record { size = size_of few H; number = number; most = (ranged_of few H).count; order = ends.0; end = ends.1 }
