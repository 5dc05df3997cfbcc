-- U, R, E, C and S: each test of the code is a condition of the rule, in turn, and past them the rule runs. Assumes nothing.
use mathlib.Core.Path.{◌≡◌, refl, sym, ap, ◌∙◌, subst}
use mathlib.Core.Bool.{Bool, true, false, not, ◌&&◌, false≢true}
use mathlib.Core.List.{List, ◌∷◌, map}
use Prim.Native.Nat.{ℕ, suc, ◌+◌, ◌-◌, ◌*◌, ◌<◌, ◌≤◌}
use native.Mathlib.Omega.{arith}
use lib.Dec.{eqb, ltb}
use lib.ListN.{length, get_or}
use borrow.Author.Tests.{eq-eqb, ne_eqb, lt-ltb, le-ltb}
use Rattle.scope.proofs.Tests.{by_test}
use Rattle.scope.specs.declared.Node.{Node}
use Rattle.scope.specs.Outcome.{answer, ◌>>◌, ◌>>=◌}
use Rattle.calculus.specs.Expansion.{neg, expand}
use Rattle.calculus.specs.Order.{value_of}
use Rattle.calculus.specs.Model.{Table, Fresh}
use Rattle.rules.specs.Rules.{among, is_fails, is_undecided, Branch, join, strike_clause, strike_literal, any_holds, running, turn, only, given, clause_at, stands, left, rule_u, rule_r, rule_e, rule_c, rule_s}
use Rattle.area.specs.declared.Left.{Left}
use Rattle.area.specs.Area.{area_size, most_nodes, most_clauses, most_slots, whole, clause_count, base_at, slot_at, strike_at, length_at, trail_at, g_of, Trail, value_code, Struck, Saved, stands_in, free_in, only_in, empty_in, left_of, true_from}
use Rattle.area.proofs.Remains.{only_none}
use Rattle.branch.specs.Holds.{Held, Joined}
use Rattle.branch.proofs.Scans.{true_open}
use Rattle.replay.specs.declared.Status.{Status}
use Rattle.replay.specs.declared.Status.TheVariants.{Running, Failed}
use Rattle.replay.specs.Ruled.{Rule, Ruled}
use Rattle.replay.proofs.Told.{Told, free_is, push_ready, slot_literal, undecided_told, stands-told, number_of, left-told, true-told, past-told, there-told, unstruck-told, fails-told}
use Rattle.replay.proofs.Ruled.{fails, passes, lacks, takes, Moves, moves-run, moves-held, moves-list, moves-then, joined-moves, whole-moves, part-moves, left-count, left-literal, left_open, open_below, split_runs}

module _ (t : ℕ → Node) (n : ℕ) (w : List ℕ) (few : n ≤ most_nodes) (k : ℕ) where
  abbrev up : List ℕ → Branch → Bool
  up goals b = stands (expand t) goals n b k

  abbrev rest : List ℕ → Branch → List ℕ
  rest goals b = left (expand t) goals n b k

  -- what each rule asks once the clause stands
  abbrev joins : ℕ → Rule
  joins l goals b ws = given (is_undecided (value_of b.G l)) >> answer (running (strike_clause k (join l b)) ws)

  abbrev unit : Rule
  unit goals b ws = only (rest goals b) >>= λ l. joins l goals b ws

  abbrev removed : ℕ → Rule
  removed p goals b ws = answer (running (strike_literal (record { clause = k; position = p }) b) ws)

  abbrev failing : ℕ → Rule
  failing p goals b ws = given (is_fails (value_of b.G (get_or (clause_at (expand t) goals n b k) p 0))) >> removed p goals b ws

  abbrev unstruck_then : ℕ → Rule
  unstruck_then p goals b ws = given (not (among (record { clause = k; position = p }) b.struck_literals)) >> failing p goals b ws

  abbrev removes : ℕ → Rule
  removes p goals b ws = given (ltb p (length (clause_at (expand t) goals n b k))) >> unstruck_then p goals b ws

  abbrev met : Rule
  met goals b ws = given (any_holds b.G (rest goals b)) >> answer (running (strike_clause k b) ws)

  abbrev closes : Rule
  closes goals b ws = given (eqb (length (rest goals b)) 0) >> answer (turn ws)

  -- the clause does not stand
  module _ (z : stands_in w k ≡ false) where
    u-falls : Ruled t n (λ goals. rule_u (expand t) goals n k) w w Failed
    unfolding rule_u
    u-falls = fails t n w up unit (stands-told t n w few k (sym z))

    pub r-falls : (p : ℕ) → Ruled t n (λ goals. rule_r (expand t) goals n p k) w w Failed
    unfolding rule_r
    r-falls p = fails t n w up (removes p) (stands-told t n w few k (sym z))

    pub e-falls : Ruled t n (λ goals. rule_e (expand t) goals n k) w w Failed
    unfolding rule_e
    e-falls = fails t n w up met (stands-told t n w few k (sym z))

    c-falls : Ruled t n (λ goals. rule_c (expand t) goals n k) w w Failed
    unfolding rule_c
    c-falls = fails t n w up closes (stands-told t n w few k (sym z))

  -- it stands
  module _ (st : stands_in w k ≡ true) where
    -- ---- U

    module _ {x : Left} (e : x ≡ left_of (free_in w k)) where
      u-lacks : (x.count ≡ 1 → ⊥) → Ruled t n (λ goals. rule_u (expand t) goals n k) w w Failed
      unfolding rule_u
      u-lacks z =
          passes t n w up unit w Failed (stands-told t n w few k (sym st))
          (lacks t n w rest joins (map (slot_at w) (free_in w k)) (left-told t n w few k st) (λ q. z (sym (left-count w k e) ∙ q)))

      module _ (o : x.count ≡ 1) {l v : ℕ} (q : l ≡ slot_at w x.first) (f : v ≡ value_code (value_of (g_of w) l)) where
        pub u-refuses : (v ≡ 0 → ⊥) → Ruled t n (λ goals. rule_u (expand t) goals n k) w w Failed
        unfolding rule_u
        u-refuses z =
            passes t n w up unit w Failed (stands-told t n w few k (sym st))
            (takes t n w rest joins l w Failed (λ goals s h. left-told t n w few k st goals s h ∙ left-literal w k e o q)
            (fails t n w (λ goals b. is_undecided (value_of b.G l)) (λ goals b ws. answer (running (strike_clause k (join l b)) ws))
            (undecided_told t n w l f (ne_eqb v 0 z))))

        module _ (z : v ≡ 0) {w₁ : List ℕ} (p : Struck whole x.first w w₁) where
          pub u-ready : (H : Held t n w) → Table n t
              → (area_size ≤ length w₁) × (((clause_count w₁ + 3 ≤ most_clauses) × (base_at w₁ (clause_count w₁) + 4 ≤ most_slots))
              × (Trail n (trail_at w₁) × Fresh n (g_of w₁) l))
          u-ready H T =
              let m = whole-moves t n few w w₁ k x.first st (left_open w k e o) p in
              let b : slot_at w x.first < 2 * n = slot_literal few H T k (number_of t n w few k st) x.first
              (open_below few H k (number_of t n w few k st) (left_open w k e o)).1 in
              push_ready few (moves-held t n (strike_clause k) w w₁ m H)
              (subst (λ (G : List ℕ). Fresh n G l) (sym (moves-list t n (strike_clause k) w w₁ m (λ b. refl) H))
              (free_is n l (g_of w) (omega (arith, b, q)) f z))

          pub u-runs : {w₂ : List ℕ} → Joined t n l w₁ w₂ → Ruled t n (λ goals. rule_u (expand t) goals n k) w w₂ Running
          unfolding rule_u
          u-runs {w₂} j =
              passes t n w up unit w₂ Running (stands-told t n w few k (sym st))
              (takes t n w rest joins l w₂ Running (λ goals s h. left-told t n w few k st goals s h ∙ left-literal w k e o q)
              (passes t n w (λ goals b. is_undecided (value_of b.G l)) (λ goals b ws. answer (running (strike_clause k (join l b)) ws)) w₂ Running
              (undecided_told t n w l f (eq-eqb v 0 z))
              (moves-run t n (λ b. strike_clause k (join l b)) w w₂
              (moves-then t n (strike_clause k) w w₁ (whole-moves t n few w w₁ k x.first st (left_open w k e o) p) (join l) w₂
              (joined-moves t n few l w₁ w₂ j)))))

      -- the slot that is left, and its literal
      pub left_below : (H : Held t n w) → Table n t → x.count ≡ 1 → (x.first < most_slots) × (slot_at w x.first < 2 * n) × (strike_at w x.first ≡ 0)
      left_below H T o =
          let b = open_below few H k (number_of t n w few k st) (left_open w k e o) in
          (b.0, slot_literal few H T k (number_of t n w few k st) x.first b.1, (left_open w k e o).2)

    -- ---- C

    none_told : {b : Bool} → eqb (length (free_in w k)) 0 ≡ b → Told t n w (λ goals b. eqb (length (rest goals b)) 0) b
    none_told z goals s h = ap (λ (ls : List ℕ). eqb (length ls) 0) (left-told t n w few k st goals s h) ∙ ap (λ (m : ℕ). eqb m 0) (left-count w k refl) ∙ z

    c-lacks : eqb (length (free_in w k)) 0 ≡ false → Ruled t n (λ goals. rule_c (expand t) goals n k) w w Failed
    unfolding rule_c
    c-lacks z =
        passes t n w up closes w Failed (stands-told t n w few k (sym st))
        (fails t n w (λ goals b. eqb (length (rest goals b)) 0) (λ goals b ws. answer (turn ws)) (none_told z))

    c-closes : (w' : List ℕ) (r : Status) → eqb (length (free_in w k)) 0 ≡ true → Ruled t n (λ goals b ws. answer (turn ws)) w w' r
        → Ruled t n (λ goals. rule_c (expand t) goals n k) w w' r
    unfolding rule_c
    c-closes w' r z R =
        passes t n w up closes w' r (stands-told t n w few k (sym st))
        (passes t n w (λ goals b. eqb (length (rest goals b)) 0) (λ goals b ws. answer (turn ws)) w' r (none_told z) R)

    -- ---- E

    pub e-lacks : 0 ≡ true_from w (base_at w k) (length_at w k) → Ruled t n (λ goals. rule_e (expand t) goals n k) w w Failed
    unfolding rule_e
    e-lacks e =
        passes t n w up met w Failed (stands-told t n w few k (sym st))
        (fails t n w (λ goals b. any_holds b.G (rest goals b)) (λ goals b ws. answer (running (strike_clause k b) ws)) (true-told t n w few k st e refl))

    module _ {s : ℕ} (e : suc s ≡ true_from w (base_at w k) (length_at w k)) where
      pub true_below : (H : Held t n w) → (s < most_slots) × (strike_at w s ≡ 0)
      true_below H =
          let o = true_open w (base_at w k) (length_at w k) e in
          ((open_below few H k (number_of t n w few k st) o).0, o.2)

      pub e-runs : {w₁ : List ℕ} → Struck whole s w w₁ → Ruled t n (λ goals. rule_e (expand t) goals n k) w w₁ Running
      unfolding rule_e
      e-runs {w₁} p =
          passes t n w up met w₁ Running (stands-told t n w few k (sym st))
          (passes t n w (λ goals b. any_holds b.G (rest goals b)) (λ goals b ws. answer (running (strike_clause k b) ws)) w₁ Running
          (true-told t n w few k st e (ap not (ne_eqb (suc s) 0 (λ q. omega (arith, q)))))
          (moves-run t n (strike_clause k) w w₁ (whole-moves t n few w w₁ k s st (true_open w (base_at w k) (length_at w k) e) p)))

    -- ---- R

    module _ (p : ℕ) where
      pub r-past : length_at w k ≤ p → Ruled t n (λ goals. rule_r (expand t) goals n p k) w w Failed
      unfolding rule_r
      r-past b =
          passes t n w up (removes p) w Failed (stands-told t n w few k (sym st))
          (fails t n w (λ goals b. ltb p (length (clause_at (expand t) goals n b k))) (unstruck_then p) (past-told t n w few k st p b))

      module _ (b : p < length_at w k) where
        there : (w' : List ℕ) (r : Status) → Ruled t n (unstruck_then p) w w' r → Ruled t n (λ goals. rule_r (expand t) goals n p k) w w' r
        unfolding rule_r
        there w' r R =
            passes t n w up (removes p) w' r (stands-told t n w few k (sym st))
            (passes t n w (λ goals b. ltb p (length (clause_at (expand t) goals n b k))) (unstruck_then p) w' r (there-told t n w few k st p b) R)

        module _ {v : ℕ} (e : v ≡ strike_at w (base_at w k + p)) where
          pub r-struck : (v ≡ 0 → ⊥) → Ruled t n (λ goals. rule_r (expand t) goals n p k) w w Failed
          r-struck z =
              there w Failed
              (fails t n w (λ goals b. not (among (record { clause = k; position = p }) b.struck_literals)) (failing p)
              (unstruck-told t n w few k st p b e (ne_eqb v 0 z)))

          module _ (z : v ≡ 0) {l u : ℕ} (g : l ≡ slot_at w (base_at w k + p)) (f : u ≡ value_code (value_of (g_of w) l)) where
            free : (w' : List ℕ) (r : Status) → Ruled t n (failing p) w w' r → Ruled t n (λ goals. rule_r (expand t) goals n p k) w w' r
            free w' r R =
                there w' r
                (passes t n w (λ goals b. not (among (record { clause = k; position = p }) b.struck_literals)) (failing p) w' r
                (unstruck-told t n w few k st p b e (eq-eqb v 0 z)) R)

            pub r-refuses : (u ≡ 2 → ⊥) → Ruled t n (λ goals. rule_r (expand t) goals n p k) w w Failed
            r-refuses y =
                free w Failed
                (fails t n w (λ goals b. is_fails (value_of b.G (get_or (clause_at (expand t) goals n b k) p 0))) (removed p)
                (fails-told t n w few k st p b g f (ne_eqb u 2 y)))

            pub r-runs : {w₁ : List ℕ} → u ≡ 2 → Struck 0 (base_at w k + p) w w₁ → Ruled t n (λ goals. rule_r (expand t) goals n p k) w w₁ Running
            r-runs {w₁} y q =
                free w₁ Running
                (passes t n w (λ goals b. is_fails (value_of b.G (get_or (clause_at (expand t) goals n b k) p 0))) (removed p) w₁ Running
                (fails-told t n w few k st p b g f (eq-eqb u 2 y))
                (moves-run t n (strike_literal (record { clause = k; position = p })) w w₁
                (subst (λ (i : ℕ). Moves t n (strike_literal (record { clause = k; position = i })) w w₁) at
                (part-moves t n few w w₁ k (base_at w k + p) st (omega arith, omega (arith, b), sym e ∙ z) q))))
              where
                at : base_at w k + p - base_at w k ≡ p
                at = omega arith

-- ---- S

-- ---- U and C, where the clause may not stand

module _ (t : ℕ → Node) (n : ℕ) (w : List ℕ) (few : n ≤ most_nodes) (k : ℕ) where
  pub u_none : 0 ≡ only_in w k → Ruled t n (λ goals. rule_u (expand t) goals n k) w w Failed
  u_none e = by_test (stands_in w k) (λ y. u-lacks t n w few k y refl (only_none w k e y)) (u-falls t n w few k)

  pub c_refuses : empty_in w k ≡ false → Ruled t n (λ goals. rule_c (expand t) goals n k) w w Failed
  c_refuses z = by_test (stands_in w k) (λ y. c-lacks t n w few k y (sym (ap (◌&& eqb (length (free_in w k)) 0) y) ∙ z)) (c-falls t n w few k)

  pub c_turns : (w' : List ℕ) (r : Status) → empty_in w k ≡ true → Ruled t n (λ goals b ws. answer (turn ws)) w w' r
      → Ruled t n (λ goals. rule_c (expand t) goals n k) w w' r
  c_turns w' r z R = by_test (stands_in w k) (λ y. c-closes t n w few k y w' r (sym (ap (◌&& eqb (length (free_in w k)) 0) y) ∙ z) R)
      (λ y. absurd (false≢true (sym (ap (◌&& eqb (length (free_in w k)) 0) y) ∙ z)))

module _ (t : ℕ → Node) (n : ℕ) (w : List ℕ) (few : n ≤ most_nodes) (l : ℕ) where
  abbrev splits : Rule
  splits goals b ws = given (is_undecided (value_of b.G l)) >> answer (running (join l b) (join (neg l) b ∷ ws))

  pub s_past : 2 * n ≤ l → Ruled t n (λ goals. rule_s (expand t) goals n l) w w Failed
  unfolding rule_s
  s_past b = fails t n w (λ goals b. ltb l (2 * n)) splits (λ goals s h. le-ltb l (2 * n) b)

  module _ {v : ℕ} (b : l < 2 * n) (e : v ≡ value_code (value_of (g_of w) l)) where
    pub s-refuses : (v ≡ 0 → ⊥) → Ruled t n (λ goals. rule_s (expand t) goals n l) w w Failed
    unfolding rule_s
    s-refuses z =
        passes t n w (λ goals b. ltb l (2 * n)) splits w Failed (λ goals s h. lt-ltb l (2 * n) b)
        (fails t n w (λ goals b. is_undecided (value_of b.G l)) (λ goals b ws. answer (running (join l b) (join (neg l) b ∷ ws)))
        (undecided_told t n w l e (ne_eqb v 0 z)))

    pub s-runs : {w₁ w₂ : List ℕ} → Held t n w → v ≡ 0 → Saved w w₁ → Joined t n l w₁ w₂ → Ruled t n (λ goals. rule_s (expand t) goals n l) w w₂ Running
    unfolding rule_s
    s-runs {w₁} {w₂} H z p j =
        passes t n w (λ goals b. ltb l (2 * n)) splits w₂ Running (λ goals s h. lt-ltb l (2 * n) b)
        (passes t n w (λ goals b. is_undecided (value_of b.G l)) (λ goals b ws. answer (running (join l b) (join (neg l) b ∷ ws))) w₂ Running
        (undecided_told t n w l e (eq-eqb v 0 z)) (split_runs t n w few l H (free_is n l (g_of w) b e z) p j))
