-- U and C of version two: each test of the code is a condition of the rule, and past them the rule runs. Assumes nothing.
use mathlib.Core.Path.{◌≡◌, refl, sym, ap, ◌∙◌, subst}
use mathlib.Core.Bool.{Bool, true, false}
use mathlib.Core.List.{List, []}
use Prim.Native.Nat.{ℕ, ◌+◌, ◌*◌, ◌<◌, ◌≤◌}
use native.Mathlib.Omega.{arith}
use lib.ListN.{length}
use borrow.Author.Tests.{eq-eqb, ne_eqb, lt-ltb, le-ltb}
use Rattle.scope.specs.declared.Node.{Node}
use Rattle.scope.specs.Outcome.{Outcome, answer, refused, ◌>>◌, ◌>>=◌}
use Rattle.calculus.specs.Expansion.{expand}
use Rattle.calculus.specs.Order.{State, empty, one, is_empty as are_all_false, state_of, clauses}
use Rattle.calculus.specs.Model.{Table, Below, Fresh}
use Rattle.calculus.proofs.Lists.{all_get_d}
use Rattle.calculus.proofs.Fresh.{clauses-below}
use Rattle.rules.specs.declared.Step.{Step}
use Rattle.rules.specs.Rules.{Branch, join, Progress, running, turn, the_one, given, clause_at, in_list, rule_s, unit_two, conflict_two, apply_two}
use Rattle.area.specs.Area.{area_size, most_nodes, most_clauses, most_slots, clause_count, base_at, trail_at, g_of, Trail}
use Rattle.seen.specs.Seen.{state_in, seen_of}
use Rattle.seen.specs.declared.Seen.{Seen}
use Rattle.seen.specs.declared.Seen.TheVariants.{Met, Empty, One, Many}
use Rattle.seen.proofs.States.{one-says}
use Rattle.branch.specs.Holds.{branch_of, waiting_of, Held, Joined}
use Rattle.replay.specs.declared.Status.{Status}
use Rattle.replay.specs.declared.Status.TheVariants.{Running, Failed}
use Rattle.replay.specs.Ruled.{Says, Rule, Ruled}
use Rattle.replay.proofs.Told.{Told, push_ready, listed-told, state-told}
use Rattle.replay.proofs.Ruled.{fails, passes, moves-run, joined-moves}

module _ (t : ℕ → Node) (n : ℕ) (w : List ℕ) (few : n ≤ most_nodes) (k : ℕ) where
  abbrev listed : List ℕ → Branch → Bool
  listed goals b = in_list (expand t) goals n b k

  abbrev stated : List ℕ → Branch → State
  stated goals b = state_of b.G (clause_at (expand t) goals n b k)

  abbrev joins : Rule
  joins goals b ws = the_one (stated goals b) >>= λ l. answer (running (join l b) ws)

  abbrev closes : Rule
  closes goals b ws = given (are_all_false (stated goals b)) >> answer (turn ws)

  -- the clause is not in the list
  module _ (z : clause_count w ≤ k) where
    out : Told t n w listed false
    out = listed-told t n w few k (sym (le-ltb k (clause_count w) z))

    pub unit-out : Ruled t n (λ goals. unit_two (expand t) goals n k) w w Failed
    unfolding unit_two
    unit-out = fails t n w listed joins out

    pub conflict-out : Ruled t n (λ goals. conflict_two (expand t) goals n k) w w Failed
    unfolding conflict_two
    conflict-out = fails t n w listed closes out

  -- it is, and what it is was seen
  module _ (num : k < clause_count w) {x : State} (e : x ≡ state_in w k) where
    inside : Told t n w listed true
    inside = listed-told t n w few k (sym (lt-ltb k (clause_count w) num))

    told : Told t n w stated x
    told goals s h = state-told t n w few k num goals s h ∙ sym e

    -- ---- U

    pub unit-fails : the_one x ≡ refused 45 0 → Ruled t n (λ goals. unit_two (expand t) goals n k) w w Failed
    unfolding unit_two
    unit-fails q =
        passes t n w listed joins w Failed inside
        (λ goals s h. ap (λ (o : Outcome ℕ). o >>= λ l. answer (running (join l (branch_of w s)) (waiting_of w s))) (ap the_one (told goals s h) ∙ q))

    module _ {l : ℕ} (q : x ≡ one l) where
      pub unit-ready : (H : Held t n w) → Table n t
          → (area_size ≤ length w) × (((clause_count w + 3 ≤ most_clauses) × (base_at w (clause_count w) + 4 ≤ most_slots))
          × (Trail n (trail_at w) × Fresh n (g_of w) l))
      unit-ready H T =
          let b = H.2.base in
          let below : Below n (clause_at (expand t) H.0 n (branch_of w H.1) k) =
          all_get_d (Below n) (clauses (expand t) H.0 (g_of w)) k [] tt (clauses-below n t T H.0 b.aims.below (g_of w) b.trail.good) in
          push_ready few H (one-says (λ (m : ℕ). m < 2 * n) (g_of w) (clause_at (expand t) H.0 n (branch_of w H.1) k) l below (told H.0 H.1 H.2 ∙ q))

      pub unit_runs : {w' : List ℕ} → Joined t n l w w' → Ruled t n (λ goals. unit_two (expand t) goals n k) w w' Running
      unfolding unit_two
      unit_runs {w'} j =
          passes t n w listed joins w' Running inside
          (λ goals s h.
          subst (λ (o : Outcome Progress). Says t n goals w' o Running)
          (sym (ap (λ (y : State). the_one y >>= λ m. answer (running (join m (branch_of w s)) (waiting_of w s))) (told goals s h ∙ q)))
          (moves-run t n (join l) w w' (joined-moves t n few l w w' j) goals s h))

    -- ---- C

    pub conflict-fails : are_all_false x ≡ false → Ruled t n (λ goals. conflict_two (expand t) goals n k) w w Failed
    unfolding conflict_two
    conflict-fails q =
        passes t n w listed closes w Failed inside
        (fails t n w (λ goals b. are_all_false (stated goals b)) (λ goals b ws. answer (turn ws)) (λ goals s h. ap are_all_false (told goals s h) ∙ q))

    pub conflict-turns : (w' : List ℕ) (r : Status) → x ≡ empty → Ruled t n (λ goals b ws. answer (turn ws)) w w' r
        → Ruled t n (λ goals. conflict_two (expand t) goals n k) w w' r
    unfolding conflict_two
    conflict-turns w' r q R =
        passes t n w listed closes w' r inside
        (passes t n w (λ goals b. are_all_false (stated goals b)) (λ goals b ws. answer (turn ws)) w' r (λ goals s h. ap are_all_false (told goals s h ∙ q)) R)

-- what was seen is not one literal, and not that all are false
pub not_one : (r : Seen) → ((l : ℕ) → r ≡ One l → ⊥) → the_one (seen_of r) ≡ refused 45 0
not_one Met h = refl
not_one Empty h = refl
not_one (One l) h = absurd (h l refl)
not_one (Many l) h = refl

pub not_empty : (r : Seen) → (r ≡ Empty → ⊥) → are_all_false (seen_of r) ≡ false
not_empty Met h = refl
not_empty Empty h = absurd (h refl)
not_empty (One l) h = refl
not_empty (Many l) h = refl

-- ---- the rule of a step's letter

module _ (e : ℕ → List (List ℕ)) (n : ℕ) (s : Step) where
  pub two_u : s.rule ≡ 85 → (goals : List ℕ) (b : Branch) (ws : List Branch) → apply_two e goals n s b ws ≡ unit_two e goals n s.value b ws
  unfolding apply_two
  two_u p goals b ws = simp (eq-eqb s.rule 85 p)

  pub two_c : s.rule ≡ 67 → (goals : List ℕ) (b : Branch) (ws : List Branch) → apply_two e goals n s b ws ≡ conflict_two e goals n s.value b ws
  unfolding apply_two
  two_c q goals b ws = simp (ne_eqb s.rule 85 (λ p. omega (arith, p, q)), eq-eqb s.rule 67 q)

  pub two_s : s.rule ≡ 83 → (goals : List ℕ) (b : Branch) (ws : List Branch) → apply_two e goals n s b ws ≡ rule_s e goals n s.value b ws
  unfolding apply_two
  two_s r goals b ws = simp (ne_eqb s.rule 85 (λ p. omega (arith, p, r)), ne_eqb s.rule 67 (λ p. omega (arith, p, r)), eq-eqb s.rule 83 r)

  pub two_none : (s.rule ≡ 85 → ⊥) → (s.rule ≡ 67 → ⊥) → (s.rule ≡ 83 → ⊥) → (goals : List ℕ) (b : Branch) (ws : List Branch)
      → apply_two e goals n s b ws ≡ refused 45 0
  unfolding apply_two
  two_none p q r goals b ws = simp (ne_eqb s.rule 85 p, ne_eqb s.rule 67 q, ne_eqb s.rule 83 r)
