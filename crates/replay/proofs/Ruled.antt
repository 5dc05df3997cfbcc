-- What each rule's function answers: its conditions in turn, and what it leaves. Assumes nothing.
use mathlib.Core.Path.{◌≡◌, refl, sym, ap, ◌∙◌, subst}
use mathlib.Core.Bool.{Bool, true, false}
use mathlib.Core.List.{List, [], ◌∷◌, map}
use Prim.Native.Nat.{ℕ, ◌+◌, ◌-◌, ◌*◌, ◌<◌, ◌≤◌}
use native.Mathlib.Omega.{arith}
use lib.ListN.{length, get_or, length-map}
use borrow.Author.Tests.{eq-eqb, ne_eqb}
use Rattle.scope.specs.declared.Node.{Node}
use Rattle.scope.specs.Outcome.{Outcome, answer, refused, ◌>>◌, ◌>>=◌}
use Rattle.calculus.specs.Expansion.{neg}
use Rattle.calculus.specs.Model.{All, Fresh}
use Rattle.calculus.proofs.Literals.{neg-fresh}
use Rattle.rules.specs.declared.Step.{Step}
use Rattle.rules.specs.Rules.{Branch, join, strike_clause, strike_literal, Progress, running, complete, turn, only, given, rule_u, rule_r, rule_e, rule_c, rule_s, apply}
use Rattle.trail.proofs.Trails.{room_left}
use Rattle.area.specs.declared.Left.{Left}
use Rattle.area.specs.Area.{area_size, most_nodes, most_clauses, most_slots, whole, clause_count, depth, base_at, slot_at, strike_at, length_at, trail_at, held, g_of, Trail, Struck, Saved, stands_in, free_in, left_of}
use Rattle.branch.specs.Clauses.{offset}
use Rattle.branch.specs.Holds.{Strike, strike, Frame, History, history, branch, branch_of, waits, waiting_of, clauses_of, Holds, Held, Joined, Restores}
use Rattle.branch.proofs.Scans.{Open, free_open}
use Rattle.branch.proofs.Branches.{branch_by, push_room, base_is, length-is, joined-holds, joined-branch, joined-waiting, struck-holds, struck-branch, struck-waiting, whole-strike, part-strike}
use Rattle.branch.proofs.Turns.{frame, saved-trail, saved-base, split-holds, split-branch, split-waiting, Opened}
use Rattle.replay.specs.declared.Status.{Status}
use Rattle.replay.specs.declared.Status.TheVariants.{Running, Complete, Failed}
use Rattle.replay.specs.Ruled.{Says, Rule, Ruled}
use Rattle.replay.proofs.Told.{Told, inside, size_of, trail_of, depth_of, ranged_of}

-- ---- a rule's conditions

-- a rule that answers as another does
pub ruled_as : {t : ℕ → Node} {n : ℕ} {w : List ℕ} (w' : List ℕ) (r : Status) (rule other : Rule)
    → ((goals : List ℕ) (b : Branch) (ws : List Branch) → other goals b ws ≡ rule goals b ws) → Ruled t n rule w w' r → Ruled t n other w w' r
ruled_as {t} {n} {w} w' r rule other e R goals s h =
    subst (λ (o : Outcome Progress). Says t n goals w' o r) (sym (e goals (branch_of w s) (waiting_of w s))) (R goals s h)

module _ (t : ℕ → Node) (n : ℕ) (w : List ℕ) where
  -- a condition, and then the rest of the rule
  module _ (f : List ℕ → Branch → Bool) (o : Rule) where
    pub fails : Told t n w f false → Ruled t n (λ goals b ws. given (f goals b) >> o goals b ws) w w Failed
    fails T goals s h = ap (λ (x : Bool). given x >> o goals (branch_of w s) (waiting_of w s)) (T goals s h)

    pub passes : (w' : List ℕ) (r : Status) → Told t n w f true → Ruled t n o w w' r → Ruled t n (λ goals b ws. given (f goals b) >> o goals b ws) w w' r
    passes w' r T R goals s h =
        subst (λ (x : Outcome Progress). Says t n goals w' x r) (sym (ap (λ (x : Bool). given x >> o goals (branch_of w s) (waiting_of w s)) (T goals s h)))
        (R goals s h)

  -- the one literal of a list, and then the rest of the rule
  module _ (f : List ℕ → Branch → List ℕ) (o : ℕ → Rule) where
    only_none : (ls : List ℕ) → (length ls ≡ 1 → ⊥) → only ls ≡ refused 45 0
    only_none [] n = refl
    only_none (l ∷ []) n = absurd (n refl)
    only_none (l ∷ m ∷ ls) n = refl

    pub lacks : (ls : List ℕ) → Told t n w f ls → (length ls ≡ 1 → ⊥) → Ruled t n (λ goals b ws. only (f goals b) >>= λ l. o l goals b ws) w w Failed
    lacks ls T z goals s h =
        ap (λ (x : Outcome ℕ). x >>= λ l. o l goals (branch_of w s) (waiting_of w s)) (ap only (T goals s h) ∙ only_none ls z)

    pub takes : (l : ℕ) (w' : List ℕ) (r : Status) → Told t n w f (l ∷ []) → Ruled t n (o l) w w' r
        → Ruled t n (λ goals b ws. only (f goals b) >>= λ l. o l goals b ws) w w' r
    takes l w' r T R goals s h =
        subst (λ (x : Outcome Progress). Says t n goals w' x r)
        (sym (ap (λ (x : List ℕ). only x >>= λ l. o l goals (branch_of w s) (waiting_of w s)) (T goals s h))) (R goals s h)

-- ---- what changes the open branch alone

running_same : {b b' : Branch} {ws ws' : List Branch} → b' ≡ b → ws' ≡ ws → ◌≡◌ {A = Outcome Progress} (answer (running b ws)) (answer (running b' ws'))
running_same {b} {b'} {ws} {ws'} p q = sym (ap (λ (x : Branch). answer (running x ws')) p ∙ ap (λ (x : List Branch). answer (running b x)) q)

module _ (t : ℕ → Node) (n : ℕ) where
  -- whatever history is held, the open branch changes by f, and those that wait stay
  abbrev pub Moves : (Branch → Branch) → List ℕ → List ℕ → Type 0
  Moves f w w' = (goals : List ℕ) (s : History) → Holds t n goals w s
      → (s' : History) × (Holds t n goals w' s') × (branch_of w' s' ≡ f (branch_of w s)) × (waiting_of w' s' ≡ waiting_of w s)

  module _ (f : Branch → Branch) (w w' : List ℕ) (m : Moves f w w') where
    pub moves-run : Ruled t n (λ goals b ws. answer (running (f b) ws)) w w' Running
    moves-run goals s h =
        let r = m goals s h in
        (r.0, running_same r.2 r.3, r.1)

    pub moves-held : Held t n w → Held t n w'
    moves-held H =
        let r = m H.0 H.1 H.2 in
        (H.0, r.0, r.1)

    pub moves-list : ((b : Branch) → (f b).G ≡ b.G) → Held t n w → g_of w' ≡ g_of w
    moves-list e H = ap (λ (b : Branch). b.G) (m H.0 H.1 H.2).2 ∙ e (branch_of w H.1)

    pub moves-then : (g : Branch → Branch) (w'' : List ℕ) → Moves g w' w'' → Moves (λ b. g (f b)) w w''
    moves-then g w'' k goals s h =
        let r = m goals s h in
        let q = k goals r.0 r.1 in
        (q.0, q.1, q.2 ∙ ap g r.2, q.3 ∙ r.3)

  module _ (few : n ≤ most_nodes) where
    pub joined-moves : (l : ℕ) (w w' : List ℕ) → Joined t n l w w' → Moves (join l) w w'
    joined-moves l w w' j goals s h =
        (s, joined-holds t n goals w few s h l w' j, joined-branch t n goals w few s h l w' j, joined-waiting t n goals w few s h l w' j)

    -- a strike at an open slot of a clause that stands
    module _ (w w' : List ℕ) (k x : ℕ) (st : stands_in w k ≡ true) (o : Open w (base_at w k) (length_at w k) x) where
      module _ (goals : List ℕ) (s : History) (h : Holds t n goals w s) where
        slot_is : x ≡ offset (clauses_of t goals w) k + (x - base_at w k)
        slot_is = omega (arith, o.0, base_is t n goals w few h.base k (inside t n w few k st goals s h))

        position-is : x - base_at w k < length (get_or (clauses_of t goals w) k [])
        position-is = omega (arith, o, length-is t n goals w few h.base k (inside t n w few k st goals s h))

        free_is : strike_at w (offset (clauses_of t goals w) k + (x - base_at w k)) ≡ 0
        free_is = ap (strike_at w) (sym slot_is) ∙ o.2

      pub whole-moves : Struck whole x w w' → Moves (strike_clause k) w w'
      whole-moves p goals s h =
          let i = inside t n w few k st goals s h in
          let q = position-is goals s h in
          let z = free_is goals s h in
          let u = subst (λ (m : ℕ). Struck whole m w w') (slot_is goals s h) p in (
            history (strike k (x - base_at w k) true ∷ s.strikes) s.frames,
            struck-holds t n goals w few s h (strike k (x - base_at w k) true) w' i q z u,
            struck-branch t n goals w few s h (strike k (x - base_at w k) true) w' i q z u ∙ whole-strike k (x - base_at w k) (g_of w) s.strikes,
            struck-waiting t n goals w few s h (strike k (x - base_at w k) true) w' i q z u,
          )

      pub part-moves : Struck 0 x w w' → Moves (strike_literal (record { clause = k; position = x - base_at w k })) w w'
      part-moves p goals s h =
          let i = inside t n w few k st goals s h in
          let q = position-is goals s h in
          let z = free_is goals s h in
          let u = subst (λ (m : ℕ). Struck 0 m w w') (slot_is goals s h) p in (
            history (strike k (x - base_at w k) false ∷ s.strikes) s.frames,
            struck-holds t n goals w few s h (strike k (x - base_at w k) false) w' i q z u,
            struck-branch t n goals w few s h (strike k (x - base_at w k) false) w' i q z u ∙ part-strike k (x - base_at w k) (g_of w) s.strikes,
            struck-waiting t n goals w few s h (strike k (x - base_at w k) false) w' i q z u,
          )

-- ---- the one slot that is left

one_slot : (ss : List ℕ) → length ss ≡ 1 → ss ≡ get_or ss 0 0 ∷ []
one_slot [] e = absurd (omega (arith, e))
one_slot (s ∷ []) e = refl
one_slot (s ∷ u ∷ ss) e = absurd (omega (arith, e))

module _ (w : List ℕ) (k : ℕ) {x : Left} (e : x ≡ left_of (free_in w k)) where
  pub left-count : length (map (slot_at w) (free_in w k)) ≡ x.count
  left-count = length-map (free_in w k) (slot_at w) ∙ sym (ap (λ (y : Left). y.count) e)

  module _ (o : x.count ≡ 1) where
    only-slot : free_in w k ≡ x.first ∷ []
    only-slot = one_slot (free_in w k) (sym (ap (λ (y : Left). y.count) e) ∙ o) ∙ ap (◌∷ []) (sym (ap (λ (y : Left). y.first) e))

    pub left-literal : {l : ℕ} → l ≡ slot_at w x.first → map (slot_at w) (free_in w k) ≡ l ∷ []
    left-literal q = ap (map (slot_at w)) only-slot ∙ ap (◌∷ []) (sym q)

    pub left_open : Open w (base_at w k) (length_at w k) x.first
    left_open = (subst (All (Open w (base_at w k) (length_at w k))) only-slot (free_open w (base_at w k) (length_at w k))).0

-- an open slot lies within the slots
pub open_below : {t : ℕ → Node} {n : ℕ} {w : List ℕ} (few : n ≤ most_nodes) (H : Held t n w) (k : ℕ) {x : ℕ} → k < clause_count w
    → Open w (base_at w k) (length_at w k) x
    → (x < most_slots) × (x < base_at w (k + 1))
open_below few H k b o =
    let r = (ranged_of few H).ends k b in
    (omega (arith, r, o), omega (arith, r, o))

-- ---- a split turns right

waits-none : (r : ℕ → ℕ) → waits r [] ≡ []
unfolding waits
waits-none r = refl

waits_more : (r : ℕ → ℕ) (f : Frame) (fs : List Frame) → waits r (f ∷ fs) ≡ join (neg (r (1 + f.count))) (branch r f.count f.strikes) ∷ waits r fs
unfolding waits
waits_more r f fs = refl

module _ (t : ℕ → Node) (n : ℕ) (w : List ℕ) (few : n ≤ most_nodes) where
  pub turn_ends : depth w ≡ 0 → Ruled t n (λ goals b waiting. answer (turn waiting)) w w Complete
  turn_ends e goals s h = go s.strikes s.frames h
    where
      go : (S : List Strike) (fs : List Frame) → Holds t n goals w (history S fs)
          → ◌≡◌ {A = Outcome Progress} (answer (turn (waits (trail_at w) fs))) (answer complete)
      go S [] h = ap (λ (bs : List Branch). answer (turn bs)) (waits-none (trail_at w))
      go S (f ∷ fs) h = absurd (omega (arith, e, h.depths))

  pub turn_ready : {w₁ : List ℕ} {l : ℕ} → Opened t n w → Restores t n w w₁ l → (Held t n w₁) × Fresh n (g_of w₁) (neg l) × (l < 2 * most_nodes)
  turn_ready {w₁} {l} o R =
      let r = R o.goals o.strikes o.frame o.frames o.holds in
      ((o.goals, history o.frame.strikes o.frames, r.holds), neg-fresh n (g_of w₁) l r.free, omega (arith, r.free.0, few))

  pub turn-runs : {w₁ w₂ : List ℕ} {l m : ℕ} → (depth w ≡ 0 → ⊥) → Restores t n w w₁ l → m ≡ neg l → Joined t n m w₁ w₂
      → Ruled t n (λ goals b waiting. answer (turn waiting)) w w₂ Running
  turn-runs {w₁} {w₂} {l} {m} z R e j goals s h = go s.strikes s.frames h
    where
      go : (S : List Strike) (fs : List Frame) → Holds t n goals w (history S fs) → Says t n goals w₂ (answer (turn (waits (trail_at w) fs))) Running
      go S [] h = absurd (z h.depths)
      go S (f ∷ fs) h =
          let r = R goals S f fs h in
          let s' : History = history f.strikes fs in
          let b : branch_of w₂ s' ≡ join (neg (trail_at w (1 + f.count))) (branch (trail_at w) f.count f.strikes) =
          joined-branch t n goals w₁ few s' r.holds m w₂ j
          ∙ ap (λ (G : List ℕ). join m (branch_by G f.strikes)) r.list
          ∙ ap (λ (x : ℕ). join x (branch (trail_at w) f.count f.strikes)) (e ∙ ap neg r.literal) in
          let ws : waiting_of w₂ s' ≡ waits (trail_at w) fs = joined-waiting t n goals w₁ few s' r.holds m w₂ j ∙ r.waiting in
          (s', ap (λ (bs : List Branch). answer (turn bs)) (waits_more (trail_at w) f fs) ∙ running_same b ws, joined-holds t n goals w₁ few s' r.holds m w₂ j)

  -- ---- S: a literal is split on

  module _ (l : ℕ) where
    pub save-ready : Held t n w → Fresh n (g_of w) l → (area_size ≤ length w) × (depth w < most_nodes)
    save-ready H f = (size_of few H, omega (arith, depth_of few H, room_left n (trail_at w) (trail_of few H) l f, few))

    module _ {w₁ : List ℕ} (H : Held t n w) (f : Fresh n (g_of w) l) (p : Saved w w₁) where
      -- nothing is held after a save but before the literal joins; the numbers are right all the same
      pub split-ready : (area_size ≤ length w₁) × (((clause_count w₁ + 3 ≤ most_clauses) × (base_at w₁ (clause_count w₁) + 4 ≤ most_slots))
          × (Trail n (trail_at w₁) × Fresh n (g_of w₁) l))
      split-ready =
          let d : depth w < most_nodes = (save-ready H f).1 in
          let b = saved-base t n H.0 w few H.1 H.2 w₁ p d in
          let r : trail_at w₁ ≡ trail_at w = saved-trail t n H.0 w few H.1 H.2 w₁ p d in
          let g : Fresh n (g_of w₁) l = subst (λ (x : ℕ → ℕ). Fresh n (held x) l) (sym r) f in
          (b.size, (push_room t n H.0 w₁ few b g, (b.trail, g)))

      pub split_runs : {w₂ : List ℕ} → Joined t n l w₁ w₂ → Ruled t n (λ goals b ws. answer (running (join l b) (join (neg l) b ∷ ws))) w w₂ Running
      split_runs {w₂} j goals s h =
          let d : depth w < most_nodes = (save-ready H f).1 in (
            history s.strikes (frame t n goals w few s h ∷ s.frames),
            running_same (split-branch t n goals w few s h w₁ p d l w₂ j) (split-waiting t n goals w few s h w₁ p d l w₂ j),
            split-holds t n goals w few s h w₁ p d l w₂ j,
          )

-- ---- the rule of a step's letter

module _ (e : ℕ → List (List ℕ)) (n : ℕ) (s : Step) where
  pub is_u : s.rule ≡ 85 → (goals : List ℕ) (b : Branch) (ws : List Branch) → apply e goals n s b ws ≡ rule_u e goals n s.value b ws
  unfolding apply
  is_u p goals b ws = simp (eq-eqb s.rule 85 p)

  pub is_r : s.rule ≡ 82 → (goals : List ℕ) (b : Branch) (ws : List Branch) → apply e goals n s b ws ≡ rule_r e goals n s.position s.value b ws
  unfolding apply
  is_r q goals b ws = simp (ne_eqb s.rule 85 (λ p. omega (arith, p, q)), eq-eqb s.rule 82 q)

  pub is_e : s.rule ≡ 69 → (goals : List ℕ) (b : Branch) (ws : List Branch) → apply e goals n s b ws ≡ rule_e e goals n s.value b ws
  unfolding apply
  is_e r goals b ws = simp (ne_eqb s.rule 85 (λ p. omega (arith, p, r)), ne_eqb s.rule 82 (λ p. omega (arith, p, r)), eq-eqb s.rule 69 r)

  pub is_c : s.rule ≡ 67 → (goals : List ℕ) (b : Branch) (ws : List Branch) → apply e goals n s b ws ≡ rule_c e goals n s.value b ws
  unfolding apply
  is_c f goals b ws =
      simp (
        ne_eqb s.rule 85 (λ p. omega (arith, p, f)),
        ne_eqb s.rule 82 (λ p. omega (arith, p, f)),
        ne_eqb s.rule 69 (λ p. omega (arith, p, f)),
        eq-eqb s.rule 67 f,
      )

  pub is_s : (s.rule ≡ 85 → ⊥) → (s.rule ≡ 82 → ⊥) → (s.rule ≡ 69 → ⊥) → (s.rule ≡ 67 → ⊥) → (goals : List ℕ) (b : Branch) (ws : List Branch)
      → apply e goals n s b ws
      ≡ rule_s e goals n s.value b ws
  unfolding apply
  is_s p q r f goals b ws = simp (ne_eqb s.rule 85 p, ne_eqb s.rule 82 q, ne_eqb s.rule 69 r, ne_eqb s.rule 67 f)
