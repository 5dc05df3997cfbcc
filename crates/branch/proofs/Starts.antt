-- The start: zeros where something is read before it is written, then the goals. Assumes nothing.
use mathlib.Core.Path.{◌≡◌, refl, sym, ap, ◌∙◌, subst}
use mathlib.Core.Bool.{false, not}
use mathlib.Core.Logic.{◌⊎◌, inl, inr}
use mathlib.Core.List.{List, [], ◌∷◌, map}
use Prim.Native.Nat.{ℕ, zero, suc, ◌+◌, ◌-◌, ◌*◌, ◌%◌, ◌<◌, ◌≤◌}
use native.Mathlib.Omega.{arith}
use native.Mathlib.Decide.{dec_lt}
use lib.ListN.{length, get_or, set, length-set, length-map}
use lib.Seq.{get_or-set_same, get_or-set_other}
use borrow.Author.Tests.{eq-eqb}
use Rattle.scope.specs.declared.Node.{Node}
use Rattle.calculus.specs.Expansion.{expand}
use Rattle.calculus.specs.Order.{mem, clauses}
use Rattle.calculus.proofs.Lists.{all_at}
use Rattle.trail.proofs.Trails.{empty-held, empty-trail}
use Rattle.area.specs.Area.{area_size, most_nodes, most_slots, bases_from, slots_from, trail_from, notes, clause_count, packed_at, flag_of, strike_at, trail_at, g_of}
use Rattle.area.proofs.Packed.{bare_literal, bare_flag}
use Rattle.branch.specs.Clauses.{Listed, Filled}
use Rattle.branch.specs.Holds.{Goals, clauses_of, Holds, fresh}
use Rattle.branch.proofs.Appends.{flat-singles, offset-singles}

clauses_none : (e : ℕ → List (List ℕ)) (goals : List ℕ) → clauses e goals [] ≡ map (◌∷ []) goals
unfolding clauses
clauses_none e goals = refl

mem-none : (m : ℕ) → mem m [] ≡ false
unfolding mem
mem-none m = refl

-- the places that are cleared: the counts, the slots, the trail
abbrev Clear : ℕ → Type 0
Clear i = (i < bases_from + 1) ⊎ ((slots_from ≤ i) × (i < slots_from + 8144)) ⊎ ((trail_from ≤ i) × (i < trail_from + 4033))

module _ {w a b c : List ℕ} (p : Filled 0 (bases_from + 1) (λ _. 0) w a) (q : Filled slots_from 8144 (λ _. 0) a b)
    (r : Filled trail_from 4033 (λ _. 0) b c) where
  cleared : (i : ℕ) → Clear i → get_or c i 0 ≡ 0
  cleared i (inl h) =
      let e : 0 + i ≡ i = omega arith in
      r.else i (inl (omega (arith, h))) ∙ q.else i (inl (omega (arith, h))) ∙ ap (λ (k : ℕ). get_or a k 0) (sym e) ∙ p.here i h
  cleared i (inr (inl h)) =
      let e : slots_from + (i - slots_from) ≡ i = omega (arith, h.0) in
      r.else i (inl (omega (arith, h.1))) ∙ ap (λ (k : ℕ). get_or b k 0) (sym e) ∙ q.here (i - slots_from) (omega (arith, h.0, h.1))
  cleared i (inr (inr h)) =
      let e : trail_from + (i - trail_from) ≡ i = omega (arith, h.0) in
      ap (λ (k : ℕ). get_or c k 0) (sym e) ∙ r.here (i - trail_from) (omega (arith, h.0, h.1))

module _ (t : ℕ → Node) (n : ℕ) (goals w₀ w₁ w₂ : List ℕ) (size : area_size ≤ length w₀) (few : n ≤ most_nodes) (gs : Goals n goals)
    (z : (i : ℕ) → Clear i → get_or w₀ i 0 ≡ 0)
    (b : Filled (bases_from + 1) (length goals) suc w₀ w₁) (a : Filled slots_from (length goals) (λ k. get_or goals k 0) w₁ w₂) where
  w₃ : List ℕ
  w₃ = set w₂ 0 (length goals)

  size₃ : length w₃ ≡ length w₀
  unfolding w₃
  size₃ = length-set w₂ 0 (length goals) ∙ a.size ∙ b.size

  away : (i : ℕ) → (i ≡ 0 → ⊥) → get_or w₃ i 0 ≡ get_or w₂ i 0
  unfolding w₃
  away i n = get_or-set_other w₂ 0 i (length goals) 0 n

  zero_low : (i : ℕ) → (i ≡ 0 → ⊥) → i < bases_from + 1 → get_or w₃ i 0 ≡ 0
  zero_low i n h = away i n ∙ a.else i (inl (omega (arith, h))) ∙ b.else i (inl h) ∙ z i (inl h)

  zero_high : (i : ℕ) → slots_from + length goals ≤ i → Clear i → get_or w₃ i 0 ≡ 0
  zero_high i h k = away i (λ q. omega (arith, q, h)) ∙ a.else i (inr (omega (arith, h, gs.most))) ∙ b.else i (inr (omega (arith, h, gs.most))) ∙ z i k

  count₃ : clause_count w₃ ≡ length goals
  unfolding w₃
  count₃ = get_or-set_same w₂ 0 (length goals) 0 (omega (arith, size, a.size, b.size))

  trail₃ : (i : ℕ) → i < 4033 → trail_at w₃ i ≡ 0
  trail₃ i h = zero_high (trail_from + i) (omega (arith, gs.most)) (inr (inr (omega arith, omega (arith, h))))

  list₃ : g_of w₃ ≡ []
  list₃ = empty-held n (trail_at w₃) (trail₃ 0 (omega arith))

  clauses₃ : clauses_of t goals w₃ ≡ map (◌∷ []) goals
  clauses₃ = ap (clauses (expand t) goals) list₃ ∙ clauses_none (expand t) goals

  base₃ : (k : ℕ) → k ≤ length goals → get_or w₃ (bases_from + k) 0 ≡ k
  base₃ zero h = zero_low (bases_from + 0) (λ q. omega (arith, q)) (omega arith)
  base₃ (suc k) h =
      let e : bases_from + suc k ≡ bases_from + 1 + k = omega arith in
      ap (λ (i : ℕ). get_or w₃ i 0) e ∙ away (bases_from + 1 + k) (λ q. omega (arith, q)) ∙ a.else (bases_from + 1 + k) (inl (omega (arith, h, gs.most)))
      ∙ b.here k (omega (arith, h))

  -- the goals are literals, without a strike
  goal₃ : (i : ℕ) → i < length goals → packed_at w₃ i ≡ get_or goals i 0
  goal₃ i h = away (slots_from + i) (λ q. omega (arith, q)) ∙ a.here i h

  low₃ : (i : ℕ) → i < length goals → get_or goals i 0 < notes
  low₃ i h = omega (arith, few, all_at (λ l. l < 2 * n) goals i 0 gs.below h)

  clean₃ : (m : ℕ) → m < most_slots → Dec (m < length goals) → strike_at w₃ m ≡ 0
  clean₃ m i (yes h) = ap flag_of (goal₃ m h) ∙ bare_flag (get_or goals m 0) (low₃ m h)
  clean₃ m i (no h) = ap flag_of (zero_high (slots_from + m) (omega (arith, h)) (inr (inl (omega arith, omega (arith, i)))))

  listed₃ : Listed (map (◌∷ []) goals) w₃
  listed₃ = record {
    count = count₃ ∙ sym (length-map goals (◌∷ []));
    bases = λ k h.
        let i : k ≤ length goals = omega (arith, h, length-map goals (◌∷ [])) in
        base₃ k i ∙ sym (offset-singles goals k i);
    slots = λ i h.
        let b : i < length goals = omega (arith, h, ap length (flat-singles goals)) in
        ap (◌% notes) (goal₃ i b) ∙ bare_literal (get_or goals i 0) (low₃ i b) ∙ ap (λ (c : List ℕ). get_or c i 0) (sym (flat-singles goals));
  }

  holds₃ : Holds t n goals w₃ fresh
  holds₃ = record {
    base = record {
      size = omega (arith, size, size₃);
      aims = gs;
      trail = empty-trail n (trail_at w₃) (trail₃ 0 (omega arith)) (λ m i. trail₃ (2017 + m) (omega (arith, i, few)));
      listed = subst (λ (c : List (List ℕ)). Listed c w₃) (sym clauses₃) listed₃;
    };
    marked = record {
      chained = record {
        head = zero_low 2 (λ q. omega (arith, q)) (omega arith);
        chain = tt;
        flags = λ m i. eq-eqb (strike_at w₃ m) 0 (clean₃ m i (dec_lt m (length goals))) ∙ sym (ap not (mem-none m));
      };
      valid = tt;
    };
    depths = zero_low 1 (λ q. omega (arith, q)) (omega arith);
    splits = tt;
  }

  pub started : Holds t n goals (set w₂ 0 (length goals)) fresh
  unfolding w₃
  started = holds₃

  pub started_empty : g_of (set w₂ 0 (length goals)) ≡ []
  unfolding w₃
  started_empty = list₃

-- after the places are cleared
pub begun : (t : ℕ → Node) (n : ℕ) (w : List ℕ) {goals a b w₀ w₁ w₂ : List ℕ} → area_size ≤ length w → n ≤ most_nodes → Goals n goals
    → Filled 0 (bases_from + 1) (λ _. 0) w a → Filled slots_from 8144 (λ _. 0) a b → Filled trail_from 4033 (λ _. 0) b w₀
    → Filled (bases_from + 1) (length goals) suc w₀ w₁ → Filled slots_from (length goals) (λ k. get_or goals k 0) w₁ w₂
    → Holds t n goals (set w₂ 0 (length goals)) fresh × (g_of (set w₂ 0 (length goals)) ≡ [])
begun t n w {goals} {a} {b} {w₀} {w₁} {w₂} size few gs p q r x y =
    let u : area_size ≤ length w₀ = omega (arith, size, p.size, q.size, r.size) in
    let z : (i : ℕ) → Clear i → get_or w₀ i 0 ≡ 0 = cleared p q r in
    (started t n goals w₀ w₁ w₂ u few gs z x y, started_empty t n goals w₀ w₁ w₂ u few gs z x y)
