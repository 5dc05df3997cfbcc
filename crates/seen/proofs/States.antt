-- A clause's state as the loop makes it, from its last slot down. Assumes nothing.
use mathlib.Core.Path.{◌≡◌, refl, sym, ap, ◌∙◌, subst}
use mathlib.Core.List.{List, [], ◌∷◌}
use mathlib.Core.Bool.{cond}
use Prim.Native.Nat.{ℕ, ◌+◌, ◌-◌, ◌*◌, ◌<◌, ◌≤◌}
use lib.Dec.{eqb}
use borrow.Author.Tests.{ne_eqb, le-leb, lt-leb}
use native.Mathlib.Omega.{arith}
use Rattle.scope.proofs.Lists.{list_from_turn, list_from_done}
use Rattle.calculus.specs.Order.{Value, holds, fails, undecided, State, met, empty, one, many, value_of, joined, state_of}
use Rattle.calculus.specs.Model.{All}
use Rattle.area.specs.Area.{slot_at, g_of, value_code}
use Rattle.seen.specs.Seen.{weight_by, state_by, literals_from}

-- ---- the sum of a clause's literals

-- how the sum of at most m literals, and the first undecided one, say what a clause is
abbrev pub Sums : ℕ → ℕ → ℕ → State → Type 0
Sums m sum first met = 65536 ≤ sum
Sums m sum first empty = sum ≡ 0
Sums m sum first (one l) = (sum ≡ 1) × (first ≡ l) × (1 ≤ m)
Sums m sum first (many l) = (2 ≤ sum) × (sum ≤ m) × (first ≡ l)

-- one more literal in front of the others
pub sums_more : (v : Value) (m sum first l : ℕ) (x : State)
    → Sums m sum first x → Sums (m + 1) (sum + weight_by (value_code v)) (cond (eqb (weight_by (value_code v)) 1) l first) (joined v l x)
sums_more holds m sum first l x h = omega arith
sums_more fails m sum first l met h = omega arith
sums_more fails m sum first l empty h = omega arith
sums_more fails m sum first l (one k) h = (omega arith, h.1, omega arith)
sums_more fails m sum first l (many k) h = (omega arith, omega arith, h.2)
sums_more undecided m sum first l met h = omega arith
sums_more undecided m sum first l empty h = (omega arith, refl, omega arith)
sums_more undecided m sum first l (one k) h = (omega arith, omega arith, refl)
sums_more undecided m sum first l (many k) h = (omega arith, omega arith, refl)

-- what the clause is
pub sums_state : (m sum first : ℕ) (x : State) → m < 65536 → Sums m sum first x → state_by sum first ≡ x
sums_state m sum first met l h = simp (le-leb 65536 sum h)
sums_state m sum first empty l h = rw h
sums_state m sum first (one k) l h = rw (h.0, h.1)
sums_state m sum first (many k) l h =
    simp (lt-leb 65536 sum (omega arith), ne_eqb sum 0 (λ z. omega arith), ne_eqb sum 1 (λ z. omega arith), h.2)

-- ---- the slots from s on

module _ (w : List ℕ) where
  pub state-none : (s e : ℕ) → e ≤ s → state_of (g_of w) (literals_from w s (e - s)) ≡ empty
  unfolding state_of
  state-none s e h = rw (list_from_done (slot_at w) s e h)

  pub state_more : (s e : ℕ) → 0 < s → s ≤ e
      → joined (value_of (g_of w) (slot_at w (s - 1))) (slot_at w (s - 1)) (state_of (g_of w) (literals_from w s (e - s)))
      ≡ state_of (g_of w) (literals_from w (s - 1) (e - (s - 1)))
  unfolding state_of
  state_more s e h b =
      let z : s - 1 + 1 ≡ s = omega arith in
      sym (ap (state_of (g_of w)) (list_from_turn (slot_at w) (s - 1) e (omega arith))
      ∙ ap (λ (y : ℕ). joined (value_of (g_of w) (slot_at w (s - 1))) (slot_at w (s - 1)) (state_of (g_of w) (literals_from w y (e - y)))) z)

  -- what has been summed from slot s on
  abbrev pub Summed : ℕ → ℕ → ℕ → ℕ → Type 0
  Summed s e sum first = (sum ≤ 65536 * (e - s)) × Sums (e - s) sum first (state_of (g_of w) (literals_from w s (e - s)))

  pub summed_none : (s e first : ℕ) → e ≤ s → Summed s e 0 first
  summed_none s e first h =
      let none : Sums (e - s) 0 first empty = refl in
      (omega arith, subst (Sums (e - s) 0 first) (sym (state-none s e h)) none)

  pub summed_more : (s e sum first : ℕ) {l v u : ℕ} → 0 < s → s ≤ e → l ≡ slot_at w (s - 1) → v ≡ value_code (value_of (g_of w) l) → u ≡ weight_by v
      → u ≤ 65536 → Summed s e sum first → Summed (s - 1) e (sum + u) (cond (eqb u 1) l first)
  summed_more s e sum first h b g p q small (low, is) =
      let z : e - (s - 1) ≡ e - s + 1 = omega arith in (
        omega (arith, z, low, small),
        rw (sym (state_more s e h b), z, q, p, g) (sums_more (value_of (g_of w) (slot_at w (s - 1))) (e - s) sum first (slot_at w (s - 1)) _ is),
      )

  pub summed_all : (s e sum first : ℕ) → e ≤ 8144 → Summed s e sum first → state_by sum first ≡ state_of (g_of w) (literals_from w s (e - s))
  summed_all s e sum first h is = sums_state (e - s) sum first _ (omega arith) is.1

-- ---- the one literal of a clause that is not false: one of its own, and undecided

one_apart : {P : Type 0} {l : ℕ} → ◌≡◌ {A = State} met (one l) → P
one_apart e = absurd (let z : ◌≡◌ {A = ℕ} 0 1 = cc in omega arith)

pub one-says : (P : ℕ → Type 0) (G c : List ℕ) (l : ℕ) → All P c → state_of G c ≡ one l → P l × (value_of G l ≡ undecided)
unfolding state_of
one-says P G [] l a e = absurd (let z : ◌≡◌ {A = ℕ} 0 1 = cc in omega arith)
one-says P G (m ∷ c) l a e = go (value_of G m) refl (state_of G c) refl e (one-says P G c l a.1)
  where
    go : (w : Value) → value_of G m ≡ w → (s : State) → state_of G c ≡ s → joined w m s ≡ one l
        → (state_of G c ≡ one l → P l × (value_of G l ≡ undecided)) → P l × (value_of G l ≡ undecided)
    go holds q s r e again = one_apart e
    go fails q s r e again = again (r ∙ e)
    go undecided q met r e again = one_apart e
    go undecided q empty r e again =
        let z : m ≡ l = cc in
        (subst P z a.0, subst (λ (x : ℕ). value_of G x ≡ undecided) z q)
    go undecided q (one k) r e again = absurd (let z : ◌≡◌ {A = ℕ} 0 1 = cc in omega arith)
    go undecided q (many k) r e again = absurd (let z : ◌≡◌ {A = ℕ} 0 1 = cc in omega arith)
