-- What is read of a clause's slots: whether it stands, what it has left, and what is true. Assumes nothing.
use mathlib.Core.Path.{◌≡◌, refl, sym, ap, ◌∙◌}
use mathlib.Core.Bool.{Bool, true, false, cond, not, ◌&&◌, ◌||◌, false≢true}
use mathlib.Core.List.{List, [], ◌∷◌}
use Prim.Native.Nat.{ℕ, zero, suc, ◌+◌, ◌-◌, ◌<◌, ◌≤◌}
use native.Mathlib.Omega.{arith}
use native.Mathlib.Numerals.{add-one}
use native.Mathlib.Decide.{ℕ_discrete}
use lib.Dec.{eqb, leb, ltb}
use lib.ListN.{length, get_or}
use borrow.Author.Tests.{eq-eqb, ne_eqb, lt-ltb, le-ltb, le-leb, lt-leb}
use Rattle.calculus.specs.Order.{Value, holds, fails, undecided, value_of}
use Rattle.rules.specs.Rules.{is_holds}
use Rattle.area.specs.declared.Left.{Left}
use Rattle.area.specs.Area.{notes, whole, clause_count, base_at, slot_at, strike_at, is_whole, length_at, g_of, value_code, whole_in, stands_in, free_from, free_in, one_slot, only_from, only_in, empty_in, left_of, true_from}

-- a number of slots that is not 0, and one that is
count-step : (s e : ℕ) → s < e → e - s ≡ suc (e - (s + 1))
count-step s e h = omega (arith, h)

count_none : (s e : ℕ) → e ≤ s → e - s ≡ 0
count_none s e h = omega (arith, h)

-- ---- whether a clause stands

whole-step : (w : List ℕ) (s e : ℕ) → s < e → whole_in w s (e - s) ≡ (is_whole w s || whole_in w (s + 1) (e - (s + 1)))
unfolding whole_in
whole-step w s e h = ap (whole_in w s) (count-step s e h) ∙ ap (λ (q : ℕ). is_whole w s || whole_in w q (e - (s + 1))) (sym (add-one s))

whole-none : (w : List ℕ) (s e : ℕ) → e ≤ s → whole_in w s (e - s) ≡ false
unfolding whole_in
whole-none w s e h = ap (whole_in w s) (count_none s e h)

pub stands_not : (w : List ℕ) (k : ℕ) → clause_count w ≤ k → false ≡ stands_in w k
stands_not w k h = simp (le-ltb k (clause_count w) h)

pub stands_starts : (w : List ℕ) (k : ℕ) {s e : ℕ} → k < clause_count w → s ≡ base_at w k → e ≡ base_at w (k + 1) → stands_in w k ≡ not (whole_in w s (e - s))
stands_starts w k {s} {e} h p q =
    let z : stands_in w k ≡ not (whole_in w (base_at w k) (length_at w k)) = simp (lt-ltb k (clause_count w) h) in
    z ∙ sym (ap (λ (x : ℕ). not (whole_in w x (e - x))) p ∙ ap (λ (x : ℕ). not (whole_in w (base_at w k) (x - base_at w k))) q)

-- what is left from slot s on is the answer
module _ (w : List ℕ) (k s e : ℕ) (q : stands_in w k ≡ not (whole_in w s (e - s))) where
  pub stands_falls : {v : ℕ} → s < e → v ≡ strike_at w s → whole ≤ v → false ≡ stands_in w k
  stands_falls {v} h g b =
      let z : is_whole w s ≡ true = le-leb whole (strike_at w s) (omega (arith, g, b)) in
      sym (q ∙ ap not (whole-step w s e h ∙ ap (◌|| whole_in w (s + 1) (e - (s + 1))) z))

  pub stands_later : {v : ℕ} → s < e → v ≡ strike_at w s → v < whole → stands_in w k ≡ not (whole_in w (s + 1) (e - (s + 1)))
  stands_later {v} h g b =
      let z : is_whole w s ≡ false = lt-leb whole (strike_at w s) (omega (arith, g, b)) in
      q ∙ ap not (whole-step w s e h ∙ ap (◌|| whole_in w (s + 1) (e - (s + 1))) z)

  pub stands_ends : e ≤ s → true ≡ stands_in w k
  stands_ends h = sym (q ∙ ap not (whole-none w s e h))

-- ---- what is left of a clause

free_step : (w : List ℕ) (s e : ℕ) → s < e
    → free_from w s (e - s) ≡ cond (eqb (strike_at w s) 0) (s ∷ free_from w (s + 1) (e - (s + 1))) (free_from w (s + 1) (e - (s + 1)))
unfolding free_from
free_step w s e h =
    ap (free_from w s) (count-step s e h)
    ∙ ap (λ (q : ℕ). cond (eqb (strike_at w s) 0) (s ∷ free_from w q (e - (s + 1))) (free_from w q (e - (s + 1)))) (sym (add-one s))

pub free_none : (w : List ℕ) (s e : ℕ) → e ≤ s → free_from w s (e - s) ≡ []
unfolding free_from
free_none w s e h = ap (free_from w s) (count_none s e h)

pub free_most : (w : List ℕ) (s m : ℕ) → length (free_from w s m) ≤ m
unfolding free_from
free_most w s zero = omega arith
free_most w s (suc m) = go (eqb (strike_at w s) 0) (free_most w (suc s) m)
  where
    go : (b : Bool) → length (free_from w (suc s) m) ≤ m → length (cond b (s ∷ free_from w (suc s) m) (free_from w (suc s) m)) ≤ suc m
    go true h = omega (arith, h)
    go false h = omega (arith, h)

abbrev more : Left → ℕ → Left
more x s = record { count = suc x.count; first = s }

left-cond : (b : Bool) (s : ℕ) (ss : List ℕ) → left_of (cond b (s ∷ ss) ss) ≡ cond b (more (left_of ss) s) (left_of ss)
left-cond true s ss = refl
left-cond false s ss = refl

-- one slot more, downwards
pub left_more : (w : List ℕ) (s e : ℕ) {x r : Left} {v : ℕ} → 0 < s → s ≤ e → x ≡ left_of (free_from w s (e - s)) → v ≡ strike_at w (s - 1)
    → r ≡ cond (eqb v 0) (more x (s - 1)) x → r ≡ left_of (free_from w (s - 1) (e - (s - 1)))
left_more w s e {x} {r} {v} a b q g h =
    let z : s - 1 + 1 ≡ s = omega (arith, a) in
    h ∙ ap (λ (y : Left). cond (eqb v 0) (more y (s - 1)) y) q
    ∙ ap (λ (u : ℕ). cond (eqb u 0) (more (left_of (free_from w s (e - s))) (s - 1)) (left_of (free_from w s (e - s)))) g
    ∙ sym (ap left_of (free_step w (s - 1) e (omega (arith, a, b)))
    ∙ ap (λ (y : ℕ). left_of (cond (eqb (strike_at w (s - 1)) 0) ((s - 1) ∷ free_from w y (e - y)) (free_from w y (e - y)))) z
    ∙ left-cond (eqb (strike_at w (s - 1)) 0) (s - 1) (free_from w s (e - s)))

pub more_struck : (x : Left) (s v : ℕ) → (v ≡ 0 → ⊥) → x ≡ cond (eqb v 0) (more x s) x
more_struck x s v e = sym (ap (λ (b : Bool). cond b (more x s) x) (ne_eqb v 0 e))

pub more_free : (x : Left) (s v : ℕ) → v ≡ 0 → ◌≡◌ {A = Left} (record { count = x.count + 1; first = s }) (cond (eqb v 0) (more x s) x)
more_free x s v e =
    ap (λ (k : ℕ). record { count = k; first = s }) (add-one x.count) ∙ sym (ap (λ (b : Bool). cond b (more x s) x) (eq-eqb v 0 e))

-- ---- the one slot that is left of a clause that stands

module _ (w : List ℕ) (s : ℕ) {a b : ℕ} (f : a ≡ strike_at w s) (g : b ≡ strike_at w (s + 1)) where
  -- the same by the two strikes
  abbrev two_by : ℕ
  two_by = cond (leb whole a || (leb whole b || false)) 0 (one_slot (cond (eqb a 0) (s ∷ cond (eqb b 0) ((s + 1) ∷ []) []) (cond (eqb b 0) ((s + 1) ∷ []) [])))

  two-by : only_from w s 2 ≡ two_by
  unfolding whole_in free_from
  two-by =
      ap (λ (q : ℕ). cond (is_whole w s || (is_whole w q || false)) 0
      (one_slot (cond (eqb (strike_at w s) 0) (s ∷ cond (eqb (strike_at w q) 0) (q ∷ []) []) (cond (eqb (strike_at w q) 0) (q ∷ []) []))))
      (sym (add-one s))
      ∙ sym (ap (λ (x : ℕ). cond (leb whole x || (leb whole b || false)) 0
      (one_slot (cond (eqb x 0) (s ∷ cond (eqb b 0) ((s + 1) ∷ []) []) (cond (eqb b 0) ((s + 1) ∷ []) [])))) f
      ∙ ap (λ (x : ℕ). cond (is_whole w s || (leb whole x || false)) 0
      (one_slot (cond (eqb (strike_at w s) 0) (s ∷ cond (eqb x 0) ((s + 1) ∷ []) []) (cond (eqb x 0) ((s + 1) ∷ []) [])))) g)

  pub two-first : a ≡ 0 → b ≡ notes → suc s ≡ only_from w s 2
  two-first p q =
      let y : two_by ≡ suc s =
      simp (lt-leb whole a (omega (arith, p)), lt-leb whole b (omega (arith, q)), eq-eqb a 0 p, ne_eqb b 0 (λ x. omega (arith, q, x))) in
      sym (two-by ∙ y)

  pub two_second : a ≡ notes → b ≡ 0 → suc (s + 1) ≡ only_from w s 2
  two_second p q =
      let y : two_by ≡ suc (s + 1) =
      simp (lt-leb whole a (omega (arith, p)), lt-leb whole b (omega (arith, q)), ne_eqb a 0 (λ x. omega (arith, p, x)), eq-eqb b 0 q) in
      sym (two-by ∙ y)

  -- the clause is struck, or both are left, or neither is
  pub two-both : a ≡ 0 → (b ≡ notes → ⊥) → 0 ≡ only_from w s 2
  two-both p q = sym (two-by ∙ go (ℕ_discrete b 0))
    where
      go : Dec (b ≡ 0) → two_by ≡ 0
      go (yes z) = simp (lt-leb whole a (omega (arith, p)), lt-leb whole b (omega (arith, z)), eq-eqb a 0 p, eq-eqb b 0 z)
      go (no z) = simp (lt-leb whole a (omega (arith, p)), le-leb whole b (omega (arith, g, q, z)))

  pub two-whole : (a ≡ 0 → ⊥) → (a ≡ notes → ⊥) → 0 ≡ only_from w s 2
  two-whole p q = sym (two-by ∙ simp (le-leb whole a (omega (arith, f, p, q))))

  pub two_none : a ≡ notes → (b ≡ 0 → ⊥) → 0 ≡ only_from w s 2
  two_none p q = sym (two-by ∙ go (leb whole b))
    where
      go : (y : Bool) → cond (leb whole a || (y || false)) 0 (one_slot
          (cond (eqb a 0) (s ∷ cond (eqb b 0) ((s + 1) ∷ []) []) (cond (eqb b 0) ((s + 1) ∷ []) []))) ≡ 0
      go true = simp (lt-leb whole a (omega (arith, p)))
      go false = simp (lt-leb whole a (omega (arith, p)), ne_eqb a 0 (λ x. omega (arith, p, x)), ne_eqb b 0 q)

pub only-not : (w : List ℕ) (k : ℕ) → clause_count w ≤ k → 0 ≡ only_in w k
only-not w k h = simp (le-ltb k (clause_count w) h)

one_of : (ss : List ℕ) → length ss ≡ 1 → one_slot ss ≡ suc (get_or ss 0 0)
one_of [] e = absurd (omega (arith, e))
one_of (s ∷ []) e = refl
one_of (s ∷ q ∷ ss) e = absurd (omega (arith, e))

none_of : (ss : List ℕ) → (length ss ≡ 1 → ⊥) → one_slot ss ≡ 0
none_of [] e = refl
none_of (s ∷ []) e = absurd (e refl)
none_of (s ∷ q ∷ ss) e = refl

module _ (w : List ℕ) (k : ℕ) (h : k < clause_count w) where
  in_list_lem : only_in w k ≡ only_from w (base_at w k) (length_at w k)
  in_list_lem = ap (λ (b : Bool). cond b (only_from w (base_at w k) (length_at w k)) 0) (lt-ltb k (clause_count w) h)

  stands_whole : {b : Bool} → stands_in w k ≡ b → whole_in w (base_at w k) (length_at w k) ≡ not b
  stands_whole {b} e = flip (whole_in w (base_at w k) (length_at w k))
      (sym (ap (◌&& not (whole_in w (base_at w k) (length_at w k))) (lt-ltb k (clause_count w) h)) ∙ e)
    where
      flip : (x : Bool) → not x ≡ b → x ≡ not b
      flip true q = ap not q
      flip false q = ap not q

  pub only_two : {s r : ℕ} → s ≡ base_at w k → base_at w (k + 1) ≡ s + 2 → r ≡ only_from w s 2 → r ≡ only_in w k
  only_two {s} {r} p q e =
      let z : length_at w k ≡ 2 = omega (arith, p, q) in
      e ∙ ap (λ (x : ℕ). only_from w x 2) p ∙ sym (in_list_lem ∙ ap (only_from w (base_at w k)) z)

  pub only-falls : stands_in w k ≡ false → 0 ≡ only_in w k
  only-falls e = sym (in_list_lem ∙ ap (λ (b : Bool). cond b 0 (one_slot (free_in w k))) (stands_whole e))

  module _ (e : stands_in w k ≡ true) {x : Left} (q : x ≡ left_of (free_in w k)) where
    only-free : only_in w k ≡ one_slot (free_in w k)
    only-free = in_list_lem ∙ ap (λ (b : Bool). cond b 0 (one_slot (free_in w k))) (stands_whole e)

    pub only-lacks : (x.count ≡ 1 → ⊥) → 0 ≡ only_in w k
    only-lacks z = sym (only-free ∙ none_of (free_in w k) (λ y. z (ap (λ (l : Left). l.count) q ∙ y)))

    pub only-found : x.count ≡ 1 → suc x.first ≡ only_in w k
    only-found z = ap (λ (l : Left). suc l.first) q ∙ sym (only-free ∙ one_of (free_in w k) (sym (ap (λ (l : Left). l.count) q) ∙ z))

-- a slot that was found is the one that is left; and where none was, the clause does not stand, or it has not one left
pub only-some : (w : List ℕ) (k : ℕ) {s : ℕ} → suc s ≡ only_in w k
    → (stands_in w k ≡ true) × (◌≡◌ {A = Left} (record { count = 1; first = s }) (left_of (free_in w k)))
only-some w k {s} e = go (ltb k (clause_count w)) (whole_in w (base_at w k) (length_at w k)) (free_in w k) e
  where
    go : (x y : Bool) (ss : List ℕ) → suc s ≡ cond x (cond y 0 (one_slot ss)) 0
        → ((x && not y) ≡ true) × (◌≡◌ {A = Left} (record { count = 1; first = s }) (left_of ss))
    go true true ss q = absurd (omega (arith, q))
    go true false [] q = absurd (omega (arith, q))
    go true false (r ∷ []) q =
        let y : s ≡ r = omega (arith, q) in
        (refl, ap (λ (m : ℕ). record { count = 1; first = m }) y)
    go true false (r ∷ u ∷ ss) q = absurd (omega (arith, q))
    go false y ss q = absurd (omega (arith, q))

pub only_none : (w : List ℕ) (k : ℕ) → 0 ≡ only_in w k → stands_in w k ≡ true → (left_of (free_in w k)).count ≡ 1 → ⊥
only_none w k e = go (ltb k (clause_count w)) (whole_in w (base_at w k) (length_at w k)) (free_in w k) (sym e)
  where
    go : (x y : Bool) (ss : List ℕ) → cond x (cond y 0 (one_slot ss)) 0 ≡ 0 → (x && not y) ≡ true → length ss ≡ 1 → ⊥
    go true true ss q a b = false≢true a
    go true false [] q a b = omega (arith, b)
    go true false (s ∷ []) q a b = omega (arith, q)
    go true false (s ∷ u ∷ ss) q a b = omega (arith, b)
    go false y ss q a b = false≢true a

-- ---- whether nothing is left of a clause that stands

and-false : (b : Bool) → (b && false) ≡ false
and-false true = refl
and-false false = refl

-- of m slots from s on: none says that the clause is struck, and none is without a strike
abbrev pub bare : List ℕ → ℕ → ℕ → Bool
bare w s m = not (whole_in w s m) && eqb (length (free_from w s m)) 0

pub empty-not : (w : List ℕ) (k : ℕ) → clause_count w ≤ k → false ≡ empty_in w k
empty-not w k h = simp (le-ltb k (clause_count w) h)

pub empty_starts : (w : List ℕ) (k : ℕ) {s e : ℕ} → k < clause_count w → s ≡ base_at w k → e ≡ base_at w (k + 1) → empty_in w k ≡ bare w s (e - s)
empty_starts w k {s} {e} h p q =
    let z : empty_in w k ≡ bare w (base_at w k) (length_at w k) = simp (lt-ltb k (clause_count w) h) in
    z ∙ sym (ap (λ (x : ℕ). bare w x (e - x)) p ∙ ap (λ (x : ℕ). bare w (base_at w k) (x - base_at w k)) q)

-- what is left from slot s on is the answer
module _ (w : List ℕ) (k s e : ℕ) (q : empty_in w k ≡ bare w s (e - s)) where
  bare_step : s < e → {v : ℕ} → v ≡ strike_at w s
      → empty_in w k ≡ (not (leb whole v || whole_in w (s + 1) (e - (s + 1))) && eqb
      (length (cond (eqb v 0) (s ∷ free_from w (s + 1) (e - (s + 1))) (free_from w (s + 1) (e - (s + 1))))) 0)
  bare_step h {v} g =
      q ∙ ap (λ (b : Bool). not b && eqb (length (free_from w s (e - s))) 0) (whole-step w s e h)
      ∙ ap (λ (ss : List ℕ). not (is_whole w s || whole_in w (s + 1) (e - (s + 1))) && eqb (length ss) 0) (free_step w s e h)
      ∙ sym (ap (λ (x : ℕ). not (leb whole x || whole_in w (s + 1) (e - (s + 1))) && eqb
      (length (cond (eqb x 0) (s ∷ free_from w (s + 1) (e - (s + 1))) (free_from w (s + 1) (e - (s + 1))))) 0) g)

  pub empty-later : {v : ℕ} → s < e → v ≡ strike_at w s → v ≡ notes → empty_in w k ≡ bare w (s + 1) (e - (s + 1))
  empty-later {v} h g b = bare_step h g ∙ simp (lt-leb whole v (omega (arith, b)), ne_eqb v 0 (λ x. omega (arith, b, x)))

  pub empty_ends : e ≤ s → true ≡ empty_in w k
  empty_ends h = sym (q ∙ ap (λ (b : Bool). not b && eqb (length (free_from w s (e - s))) 0) (whole-none w s e h)
      ∙ ap (λ (ss : List ℕ). eqb (length ss) 0) (free_none w s e h))

  -- a strike is a multiple of `notes`
  pub empty-falls : {v : ℕ} → s < e → v ≡ strike_at w s → (v ≡ notes → ⊥) → false ≡ empty_in w k
  empty-falls {v} h g n = sym (bare_step h g ∙ go (ℕ_discrete v 0))
    where
      go : Dec (v ≡ 0)
          → (not (leb whole v || whole_in w (s + 1) (e - (s + 1))) && eqb
          (length (cond (eqb v 0) (s ∷ free_from w (s + 1) (e - (s + 1))) (free_from w (s + 1) (e - (s + 1))))) 0) ≡ false
      go (yes z) = ap (λ (b : Bool). not (leb whole v || whole_in w (s + 1) (e - (s + 1))) && eqb
          (length (cond b (s ∷ free_from w (s + 1) (e - (s + 1))) (free_from w (s + 1) (e - (s + 1))))) 0) (eq-eqb v 0 z)
          ∙ ap (not (leb whole v || whole_in w (s + 1) (e - (s + 1))) &&◌) (ne_eqb (length (s ∷ free_from w (s + 1) (e - (s + 1)))) 0 (λ x. omega (arith, x)))
          ∙ and-false (not (leb whole v || whole_in w (s + 1) (e - (s + 1))))
      go (no z) = ap (λ (b : Bool). not (b || whole_in w (s + 1) (e - (s + 1))) && eqb
          (length (cond (eqb v 0) (s ∷ free_from w (s + 1) (e - (s + 1))) (free_from w (s + 1) (e - (s + 1))))) 0)
          (le-leb whole v (omega (arith, g, n, z)))

-- ---- what is true

is-holds : (v : Value) → is_holds v ≡ eqb (value_code v) 1
is-holds holds = refl
is-holds fails = refl
is-holds undecided = refl

module _ (w : List ℕ) (s : ℕ) {v : ℕ} (e : v ≡ strike_at w s) where
  pub true_struck : (v ≡ 0 → ⊥) → false ≡ (eqb (strike_at w s) 0 && is_holds (value_of (g_of w) (slot_at w s)))
  true_struck z = sym (ap (◌&& is_holds (value_of (g_of w) (slot_at w s))) (ne_eqb (strike_at w s) 0 (λ q. z (e ∙ q))))

  pub true-by : {l u : ℕ} → v ≡ 0 → l ≡ slot_at w s → u ≡ value_code (value_of (g_of w) l)
      → eqb u 1 ≡ (eqb (strike_at w s) 0 && is_holds (value_of (g_of w) (slot_at w s)))
  true-by {l} {u} z g h =
      ap (λ (x : ℕ). eqb x 1) (h ∙ ap (λ (x : ℕ). value_code (value_of (g_of w) x)) g) ∙ sym (is-holds (value_of (g_of w) (slot_at w s)))
      ∙ sym (ap (◌&& is_holds (value_of (g_of w) (slot_at w s))) (eq-eqb (strike_at w s) 0 (sym e ∙ z)))

-- the first true slot from slot s on is the answer
module _ (w : List ℕ) (s e a : ℕ) (q : a ≡ true_from w s (e - s)) where
  true-step : {r : Bool} → s < e → r ≡ (eqb (strike_at w s) 0 && is_holds (value_of (g_of w) (slot_at w s)))
      → a ≡ cond r (suc s) (true_from w (s + 1) (e - (s + 1)))
  unfolding true_from
  true-step {r} h g =
      q ∙ ap (true_from w s) (count-step s e h)
      ∙ ap (λ (x : ℕ). cond (eqb (strike_at w s) 0 && is_holds (value_of (g_of w) (slot_at w s))) (suc s) (true_from w x (e - (s + 1)))) (sym (add-one s))
      ∙ ap (λ (b : Bool). cond b (suc s) (true_from w (s + 1) (e - (s + 1)))) (sym g)

  pub true_found : {r : Bool} → s < e → r ≡ (eqb (strike_at w s) 0 && is_holds (value_of (g_of w) (slot_at w s))) → r ≡ true → suc s ≡ a
  true_found h g b = sym (true-step h g ∙ ap (λ (x : Bool). cond x (suc s) (true_from w (s + 1) (e - (s + 1)))) b)

  pub true-later : {r : Bool} → s < e → r ≡ (eqb (strike_at w s) 0 && is_holds (value_of (g_of w) (slot_at w s))) → r ≡ false
      → a ≡ true_from w (s + 1) (e - (s + 1))
  true-later h g b = true-step h g ∙ ap (λ (x : Bool). cond x (suc s) (true_from w (s + 1) (e - (s + 1)))) b

  pub true-none : e ≤ s → 0 ≡ a
  unfolding true_from
  true-none h = sym (q ∙ ap (true_from w s) (count_none s e h))
