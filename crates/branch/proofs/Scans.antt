-- What the code reads of a clause's slots, and what the rules say of the clause. Assumes nothing.
use mathlib.Core.Path.{◌≡◌, refl, sym, ap, ◌∙◌, subst}
use mathlib.Core.Bool.{Bool, true, false, cond, not, ◌&&◌, ◌||◌, false≢true}
use mathlib.Core.Logic.{◌⊎◌, inl, inr}
use mathlib.Core.List.{List, [], ◌∷◌, map}
use Prim.Native.Nat.{ℕ, zero, suc, ◌+◌, ◌<◌, ◌≤◌}
use native.Mathlib.Omega.{arith}
use lib.Dec.{eqb}
use lib.ListN.{length, get_or}
use borrow.Author.Tests.{ne_eqb, eqb-true, leb-true}
use Rattle.scope.proofs.Tests.{by_test}
use Rattle.calculus.specs.Order.{mem, value_of}
use Rattle.calculus.specs.Model.{All}
use Rattle.rules.specs.Rules.{among, is_holds, Branch, unstruck, any_holds}
use Rattle.area.specs.Area.{most_slots, whole, slot_at, strike_at, is_whole, g_of, whole_in, free_from, true_from}
use Rattle.branch.specs.Clauses.{flat, offset}
use Rattle.branch.specs.Holds.{Strike, clauses_in, literals_in, slot_of, Valid, Marked}
use Rattle.branch.proofs.Marks.{slot_below, hit, hit_slot, hit_kind, among_hit}

-- two tests that pass together
same_bool : (a b : Bool) → (a ≡ true → b ≡ true) → (b ≡ true → a ≡ true) → a ≡ b
same_bool true b f g = sym (f refl)
same_bool false true f g = g refl
same_bool false false f g = refl

not_swap : (a b : Bool) → a ≡ not b → b ≡ not a
not_swap true true e = absurd (false≢true (sym e))
not_swap true false e = refl
not_swap false true e = refl
not_swap false false e = absurd (false≢true e)

-- ---- a clause that is struck as a whole

whole-at : (w : List ℕ) (s m p : ℕ) → p < m → is_whole w (s + p) ≡ true → whole_in w s m ≡ true
unfolding whole_in
whole-at w s zero p h e = absurd (omega (arith, h))
whole-at w s (suc m) zero h e =
    let z : s + 0 ≡ s = omega arith in
    ap (◌|| whole_in w (suc s) m) (ap (is_whole w) (sym z) ∙ e)
whole-at w s (suc m) (suc p) h e =
    let z : suc s + p ≡ s + suc p = omega arith in
    by_test (is_whole w s) (λ q. simp q) (λ q. simp (q, whole-at w (suc s) m p (omega (arith, h)) (ap (is_whole w) z ∙ e)))

whole-some : (w : List ℕ) (s m : ℕ) → whole_in w s m ≡ true → (p : ℕ) × (p < m) × (is_whole w (s + p) ≡ true)
unfolding whole_in
whole-some w s zero e = absurd (false≢true e)
whole-some w s (suc m) e =
    let y : s + 0 ≡ s = omega arith in
    by_test (is_whole w s)
    (λ q. (0, omega arith, ap (is_whole w) y ∙ q))
    (λ q.
    let r = whole-some w (suc s) m (rw q at e) in
    let z : s + suc r.0 ≡ suc s + r.0 = omega arith in
    (suc r.0, omega (arith, r.1), ap (is_whole w) z ∙ r.2))

module _ (cs : List (List ℕ)) (w : List ℕ) (S : List Strike) (room : length (flat cs) ≤ most_slots) (h : Marked cs w S) (k : ℕ) (a : k < length cs) where
  module _ (p : ℕ) (b : p < length (get_or cs k [])) where
    flag : eqb (strike_at w (offset cs k + p)) 0 ≡ not (hit k p S)
    flag =
        h.chained.flags (offset cs k + p) (omega (arith, slot_below cs k p a b, room))
        ∙ ap not (hit_slot cs w k p a b S h.valid)

    whole-hit : is_whole w (offset cs k + p) ≡ true → hit k p S ≡ true
    whole-hit e =
        let z : strike_at w (offset cs k + p) ≡ 0 → ⊥ = λ q. omega (arith, q, leb-true whole (strike_at w (offset cs k + p)) e) in
        not_swap (eqb (strike_at w (offset cs k + p)) 0) (hit k p S) flag ∙ ap not (ne_eqb (strike_at w (offset cs k + p)) 0 z)

    whole_mem : is_whole w (offset cs k + p) ≡ true → mem k (clauses_in S) ≡ true
    whole_mem e = go (hit_kind cs w k p a b S h.valid (whole-hit e))
      where
        go : ((is_whole w (offset cs k + p) ≡ true) × (mem k (clauses_in S) ≡ true)) ⊎ ((is_whole w (offset cs k + p) ≡ false) × (among
            (record { clause = k; position = p }) (literals_in S) ≡ true))
            → mem k (clauses_in S) ≡ true
        go (inl r) = r.1
        go (inr r) = absurd (false≢true (sym r.0 ∙ e))

    -- a literal of a clause that stands is struck where its slot has a strike
    pub struck-is : whole_in w (offset cs k) (length (get_or cs k [])) ≡ false
        → among (record { clause = k; position = p }) (literals_in S) ≡ not (eqb (strike_at w (offset cs k + p)) 0)
    struck-is e =
        same_bool (among (record { clause = k; position = p }) (literals_in S)) (hit k p S) (among_hit cs w k p a b S) back
        ∙ not_swap (eqb (strike_at w (offset cs k + p)) 0) (hit k p S) flag
      where
        back : hit k p S ≡ true → among (record { clause = k; position = p }) (literals_in S) ≡ true
        back q = go (hit_kind cs w k p a b S h.valid q)
          where
            go : ((is_whole w (offset cs k + p) ≡ true) × (mem k (clauses_in S) ≡ true)) ⊎ ((is_whole w (offset cs k + p) ≡ false) × (among
                (record { clause = k; position = p }) (literals_in S) ≡ true))
                → among (record { clause = k; position = p }) (literals_in S) ≡ true
            go (inl r) = absurd (false≢true (sym e ∙ whole-at w (offset cs k) (length (get_or cs k [])) p b r.0))
            go (inr r) = r.1

  -- a struck clause has a slot that says so
  mem_whole : (T : List Strike) → All (Valid cs w) T → mem k (clauses_in T) ≡ true
      → (p : ℕ) × (p < length (get_or cs k [])) × (is_whole w (offset cs k + p) ≡ true)
  unfolding clauses_in mem
  mem_whole [] v e = absurd (false≢true e)
  mem_whole (s ∷ T) v e = go s.whole v.0.kind e (mem_whole T v.1)
    where
      Found : Type 0
      Found = (p : ℕ) × (p < length (get_or cs k [])) × (is_whole w (offset cs k + p) ≡ true)

      go : (x : Bool) → is_whole w (slot_of cs s) ≡ x → mem k (cond x (s.clause ∷ clauses_in T) (clauses_in T)) ≡ true → (mem k (clauses_in T) ≡ true → Found)
          → Found
      go false i q r = r q
      go true i q r =
          by_test (eqb k s.clause)
          (λ y.
          let z : s.clause ≡ k = sym (eqb-true k s.clause y) in (
            s.position,
            subst (λ (j : ℕ). s.position < length (get_or cs j [])) z v.0.position,
            ap (λ (j : ℕ). is_whole w (offset cs j + s.position)) (sym z)
                ∙ i,
          ))
          (λ y. r (rw y at q))

  pub whole_is : whole_in w (offset cs k) (length (get_or cs k [])) ≡ mem k (clauses_in S)
  whole_is =
      same_bool (whole_in w (offset cs k) (length (get_or cs k []))) (mem k (clauses_in S))
      (λ e.
      let r = whole-some w (offset cs k) (length (get_or cs k [])) e in
      whole_mem r.0 r.1 r.2)
      (λ e.
      let r = mem_whole S h.valid e in
      whole-at w (offset cs k) (length (get_or cs k [])) r.0 r.1 r.2)

-- ---- the literals that are left

pub left-from : (w : List ℕ) (b : Branch) (k s p : ℕ) (c : List ℕ) → ((i : ℕ) → i < length c → slot_at w (s + i) ≡ get_or c i 0)
    → ((i : ℕ) → i < length c → among (record { clause = k; position = p + i }) b.struck_literals ≡ not (eqb (strike_at w (s + i)) 0))
    → map (slot_at w) (free_from w s (length c)) ≡ unstruck b k p c
unfolding free_from unstruck
left-from w b k s p [] f g = refl
left-from w b k s p (l ∷ c) f g =
    go (eqb (strike_at w s) 0) (ap (λ (q : ℕ). among (record { clause = k; position = q }) b.struck_literals) (sym y) ∙ g 0 (omega arith)
    ∙ ap (λ (q : ℕ). not (eqb (strike_at w q) 0)) z)
    (ap (slot_at w) (sym z) ∙ f 0 (omega arith))
    (left-from w b k (suc s) (suc p) c
    (λ i h. ap (slot_at w) (shift s i) ∙ f (suc i) (omega (arith, h)))
    (λ i h. ap (λ (q : ℕ). among (record { clause = k; position = q }) b.struck_literals) (shift p i) ∙ g (suc i) (omega (arith, h))
    ∙ ap (λ (q : ℕ). not (eqb (strike_at w q) 0)) (sym (shift s i))))
  where
    z : s + 0 ≡ s
    z = omega arith

    y : p + 0 ≡ p
    y = omega arith

    shift : (q i : ℕ) → suc q + i ≡ q + suc i
    shift q i = omega arith

    go : (x : Bool) → among (record { clause = k; position = p }) b.struck_literals ≡ not x → slot_at w s ≡ l
        → map (slot_at w) (free_from w (suc s) (length c)) ≡ unstruck b k (suc p) c
        → map (slot_at w) (cond x (s ∷ free_from w (suc s) (length c)) (free_from w (suc s) (length c)))
        ≡ cond (among (record { clause = k; position = p }) b.struck_literals) (unstruck b k (suc p) c) (l ∷ unstruck b k (suc p) c)
    go true e q r = ap (◌∷ map (slot_at w) (free_from w (suc s) (length c))) q ∙ ap (l ∷◌) r
        ∙ sym (ap (λ (u : Bool). cond u (unstruck b k (suc p) c) (l ∷ unstruck b k (suc p) c)) e)
    go false e q r = r ∙ sym (ap (λ (u : Bool). cond u (unstruck b k (suc p) c) (l ∷ unstruck b k (suc p) c)) e)

-- the slots that are left lie within the clause, and have no strike
abbrev pub Open : List ℕ → ℕ → ℕ → ℕ → Type 0
Open w s m x = (s ≤ x) × (x < s + m) × (strike_at w x ≡ 0)

open_wider : (w : List ℕ) (s m x : ℕ) → Open w (suc s) m x → Open w s (suc m) x
open_wider w s m x r = (omega (arith, r.0), omega (arith, r.1), r.2)

pub free_open : (w : List ℕ) (s m : ℕ) → All (Open w s m) (free_from w s m)
unfolding free_from
free_open w s zero = tt
free_open w s (suc m) = go (eqb (strike_at w s) 0) refl (wider (free_from w (suc s) m) (free_open w (suc s) m))
  where
    wider : (xs : List ℕ) → All (Open w (suc s) m) xs → All (Open w s (suc m)) xs
    wider [] a = tt
    wider (x ∷ xs) a = (open_wider w s m x a.0, wider xs a.1)

    go : (b : Bool) → eqb (strike_at w s) 0 ≡ b → All (Open w s (suc m)) (free_from w (suc s) m)
        → All (Open w s (suc m)) (cond b (s ∷ free_from w (suc s) m) (free_from w (suc s) m))
    go true e a = ((omega arith, omega arith, eqb-true (strike_at w s) 0 e), a)
    go false e a = a

-- the first slot that is true: there is one where some literal that is left is true
pub true-is : (w : List ℕ) (s m : ℕ) → any_holds (g_of w) (map (slot_at w) (free_from w s m)) ≡ not (eqb (true_from w s m) 0)
unfolding true_from free_from any_holds
true-is w s zero = refl
true-is w s (suc m) = go (eqb (strike_at w s) 0) (is_holds (value_of (g_of w) (slot_at w s))) refl (true-is w (suc s) m)
  where
    go : (x y : Bool) → is_holds (value_of (g_of w) (slot_at w s)) ≡ y
        → any_holds (g_of w) (map (slot_at w) (free_from w (suc s) m)) ≡ not (eqb (true_from w (suc s) m) 0)
        → any_holds (g_of w) (map (slot_at w) (cond x (s ∷ free_from w (suc s) m) (free_from w (suc s) m))) ≡ not
        (eqb (cond (x && y) (suc s) (true_from w (suc s) m)) 0)
    go false y q r = r
    go true true q r = ap (◌|| any_holds (g_of w) (map (slot_at w) (free_from w (suc s) m))) q ∙ sym (ap not (ne_eqb (suc s) 0 (λ e. omega (arith, e))))
    go true false q r = ap (◌|| any_holds (g_of w) (map (slot_at w) (free_from w (suc s) m))) q ∙ r

pub true_open : (w : List ℕ) (s m : ℕ) {v : ℕ} → suc v ≡ true_from w s m → Open w s m v
unfolding true_from
true_open w s zero {v} e = absurd (omega (arith, e))
true_open w s (suc m) {v} e = go (eqb (strike_at w s) 0) (is_holds (value_of (g_of w) (slot_at w s))) refl e (λ q. true_open w (suc s) m q)
  where
    at : suc v ≡ suc s → strike_at w s ≡ 0 → Open w s (suc m) v
    at q z =
        let y : s ≡ v = omega (arith, q) in
        subst (Open w s (suc m)) y (omega arith, omega arith, z)

    go : (x y : Bool) → eqb (strike_at w s) 0 ≡ x → suc v ≡ cond (x && y) (suc s) (true_from w (suc s) m)
        → (suc v ≡ true_from w (suc s) m → Open w (suc s) m v) → Open w s (suc m) v
    go false y p q r = open_wider w s m v (r q)
    go true true p q r = at q (eqb-true (strike_at w s) 0 p)
    go true false p q r = open_wider w s m v (r q)
