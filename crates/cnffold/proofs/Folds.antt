-- The folds, turn by turn: points, ORs, ANDs. Assumes nothing.
use mathlib.Core.Path.{◌≡◌, ◌∙◌, ap, refl}
use mathlib.Core.List.{List, ◌∷◌}
use Prim.Native.Nat.{ℕ, suc, ◌+◌, ◌-◌, ◌<◌, ◌≤◌}
use native.Mathlib.Numerals.{add-one}
use native.Mathlib.Omega.{arith}
use lib.ListN.{length, get_or, take, drop, drop_of_length-le}
use lib.Seq.{length-take-le, drop-cons, get_or-take}
use borrow.Author.Tests.{eq-eqb, ne_eqb}
use Rattle.scope.specs.Outcome.{answer, ◌>>=◌}
use Rattle.scope.specs.Calls.{Added as Written}
use Rattle.cnf.specs.Fold.{put, at, opposite, points, no_literal, or_all, or_clause, and_join}
use Rattle.growing.specs.Growing.{Table, state}

-- points: those from p on are left
pub point_next : (t : Written) (p vars : ℕ) → p < vars → points t p (vars - p) ≡ (put t 2 p 0 >>= λ u. points u (p + 1) (vars - (p + 1)))
unfolding points
point_next t p vars h =
    let q : vars - p ≡ suc (vars - (p + 1)) = omega arith in
    rw (q, add-one)

pub points-done : (t : Written) (p vars : ℕ) → vars ≤ p → points t p (vars - p) ≡ answer t
unfolding points
points-done t p vars h = let q : vars - p ≡ 0 = omega arith in rw q

-- ORs: the literals from i on are left
module _ (held : List ℕ) (count i : ℕ) (within : count ≤ length held) where
  pub or_next : (t : Written) → i < count
      → or_all t (drop i (take count held)) ≡ (put t 4 t.literal (get_or held i 0) >>= λ u. or_all u (drop (i + 1) (take count held)))
  unfolding or_all
  or_next t h =
      let inside : i < length (take count held) = omega (arith, length-take-le count held within) in
      rw (drop-cons (take count held) i 0 inside, get_or-take count held i 0 h, add-one)

  pub ors_done : (t : Written) → count ≤ i → or_all t (drop i (take count held)) ≡ answer t
  unfolding or_all
  ors_done t h = rw (drop_of_length-le (take count held) {i = i} (omega (arith, length-take-le count held within)))

pub or_first : (held : List ℕ) (count : ℕ) (t : Table) (buf : List ℕ) → count ≤ length held → 0 < count
    → or_clause (state 0 t buf) (take count held) ≡ or_all (state (get_or held 0 0) t buf) (drop 1 (take count held))
unfolding or_clause
or_first held count t buf within h =
    let inside : 0 < length (take count held) = omega (arith, length-take-le count held within) in
    let first : take count held ≡ get_or held 0 0 ∷ drop 1 (take count held) = drop-cons (take count held) 0 0 inside ∙ rw (get_or-take count held 0 0 h) in
    ap (or_clause (state 0 t buf)) first

pub or_none : (held : List ℕ) (count : ℕ) (t : Table) (buf : List ℕ) → count ≡ 0 → no_literal (state 0 t buf) ≡ or_clause (state 0 t buf) (take count held)
unfolding or_clause
or_none held count t buf e = rw e

-- ANDs
module _ (goal l : ℕ) (t : Table) (buf : List ℕ) where
  pub and_same : goal ≡ l → and_join goal (state l t buf) ≡ answer (state l t buf)
  unfolding and_join
  and_same e = rw (eq-eqb goal l e)

  pub and-opposite : (goal ≡ l → ⊥) → goal ≡ opposite l → no_literal (state 0 t buf) ≡ and_join goal (state l t buf)
  unfolding and_join no_literal
  and-opposite e q = rw (ne_eqb goal l e, eq-eqb goal (opposite l) q)

  pub and-put : (goal ≡ l → ⊥) → (goal ≡ opposite l → ⊥) → put (state 0 t buf) 3 goal l ≡ and_join goal (state l t buf)
  unfolding and_join
  and-put e q = rw (ne_eqb goal l e, ne_eqb goal (opposite l) q)

-- false
pub false-is : (t : Table) (buf : List ℕ) → no_literal (state 0 t buf) ≡ (put (state 0 t buf) 1 0 0 >>= λ u. answer (at u (opposite u.literal)))
unfolding no_literal
false-is t buf = refl
