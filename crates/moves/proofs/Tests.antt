-- The tests of states that a move is made of. Assumes nothing.
use mathlib.Core.Path.{◌≡◌, refl, sym, ◌∙◌}
use mathlib.Core.Bool.{Bool, true, false, cond, ◌||◌, false≢true}
use mathlib.Core.List.{List, [], ◌∷◌}
use Prim.Native.Nat.{ℕ, suc, ◌<◌}
use native.Mathlib.Omega.{arith}
use lib.ListN.{length}
use Rattle.scope.proofs.Tests.{or_left, or_right}
use Rattle.calculus.specs.Order.{Value, holds, fails, undecided, State, met, empty, one, many, joined, literal_of, literal_at, is_empty, is_one, is_many, some, first_of, move_of}
use Rattle.calculus.specs.Model.{All}
use Rattle.calculus.specs.declared.Move.TheVariants.{Conflict, Unit as Single, Done, Split}
use Rattle.clause.specs.Coded.{is_open}
use Rattle.state.specs.Work.{value_code}

-- ---- the move by the tests

module _ (ss : List State) where
  pub move_conflict : some is_empty ss ≡ true → move_of ss ≡ Conflict (first_of is_empty ss)
  unfolding move_of
  move_conflict e = rw e

  pub move_unit : some is_empty ss ≡ false → some is_one ss ≡ true → move_of ss ≡ Single (first_of is_one ss) (literal_at ss (first_of is_one ss))
  unfolding move_of
  move_unit e f = rw (e, f)

-- where no clause is a unit, an open one has several undecided literals
open_many : (ss : List State) → some is_one ss ≡ false → (some is_open ss ≡ some is_many ss) × (first_of is_open ss ≡ first_of is_many ss)
unfolding some first_of
open_many [] e = (refl, refl)
open_many (s ∷ ss) e =
    let r = open_many ss (or_right (is_one s) (some is_one ss) e) in
    rw (or_left (is_one s) (some is_one ss) e, r.0, r.1) (refl, refl)

module _ (ss : List State) (e : some is_empty ss ≡ false) (f : some is_one ss ≡ false) where
  pub move-split : some is_open ss ≡ true → move_of ss ≡ Split (literal_at ss (first_of is_open ss))
  unfolding move_of
  move-split o =
      let m : some is_many ss ≡ true = sym (open_many ss f).0 ∙ o in
      rw (e, f, m, (open_many ss f).1)

  pub move-done : some is_open ss ≡ false → move_of ss ≡ Done
  unfolding move_of
  move-done o =
      let m : some is_many ss ≡ false = sym (open_many ss f).0 ∙ o in
      rw (e, f, m)

-- neither all false nor open: met
pub all_met : (ss : List State) → some is_empty ss ≡ false → some is_open ss ≡ false → All (λ s. s ≡ met) ss
unfolding some
all_met [] e o = tt
all_met (s ∷ ss) e o = (
  one_met s (or_left (is_empty s) (some is_empty ss) e) (or_left (is_open s) (some is_open ss) o),
  all_met ss (or_right (is_empty s) (some is_empty ss) e) (or_right (is_open s) (some is_open ss) o),
)
  where
    one_met : (s : State) → is_empty s ≡ false → is_open s ≡ false → s ≡ met
    one_met met e o = refl
    one_met empty e o = absurd (false≢true (sym e))
    one_met (one l) e o = absurd (false≢true (sym o))
    one_met (many l) e o = absurd (false≢true (sym o))

-- and met clauses are not open
pub met_closed : (ss : List State) → All (λ s. s ≡ met) ss → some is_open ss ≡ false
unfolding some
met_closed [] h = refl
met_closed (s ∷ ss) h = rw h.0 (met_closed ss h.1)

pub first_low : (p : State → Bool) (ss : List State) → some p ss ≡ true → first_of p ss < length ss
unfolding some first_of
first_low p [] e = absurd (false≢true e)
first_low p (s ∷ ss) e = go (p s) e (first_low p ss)
  where
    go : (b : Bool) → (b || some p ss) ≡ true → (some p ss ≡ true → first_of p ss < length ss) → cond b 0 (suc (first_of p ss)) < suc (length ss)
    go true e f = omega arith
    go false e f = omega (arith, f e)

-- ---- a goal's clause, by the goal's value

pub goal_false : (v : Value) (l : ℕ) → value_code v ≡ 2 → is_empty (joined v l empty) ≡ true
goal_false holds l e = absurd (omega arith)
goal_false fails l e = refl
goal_false undecided l e = absurd (omega arith)

pub goal_unfalse : (v : Value) (l : ℕ) → (value_code v ≡ 2 → ⊥) → is_empty (joined v l empty) ≡ false
goal_unfalse holds l e = refl
goal_unfalse fails l e = absurd (e refl)
goal_unfalse undecided l e = refl

pub goal_unit : (v : Value) (l : ℕ) → value_code v ≡ 0 → (is_one (joined v l empty) ≡ true) × (literal_of (joined v l empty) ≡ l)
goal_unit holds l e = absurd (omega arith)
goal_unit fails l e = absurd (omega arith)
goal_unit undecided l e = (refl, refl)

pub goal_ununit : (v : Value) (l : ℕ) → (value_code v ≡ 0 → ⊥) → is_one (joined v l empty) ≡ false
goal_ununit holds l e = refl
goal_ununit fails l e = refl
goal_ununit undecided l e = absurd (e refl)
