-- Where the next move is a split, every goal is true, so none waits. Assumes nothing.
use mathlib.Core.Path.{◌≡◌, refl, sym}
use mathlib.Core.Bool.{false, false≢true}
use mathlib.Core.List.{List}
use Prim.Native.Nat.{ℕ, ◌<◌}
use native.Mathlib.Omega.{arith}
use native.Mathlib.Decide.{ℕ_discrete}
use lib.ListN.{length, get_or}
use Rattle.scope.specs.declared.Node.{Node}
use Rattle.calculus.specs.Expansion.{expand}
use Rattle.calculus.specs.Order.{Value, holds, fails, undecided, value_of, empty, joined, is_empty, is_one, move, some}
use Rattle.state.specs.Work.{tail, g_of, waiting_of}
use Rattle.state.specs.Holds.{Holds, Splits}
use Rattle.state.proofs.Clauses.{sofar, none-at, none-goals, goal_state_lem, goals-length, split-none}

-- a goal that is neither false nor undecided is true
goal_holds : (v : Value) (l : ℕ) → is_empty (joined v l empty) ≡ false → is_one (joined v l empty) ≡ false → v ≡ holds
goal_holds holds l a b = refl
goal_holds fails l a b = absurd (false≢true (sym a))
goal_holds undecided l a b = absurd (false≢true (sym b))

module _ (t : ℕ → Node) (goals w : List ℕ) (s : Splits (expand t) goals (g_of w)) where
  -- no clause is all false, and none is a unit
  pub split_clear : (some is_empty (sofar t goals (g_of w) (tail w) (tail w 0)) ≡ false) × (some is_one (sofar t goals (g_of w) (tail w) (tail w 0)) ≡ false)
  unfolding move
  split_clear = split-none (sofar t goals (g_of w) (tail w) (tail w 0)) s.0 s.1

  pub split-true : (k : ℕ) → k < length goals → value_of (g_of w) (get_or goals k 0) ≡ holds
  split-true k i =
      let z : k < length (sofar t goals (g_of w) (tail w) 0) = omega (arith, i, goals-length t goals (g_of w) (tail w)) in
      let a = none-at is_empty _ k (none-goals t goals (g_of w) (tail w) is_empty (tail w 0) split_clear.0) z in
      let o = none-at is_one _ k (none-goals t goals (g_of w) (tail w) is_one (tail w 0) split_clear.1) z in
      let g = goal_state_lem t goals (g_of w) (tail w) k i in
      goal_holds (value_of (g_of w) (get_or goals k 0)) (get_or goals k 0) (rw g at a) (rw g at o)

pub split_idle : {t : ℕ → Node} {n : ℕ} {goals w m : List ℕ} → Holds t n goals w m → Splits (expand t) goals (g_of w) → waiting_of w ≡ 0
split_idle {t} {n} {goals} {w} H s = go (ℕ_discrete (waiting_of w) 0)
  where
    go : Dec (waiting_of w ≡ 0) → waiting_of w ≡ 0
    go (yes e) = e
    go (no e) = let (k, i, y) = H.waiting.on e in absurd (y (split-true t goals w s k i))
