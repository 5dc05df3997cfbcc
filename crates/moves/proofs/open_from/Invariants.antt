use mathlib.Core.Path.{◌≡◌}
use mathlib.Core.Bool.{true}
use Prim.Native.Nat.{ℕ, ◌<◌, ◌≤◌}
use Rattle.calculus.specs.Order.{some}
use Rattle.index.specs.Index.{index_node}
use Rattle.clause.specs.Coded.{is_open}
use Rattle.state.specs.Work.{tail, g_of, cursor_of}
use Rattle.state.specs.Holds.{states_at}
use Rattle.moves.proofs.open_from.Given as goal

abbrev pub invariant-loop-q : goal.invariant-loop-q
invariant-loop-q l = (p : ℕ) → p < l.q → cursor_of l.work ≤ p → some is_open (states_at (index_node l.x) (g_of l.work) (tail l.work) p) ≡ true → ⊥
