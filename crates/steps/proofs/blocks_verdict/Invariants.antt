-- `steps::blocks_verdict` meets its contract: what is left of the blocks at j is the answer. Assumes nothing.
use mathlib.Core.Path.{◌≡◌}
use Prim.Native.Nat.{◌-◌}
use Rattle.scope.specs.Outcome.{first}
use Rattle.steps.specs.Opened.{block_row}
use Rattle.steps.proofs.blocks_verdict.Given as goal

abbrev pub invariant-loop-j : goal.invariant-loop-j
invariant-loop-j l = first (block_row l.d) l.j (l.j-end - l.j) ≡ first (block_row l.d) 0 l.j-end
