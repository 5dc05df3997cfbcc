use mathlib.Core.Path.{◌≡◌}
use Prim.Native.Nat.{◌≤◌, ◌-◌}
use Rattle.scope.specs.Block.{zeros}
use Rattle.block.proofs.padding_ok.Given as goal

abbrev pub invariant-loop-i : goal.invariant-loop-i
invariant-loop-i l = (l.i ≤ 510) × (zeros l.b l.i (510 - l.i) ≡ zeros l.b l.from (510 - l.from))
