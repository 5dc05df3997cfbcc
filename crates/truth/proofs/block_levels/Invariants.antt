use Prim.Native.Nat.{◌+◌, ◌*◌}
use Rattle.truth.specs.Evaluated.{Filled}
use Rattle.truth.proofs.block_levels.Given as goal

abbrev pub invariant-loop-i : goal.invariant-loop-i
invariant-loop-i l = Filled l.t l.s (63 * l.j + l.i) l.v
