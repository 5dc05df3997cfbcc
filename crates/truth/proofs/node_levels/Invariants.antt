use Prim.Native.Nat.{◌*◌}
use Rattle.truth.specs.Evaluated.{Filled}
use Rattle.truth.proofs.node_levels.Given as goal

abbrev pub invariant-loop-j : goal.invariant-loop-j
invariant-loop-j l = Filled l.t l.s (63 * l.j) l.v
