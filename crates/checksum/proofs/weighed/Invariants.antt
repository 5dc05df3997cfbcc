use mathlib.Core.Path.{◌≡◌}
use Prim.Native.Nat.{◌≤◌, ◌*◌, ◌%◌}
use Rattle.scope.specs.Block.{weight}
use Rattle.checksum.specs.Sums.{rows_sum}
use Rattle.checksum.proofs.weighed.Given as goal

abbrev pub invariant-loop-x : goal.invariant-loop-x
invariant-loop-x l = record {
  summed : l.sum ≡ rows_sum l.s l.x-index;
  high : l.sum ≤ l.x-index * 281406257168400;
  power : l.power ≡ (52417 * weight (64 * l.x-index)) % 65521;
}
