use mathlib.Core.Path.{◌≡◌}
use Prim.Native.Nat.{ℕ, ◌<◌, ◌*◌, ◌%◌}
use lib.ListN.{length, get_or, drop}
use Rattle.scope.specs.Block.{weighted}
use Rattle.checksum.proofs.rows.Given as goal

abbrev pub invariant-loop-r : goal.invariant-loop-r
invariant-loop-r l = record {
  many : length l.sums ≡ 8;
  each : (k : ℕ) → k < l.r → get_or l.sums k 0 % 65521 ≡ (5 * weighted (drop (64 * k) l.b) 64) % 65521;
}
