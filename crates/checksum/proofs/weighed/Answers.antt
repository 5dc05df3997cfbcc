-- `checksum::weighed` meets its contract. The power is a fifth of the weight that the row starts with. Assumes nothing.
use mathlib.Core.Path.{◌≡◌}
use Prim.Native.Nat.{ℕ, ◌%◌, ◌<◌}
use lib.Dec.{lit<}
use native.Mathlib.Nat.{mod-lt}
use native.Mathlib.Omega.{arith}
use Rattle.checksum.proofs.Sums.{fifth_first, fifth_next, sum-none, sum_more, row_small}
use Rattle.checksum.proofs.weighed.Goals as goal

-- a power is below 65,521
small : {power : ℕ} (x : ℕ) → power ≡ x % 65521 → power < 65521
small x e = rw e (mod-lt _ (lit< tt))

pub loop-x-init : goal.loop-x-init
loop-x-init c = record { summed = sum-none _; high = omega arith; power = fifth_first }

pub loop-x-preserved : goal.loop-x-preserved
loop-x-preserved c = record {
  summed = sum_more _ c.loop-x.x-index c.loop-x.invariant.summed c.loop-x.invariant.power;
  high = omega (arith, row_small _ _ (c.type_inv.s c.loop-x.x-index).fits (small _ c.loop-x.invariant.power));
  power = fifth_next c.loop-x.x-index c.loop-x.invariant.power;
}
