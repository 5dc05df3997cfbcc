-- `checksum::part_of` meets its contract: the power is carried, and a byte changes the sum by at most 8,355,585. Assumes nothing.
use native.Mathlib.Omega.{arith}
use Rattle.checksum.proofs.Sums.{part_none, power_first, power_next, part_more}
use Rattle.checksum.proofs.part_of.Goals as goal

pub loop-j-init : goal.loop-j-init
loop-j-init c = record {
  summed = part_none c.args.b.now c.args.at c.args.first;
  high = omega arith;
  low = omega arith;
  power = power_first _ (omega arith);
}

pub loop-j-preserved : goal.loop-j-preserved
loop-j-preserved c = record {
  summed = part_more c.loop-j.sum _ _ c.args.at c.args.first _ c.loop-j.invariant.summed c.loop-j.invariant.power c.added-sum.ensures.0;
  high = omega (arith, c.added-sum.ensures.1);
  low = omega (arith, c.added-sum.ensures.2);
  power = power_next c.args.first _ c.loop-j.invariant.power;
}
