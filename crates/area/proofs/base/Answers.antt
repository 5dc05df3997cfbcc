-- `area::base` meets its contract. The number of a base is read. Assumes nothing.
use native.Mathlib.Omega.{arith}
use Prim.Native.Nat.{◌+◌}
use Rattle.area.specs.Area.{bases_from}
use Rattle.area.proofs.base.Goals as goal

pub overflow_cast-result : goal.overflow_cast-result
overflow_cast-result c = omega (arith, c.type_inv.work (bases_from + c.args.k))
