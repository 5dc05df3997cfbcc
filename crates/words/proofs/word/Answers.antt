use Prim.Native.Nat.{◌+◌}
use native.Mathlib.Omega.{arith}
use Rattle.words.proofs.word.Goals as goal

-- src/lib.rt:38:6
pub overflow_cast-result : goal.overflow_cast-result
overflow_cast-result c = omega (arith, c.type_inv.b c.args.at)

-- src/lib.rt:38:29
pub overflow_cast-result-2 : goal.overflow_cast-result-2
overflow_cast-result-2 c = omega (arith, c.type_inv.b (c.args.at + 1))

-- src/lib.rt:38:22
pub overflow_mul-result : goal.overflow_mul-result
overflow_mul-result c = omega (arith, c.type_inv.b (c.args.at + 1))

-- src/lib.rt:38:5
pub overflow_add-result-2 : goal.overflow_add-result-2
overflow_add-result-2 c = omega (arith, c.type_inv.b (c.args.at + 1), c.type_inv.b c.args.at)
