-- `words::double` meets its contract: four bytes, which are two words. Assumes nothing.
use mathlib.Core.Path.{◌≡◌, ap}
use Prim.Native.Nat.{ℕ, ◌+◌}
use native.Mathlib.Omega.{arith}
use lib.ListN.{get_or}
use Rattle.words.proofs.double.Goals as goal

pub overflow_cast-result : goal.overflow_cast-result
overflow_cast-result c = omega (arith, c.type_inv.b c.args.at)

pub overflow_cast-result-2 : goal.overflow_cast-result-2
overflow_cast-result-2 c = omega (arith, c.type_inv.b (c.args.at + 1))

pub overflow_mul-result : goal.overflow_mul-result
overflow_mul-result c = omega (arith, c.type_inv.b (c.args.at + 1))

pub overflow_add-result-2 : goal.overflow_add-result-2
overflow_add-result-2 c = omega (arith, c.type_inv.b c.args.at, c.type_inv.b (c.args.at + 1))

pub overflow_cast-result-3 : goal.overflow_cast-result-3
overflow_cast-result-3 c = omega (arith, c.type_inv.b (c.args.at + 2))

pub overflow_mul-result-2 : goal.overflow_mul-result-2
overflow_mul-result-2 c = omega (arith, c.type_inv.b (c.args.at + 2))

pub overflow_add-result-4 : goal.overflow_add-result-4
overflow_add-result-4 c = omega (arith, c.type_inv.b c.args.at, c.type_inv.b (c.args.at + 1), c.type_inv.b (c.args.at + 2))

pub overflow_cast-result-4 : goal.overflow_cast-result-4
overflow_cast-result-4 c = omega (arith, c.type_inv.b (c.args.at + 3))

pub overflow_mul-result-3 : goal.overflow_mul-result-3
overflow_mul-result-3 c = omega (arith, c.type_inv.b (c.args.at + 3))

pub overflow_add-result-6 : goal.overflow_add-result-6
overflow_add-result-6 c = omega (arith, c.type_inv.b c.args.at, c.type_inv.b (c.args.at + 1), c.type_inv.b (c.args.at + 2), c.type_inv.b (c.args.at + 3))

pub returns : goal.returns
returns c = let last : get_or c.args.b.now (c.args.at + 3) 0 ≡ get_or c.args.b.now (c.args.at + 2 + 1) 0 = ap (λ (i : ℕ). get_or c.args.b.now i 0) (omega arith) in
    omega (arith, last)
