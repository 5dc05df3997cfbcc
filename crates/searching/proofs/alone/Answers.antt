-- `searching::alone` meets its contract: sets that were just made are empty, and there are as many as the nodes need. Assumes nothing.
use Rattle.rests.proofs.Held.{slots_zero}
use native.Mathlib.Omega.{arith}
use Rattle.searching.proofs.alone.Goals as goal

pub go_on-requires-clause-left_off : goal.go_on-requires-clause-left_off
go_on-requires-clause-left_off c = (c.requires.left_off, slots_zero c.args.n 1012 (omega (arith, c.if-n-le-FEW.true)))

pub go_on-requires-2-clause-left_off : goal.go_on-requires-2-clause-left_off
go_on-requires-2-clause-left_off c = (c.requires.left_off, slots_zero c.args.n 4036 (omega (arith, c.requires.indexed.few)))
