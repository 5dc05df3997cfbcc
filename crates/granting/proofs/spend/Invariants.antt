use Prim.Native.Nat.{◌-◌}
use Rattle.std.proofs.Common.{Continue}
use Rattle.rests.specs.Words.{Sets}
use Rattle.granting.proofs.Laws.{Walked}
use Rattle.granting.proofs.spend.Given as goal

abbrev pub invariant-loop-s : goal.invariant-loop-s
invariant-loop-s l = Sets l.rests × Walked l.x l.n l.g l.wishes l.initial.list l.initial.work l.allowance l.list l.work (Continue l.on) (l.s - 1)
