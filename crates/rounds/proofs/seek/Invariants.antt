use mathlib.Core.Path.{◌≡◌}
use Prim.Native.Nat.{◌-◌}
use Rattle.rounds.specs.Spent.{runs_by}
use Rattle.turns.specs.Round.{seek as seek_from}
use Rattle.rounds.proofs.seek.Given as goal

abbrev pub invariant-loop-i : goal.invariant-loop-i
invariant-loop-i l = seek_from (runs_by l.verdicts) l.i (l.to - l.i) ≡ seek_from (runs_by l.verdicts) l.from (l.to - l.from)
