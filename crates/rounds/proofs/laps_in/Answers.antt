-- `rounds::laps_in` meets its contract. Assumes nothing.
use mathlib.Core.Path.{sym}
use native.Mathlib.Omega.{arith}
use Rattle.rounds.proofs.Climbing.{share_fits, share_few, share_none}
use Rattle.rounds.proofs.laps_in.Goals as goal

pub returns-then-c-eq0 : goal.returns-then-c-eq0
returns-then-c-eq0 c = (omega arith, share_none _ _)

pub returns : goal.returns
returns c = let d = c.if-c-eq0.false in
    (share_few _ _ d, rw (sym c.unfinished-c.ensures) (share_fits _ _ d))
