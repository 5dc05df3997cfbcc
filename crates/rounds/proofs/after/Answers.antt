-- `rounds::after` meets its contract: before each turn the most laps of those passed, and the last that has so many. Assumes nothing.
use native.Mathlib.Omega.{arith}
use Rattle.rounds.proofs.Climbing.{seen_none, seen_more, seen_less, seen_all, last_none}
use Rattle.rounds.proofs.after.Goals.{then-most-made, else-most-made}
use Rattle.rounds.proofs.after.Goals as goal

pub returns-then-k-eq0 : goal.returns-then-k-eq0
returns-then-k-eq0 c = last_none _ _ _ c.if-k-eq0.true

pub loop-w-init : goal.loop-w-init
loop-w-init c = seen_none _ _

pub loop-w-preserved : goal.loop-w-preserved
loop-w-preserved c = elim c.if-most-made.branch [
  | then-most-made w ↦ rw (w.next-is, w.most-is) (seen_more c.loop-w.invariant (omega (arith, c.ahead.ensures)) w.if-most-made.true)
  | else-most-made w ↦ rw (w.next-is, w.most-is) (seen_less c.loop-w.invariant w.if-most-made.false (omega (arith, c.ahead.ensures)))
]

pub returns : goal.returns
returns c = seen_all c.loop-w.invariant (omega (arith, c.loop-w.auto.w-end, c.loop-w-test.false)) c.if-k-eq0.false
