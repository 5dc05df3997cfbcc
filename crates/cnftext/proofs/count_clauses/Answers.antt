-- `cnftext::count_clauses` meets its contract: the clauses ended so far are counted. Assumes nothing.
use Rattle.cnftext.proofs.Clauses.{counted-end, counted_literal, counted-done, counted_open, counted_bad}
use native.Mathlib.Omega.{arith}
use Rattle.cnftext.proofs.count_clauses.Goals as goal

pub returns-then-under : goal.returns-then-under
returns-then-under c = counted_open c.loop-next.invariant.2 c.in-Done.ensures c.if-under.true

pub returns-in-Done : goal.returns-in-Done
returns-in-Done c = counted-done c.loop-next.invariant.2 c.in-Done.ensures c.if-under.false

pub returns-in-Malformed : goal.returns-in-Malformed
returns-in-Malformed c = counted_bad c.loop-next.invariant.2 c.in-Malformed.ensures.1

pub loop-next-preserved-in-End : goal.loop-next-preserved-in-End
loop-next-preserved-in-End c = let t = c.in-End.ensures in
    (t.within, omega (arith, c.loop-next.invariant.1, t.later), counted-end c.loop-next.invariant.2 t)

pub loop-next-preserved : goal.loop-next-preserved
loop-next-preserved c = let t = c.in-Literal.ensures in
    (t.within, omega (arith, c.loop-next.invariant.1, t.later), counted_literal c.loop-next.invariant.2 t)
