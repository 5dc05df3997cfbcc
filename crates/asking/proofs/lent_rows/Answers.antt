-- `asking::lent_rows` meets its contract: rows 21 and 23 in order. Assumes nothing.
use borrow.Author.Tests.{le-leb, lt-leb}
use Rattle.asking.proofs.lent_rows.Goals as goal

pub returns-then-points-needed : goal.returns-then-points-needed
returns-then-points-needed c = simp (lt-leb _ _ c.if-points-needed.true)

pub returns-then-area-lt32768 : goal.returns-then-area-lt32768
returns-then-area-lt32768 c = simp (le-leb _ _ c.if-points-needed.false, lt-leb _ _ c.if-area-lt32768.true)

pub returns : goal.returns
returns c = simp (le-leb _ _ c.if-points-needed.false, le-leb _ _ c.if-area-lt32768.false)
