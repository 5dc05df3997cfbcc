-- `searching::join_goals` meets its contract. The invariant: the goals passed are true, and the search from what is held is that from the
-- start, or that closed before. Assumes nothing.
use Rattle.searching.proofs.Begins.{begins_starts, begins-on, begins-shut, begins_open}
use native.Mathlib.Omega.{arith}
use Rattle.searching.proofs.join_goals.Goals as goal

pub loop-k-init : goal.loop-k-init
loop-k-init c = begins_starts c.requires.goals c.requires.holds.0 c.requires.holds.1

pub returns-then-not-join_goal : goal.returns-then-not-join_goal
returns-then-not-join_goal c = begins-shut c.requires.indexed.few c.requires.goals c.loop-k.invariant c.loop-k-test.true c.join_goal.ensures
    c.if-not-join_goal.true

pub loop-k-preserved : goal.loop-k-preserved
loop-k-preserved c = begins-on c.requires.indexed.few c.requires.goals c.loop-k.invariant c.loop-k-test.true c.join_goal.ensures
    c.if-not-join_goal.false c.join_goal.auto.work c.join_goal.auto.masks

pub returns : goal.returns
returns c = begins_open c.loop-k.invariant (omega (arith, c.loop-k-test.false))
