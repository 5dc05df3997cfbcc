-- `searching::from_start` meets its contract: the goals, and the units that join then. Assumes nothing.
use Rattle.searching.proofs.Jumps.{counted_shut, opened}
use Rattle.searching.proofs.from_start.Goals as goal

pub returns-then-not-join_goals : goal.returns-then-not-join_goals
returns-then-not-join_goals c = let b = c.join_goals.ensures in
    let (s, e) = b.shut c.if-not-join_goals.true in
    counted_shut b.ready s e

pub returns : goal.returns
returns c = opened c.first_units.result c.first_units.ensures (c.join_goals.ensures.same c.if-not-join_goals.false)
