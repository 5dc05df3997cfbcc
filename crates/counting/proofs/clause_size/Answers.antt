-- `counting::clause_size` meets its contract. Assumes nothing.
use Rattle.state.proofs.Areas.{held_below}
use Rattle.counting.proofs.Sizes.{sized_goal, sized_position}
use Rattle.counting.proofs.clause_size.Goals as goal

pub returns-then-place-ge-GOALS : goal.returns-then-place-ge-GOALS
returns-then-place-ge-GOALS c = sized_goal c.requires.placed c.if-place-ge-GOALS.true

pub literal_size-requires-clause-l_bound : goal.literal_size-requires-clause-l_bound
literal_size-requires-clause-l_bound c = rw c.literal-l.ensures (held_below c.requires.ready.0 _ (c.requires.placed.held c.if-place-ge-GOALS.false))

pub returns : goal.returns
returns c = sized_position c.requires.placed c.requires.ready.1 c.if-place-ge-GOALS.false (rw c.literal-l.ensures at c.literal_size.ensures)
