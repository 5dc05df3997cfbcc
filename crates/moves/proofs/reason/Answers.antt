-- `moves::reason` meets its contract. Assumes nothing.
use mathlib.Core.Path.{refl}
use Rattle.state.proofs.Areas.{held_below}
use Rattle.moves.proofs.Reasons.{reason_goal, reason-position}
use Rattle.moves.proofs.reason.Goals as goal

pub returns-then-place-ge-GOALS : goal.returns-then-place-ge-GOALS
returns-then-place-ge-GOALS c = reason_goal c.requires.goals c.requires.ready.0 c.requires.placed c.if-place-ge-GOALS.true refl _ refl

pub clause_of-requires-clause-l_bound : goal.clause_of-requires-clause-l_bound
clause_of-requires-clause-l_bound c = let p = c.requires.placed in
    (rw c.literal-l.ensures (held_below c.requires.ready.0 _ (p.held c.if-place-ge-GOALS.false)), rw c.literal-l.ensures (p.column c.if-place-ge-GOALS.false))

pub returns : goal.returns
returns c = reason-position c.requires.goals c.requires.ready.0 c.requires.placed c.if-place-ge-GOALS.false c.requires.indexed.table
    c.requires.ready.1 _ c.literal-l.ensures c.clause_of.ensures
