-- `moves::goal_move` meets its contract. Assumes nothing.
use Rattle.moves.proofs.Moves.{conflict_goal, unit-goal}
use Rattle.moves.proofs.goal_move.Goals as goal

pub returns-in-Some : goal.returns-in-Some
returns-in-Some c = let (f, i) = c.in-Some.ensures in
    conflict_goal c.requires.indexed.few c.requires.goals c.requires.holds f i c.keep.ensures

pub returns : goal.returns
returns c = let (u, i) = rw c.unwrap-u.ensures at c.goal_of.ensures in
    unit-goal c.requires.indexed.few c.requires.goals c.requires.holds c.if-c-lt-NONE.false (c.in_default.ensures) u i c.keep-2.ensures
