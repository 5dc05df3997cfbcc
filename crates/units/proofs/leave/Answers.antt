-- `units::leave` meets its contract: the word loses a bit, and the sum does where the word becomes 0. Assumes nothing.
use Rattle.units.proofs.Sets.{word-leaves, sum-leaves, left}
use Rattle.units.proofs.leave.Goals as goal

pub overflow_sub-word : goal.overflow_sub-word
overflow_sub-word c = (word-leaves c.args.m.now c.args.q c.requires.units c.requires.q_lt_positions.0 c.requires.q_lt_positions.1).0

pub overflow_sub-m : goal.overflow_sub-m
overflow_sub-m c = (sum-leaves c.args.m.now c.args.q c.requires.units c.requires.q_lt_positions.0 c.requires.q_lt_positions.1 _).0

pub returns : goal.returns
returns c = left c.args.m.now c.args.q c.requires.units c.requires.q_lt_positions.0 c.requires.q_lt_positions.1
