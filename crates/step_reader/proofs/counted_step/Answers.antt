-- `step_reader::counted_step` meets its contract: the count, then rows 44 and 65. Assumes nothing.
use native.Mathlib.Omega.{arith}
use Rattle.step_reader.proofs.counted_step.Goals as goal

pub step_at-s-requires : goal.step_at-s-requires
step_at-s-requires c = c.requires.at_in_bounds (omega (arith, c.if-stated-at.false, c.stated.ensures))
