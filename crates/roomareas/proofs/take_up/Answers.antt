-- `roomareas::take_up` meets its contract: by the verdict that the area holds. Assumes nothing.
use native.Mathlib.Omega.{arith}
use Rattle.roomareas.proofs.Sitting.{taken_over, taken_running}
use Rattle.roomareas.proofs.take_up.Goals as goal

pub resume-requires : goal.resume-requires
resume-requires c = record {
  indexed = c.requires.indexed;
  goals = c.requires.goals;
  area_in_bounds = (omega (arith, c.requires.work_len.0), c.requires.work_len.1, c.requires.work_len.2);
}

pub returns-in-Unfinished : goal.returns-in-Unfinished
returns-in-Unfinished c = taken_running c.args.work.now c.verdict-v.ensures c.in-Unfinished.is c.resume.ensures.stands c.resume.ensures.work_after

pub returns-in_default : goal.returns-in_default
returns-in_default c = taken_over c.args.work.now c.verdict-v.ensures c.in_default.not-Unfinished
