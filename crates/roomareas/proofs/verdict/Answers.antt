-- `roomareas::verdict` meets its contract: by the number. Assumes nothing.
use native.Mathlib.Omega.{arith}
use Rattle.roomareas.proofs.Resting.{number_closed, number_found, number_running}
use Rattle.roomareas.proofs.verdict.Goals as goal

pub returns-in-0 : goal.returns-in-0
returns-in-0 c G = number_closed _ G c.in-0.is

pub returns-in-1 : goal.returns-in-1
returns-in-1 c G = number_found _ G c.in-1.is

pub returns-in_default : goal.returns-in_default
returns-in_default c G = number_running _ G (λ e. omega arith) (λ e. omega arith)
