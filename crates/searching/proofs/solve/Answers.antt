-- `searching::solve` meets its contract: the search that jumps answers as the plain order does. Assumes nothing.
use Rattle.rests.proofs.Held.{sets_slots, slots_sets}
use Rattle.searching.proofs.Jumps.{solved_plain}
use native.Mathlib.Omega.{arith}
use mathlib.Core.Path.{refl}
use Rattle.searching.proofs.solve.Goals as goal

pub go_on-e-requires-clause-left_off : goal.go_on-e-requires-clause-left_off
go_on-e-requires-clause-left_off c = ((rw c.in-Fork.is at c.put-stop.ensures).0, sets_slots (omega (arith, c.requires.indexed.few)) c.requires.ready.1)

pub returns-in-Closed : goal.returns-in-Closed
returns-in-Closed c = record {
  solved = solved_plain c.requires.indexed.table c.requires.goals.below (rw c.in-Closed.is at c.put-stop.ensures) refl;
  sets = c.requires.ready.1;
}

pub returns-in-Model : goal.returns-in-Model
returns-in-Model c = record {
  solved = solved_plain c.requires.indexed.table c.requires.goals.below (rw c.in-Model.is at c.put-stop.ensures) refl;
  sets = c.requires.ready.1;
}

pub returns-in-Fork : goal.returns-in-Fork
returns-in-Fork c = record {
  solved = solved_plain c.requires.indexed.table c.requires.goals.below c.go_on-e.ensures.counted c.verdict.ensures;
  sets = slots_sets c.go_on-e.auto.rests c.requires.ready.1 c.go_on-e.ensures.slots;
}
