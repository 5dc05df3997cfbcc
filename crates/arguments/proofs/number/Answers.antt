-- The text is what the argument left in the buffer, or, where there is none, the empty one, which says no number. Assumes nothing.
use mathlib.Core.List.{[]}
use mathlib.Core.Path.{refl}
use lib.ListN.{take, length-take}
use native.Mathlib.Omega.{arith}
use Rattle.text.specs.Text.{read_number}
use Rattle.arguments.proofs.number.Goals as goal

pub returns-in-Ok : goal.returns-in-Ok
returns-in-Ok g c = record {
  text = take c.in-Ok.n c.arg.new.buf;
  short = omega (arith, length-take c.in-Ok.n c.arg.new.buf, c.arg.auto.buf, c.in-Ok.ensures.bound);
  says = c.value.ensures;
}

pub returns-in-Err : goal.returns-in-Err
unfolding read_number
returns-in-Err g c = record { text = []; short = omega arith; says = refl }
