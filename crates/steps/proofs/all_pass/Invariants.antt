-- `steps::all_pass` meets its contract: the steps of the blocks before j pass. Assumes nothing.
use Rattle.steps.proofs.Quick.{Before}
use Rattle.steps.proofs.all_pass.Given as goal

abbrev pub invariant-loop-j : goal.invariant-loop-j
invariant-loop-j l = Before l.d l.version l.steps l.j
