-- The invariant of the loop of `index::load_block`: the nodes passed are those of the table.
use Rattle.index.specs.Built.{Loaded}
use Rattle.index.proofs.load_block.Given as goal

abbrev pub invariant-loop-m : goal.invariant-loop-m
invariant-loop-m l = Loaded l.t l.m l.x
