use Rattle.growing.proofs.Blocks.{Front}
use Rattle.growing.proofs.write_blocks.Given as goal

abbrev pub invariant-loop-j : goal.invariant-loop-j
invariant-loop-j l = Front l.keys l.nodes l.initial.buf l.j l.buf
