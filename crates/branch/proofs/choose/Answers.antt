-- `branch::choose` meets its contract. The number that is read is a literal of the table, and a choice's parity its sign. Assumes nothing.
use native.Mathlib.Omega.{arith}
use Rattle.index.proofs.Nodes.{operand_choice}
use Rattle.branch.proofs.Appends.{six, operand_few}
use Rattle.branch.proofs.choose.Goals as goal

pub bounds-x-node : goal.bounds-x-node
bounds-x-node c = omega (
  arith,
  c.requires.indexed.few,
  c.requires.indexed.size,
  six c.requires.indexed c.args.node c.requires.node_lt_n.0 c.args.c
      c.requires.node_lt_n.1,
)

pub overflow_add-result : goal.overflow_add-result
overflow_add-result c = omega (
  arith,
  six c.requires.indexed c.args.node c.requires.node_lt_n.0 c.args.c c.requires.node_lt_n.1,
  operand_few
      c.requires.indexed c.args.node c.requires.node_lt_n.0 c.args.c c.requires.node_lt_n.1,
)

pub returns : goal.returns
returns c = operand_choice c.args.x.now c.args.node c.args.c c.requires.node_lt_n.1
