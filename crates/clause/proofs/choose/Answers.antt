-- `clause::choose` meets its contract. The number that is read is a literal of the table, and a choice's parity its sign. Assumes nothing.
use Rattle.clause.proofs.Rows.{operand_chosen}
use Rattle.clause.proofs.Signs.{xor_choice}
use Rattle.clause.proofs.choose.Goals as goal

pub returns : goal.returns
returns c = let q = c.requires.node_lt_n in
    xor_choice _ c.args.c (operand_chosen c.requires.indexed c.args.node q.0 c.args.c q.1)
