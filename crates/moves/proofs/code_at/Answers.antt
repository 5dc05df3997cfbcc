-- `moves::code_at` meets its contract. Assumes nothing.
use Rattle.state.proofs.Areas.{count_most, held_below}
use native.Mathlib.Omega.{arith}
use Rattle.moves.proofs.code_at.Goals as goal

pub literal-l-requires : goal.literal-l-requires
literal-l-requires c = (c.requires.ready.size, omega (arith, c.requires.q_bound, count_most c.requires.ready, c.requires.indexed.few))

pub code-requires-clause-node_lt_n : goal.code-requires-clause-node_lt_n
code-requires-clause-node_lt_n c = let b = held_below c.requires.ready c.args.q c.requires.q_bound in
    (omega (arith, b, c.literal-l.ensures), omega arith)
