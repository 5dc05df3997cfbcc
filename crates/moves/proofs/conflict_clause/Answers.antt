-- `moves::conflict_clause` meets its contract. Assumes nothing.
use Rattle.moves.proofs.Moves.{conflict-on}
use Rattle.moves.proofs.conflict_clause.Goals as goal

pub returns : goal.returns
returns c = let q = c.requires.q_value in
    conflict-on c.requires.indexed.few c.requires.goals c.requires.holds q.0 q.1 q.2 c.code_at-code.ensures
