-- `grounds::put_clause` meets its contract. Assumes nothing.
use Rattle.grounds.proofs.Grounds.{room, put-held}
use Rattle.grounds.proofs.put_clause.Goals as goal

pub put_position-requires-clause-room : goal.put_position-requires-clause-room
put_position-requires-clause-room c = let g = c.requires.grounded in
    room c.requires.ready.0 c.requires.ready.1 g

pub returns : goal.returns
returns c = put-held c.requires.ready.0 c.requires.ready.1 c.requires.grounded c.requires.indexed.table c.put_position.ensures
