-- `state::blank` meets its contract. Assumes nothing.
use Rattle.state.proofs.Joins.{blanked}
use Rattle.state.proofs.blank.Goals as goal

pub returns : goal.returns
returns c = blanked c.args.clauses c.requires.1 c.requires.0 c.wipe.ensures c.wipe-2.ensures
