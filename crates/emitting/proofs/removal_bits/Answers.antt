-- `emitting::removal_bits` meets its contract: in version one the clause is that of the move looked up, in version two there are no
-- removals. Assumes nothing.
use Rattle.index.specs.Index.{index_node}
use Rattle.state.specs.Work.{g_of}
use Rattle.moves.specs.Place.{place_number}
use Rattle.emitting.proofs.Steps.{removed_is, removed_none}
use Rattle.emitting.proofs.removal_bits.Goals as goal

pub returns-in-One : goal.returns-in-One
returns-in-One c = removed_is c.in-One.is c.reason-c.ensures c.false_bits.ensures

pub returns-in-Two : goal.returns-in-Two
returns-in-Two c = removed_none (index_node c.args.x.now) c.args.goals.now (g_of c.args.work.now) (place_number c.args.work.now) c.in-Two.is
