-- `roomareas::put_next` meets its contract. Assumes nothing.
use Rattle.roomareas.proofs.Resting.{next_put}
use Rattle.roomareas.proofs.put_next.Goals as goal

pub returns : goal.returns
returns c = next_put _ _ c.requires
