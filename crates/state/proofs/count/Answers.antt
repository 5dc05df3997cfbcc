-- `state::count` meets its contract. Assumes nothing.
use mathlib.Core.Path.{sym}
use Rattle.trail.proofs.Trails.{trail-length}
use Rattle.state.specs.Work.{tail}
use Rattle.state.proofs.count.Goals as goal

pub returns : goal.returns
returns c = let w = c.args.work.now in
    sym (trail-length (tail w 0) (tail w))
