-- `bevaridhom::bev_wishes` meets its contract: the answer of `wishes::grant`, whatever case it is. Assumes nothing.
use mathlib.Core.Path.{refl}
use Rattle.bevaridhom.proofs.Hosts.{told_wishes}
use Rattle.bevaridhom.proofs.bev_wishes.Goals as goal

pub returns : goal.returns
returns c = rw c.from.ensures (told_wishes _ _ _ _ _ _ _ _ _ c.grant.ensures refl)
