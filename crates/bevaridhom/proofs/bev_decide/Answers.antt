-- `bevaridhom::bev_decide` meets its contract: the answer of `deciding::decide`, whatever case it is. Assumes nothing.
use mathlib.Core.Path.{refl}
use Rattle.bevaridhom.proofs.Hosts.{told}
use Rattle.bevaridhom.proofs.bev_decide.Goals as goal

pub returns : goal.returns
returns c = rw c.from.ensures (told _ _ _ _ _ _ _ c.decide.ensures refl)
