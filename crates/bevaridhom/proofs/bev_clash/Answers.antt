-- `bevaridhom::bev_clash` meets its contract: the answer of `clashing::clash`, whatever case it is. Assumes nothing.
use mathlib.Core.Path.{refl}
use Rattle.bevaridhom.proofs.Hosts.{told-clash}
use Rattle.bevaridhom.proofs.bev_clash.Goals as goal

pub returns : goal.returns
returns c = rw c.from.ensures (told-clash _ _ _ _ _ c.clash.ensures refl)
