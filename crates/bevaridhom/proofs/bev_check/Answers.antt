-- `bevaridhom::bev_check` meets its contract: the answer of `checking::check`, whatever case it is. Assumes nothing.
use mathlib.Core.Path.{refl}
use Rattle.bevaridhom.proofs.Hosts.{told-check}
use Rattle.bevaridhom.proofs.bev_check.Goals as goal

pub returns : goal.returns
returns c = rw c.from.ensures (told-check _ _ _ _ _ _ c.check.ensures refl)
