-- `bevaridhom::bev_overview` meets its contract: the answer of `overview::overview`, whatever case it is. Assumes nothing.
use mathlib.Core.Path.{refl}
use Rattle.bevaridhom.proofs.Hosts.{told-overview}
use Rattle.bevaridhom.proofs.bev_overview.Goals as goal

pub returns : goal.returns
returns c = rw c.from.ensures (told-overview _ _ _ _ _ _ _ c.overview.ensures refl)
