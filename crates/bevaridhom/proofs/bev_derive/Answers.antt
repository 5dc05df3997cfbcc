-- `bevaridhom::bev_derive` meets its contract: the answer of `deriver::derive`, whatever case it is, and its bytes. Assumes nothing.
use mathlib.Core.Path.{refl}
use Rattle.bevaridhom.proofs.Hosts.{derives_asked, told-derive}
use Rattle.bevaridhom.proofs.bev_derive.Goals as goal

pub returns : goal.returns
returns c = rw c.from.ensures (told-derive _ _ _ _ _ _ _ _ (derives_asked c.version_asked.ensures c.derive.ensures) refl)
