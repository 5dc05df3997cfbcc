-- `bevaridhom::bev_dimacs` meets its contract: the answer of `cnfread::read`, whatever case it is, and its bytes. Assumes nothing.
use mathlib.Core.Path.{refl}
use Rattle.bevaridhom.proofs.Hosts.{told-read}
use Rattle.bevaridhom.proofs.bev_dimacs.Goals as goal

pub returns : goal.returns
returns c = rw c.from.ensures (told-read _ _ _ (λ i. (c.type_inv.buf i).fits) _ c.read.ensures refl)
