-- `checksum::check_of` meets its contract: the sum of the rows, without the check's own bytes. Assumes nothing.
use Rattle.checksum.proofs.Sums.{rows-check}
use Rattle.checksum.proofs.check_of.Goals as goal

pub returns : goal.returns
returns c = rows-check c.rows-sums.ensures c.weighed-sum.ensures.0
