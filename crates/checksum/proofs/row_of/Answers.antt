-- `checksum::row_of` meets its contract. Assumes nothing.
use Rattle.checksum.proofs.Sums.{row_parts}
use Rattle.checksum.proofs.row_of.Goals as goal

pub returns : goal.returns
returns c = row_parts _ _ _ _ c.args.b.now c.args.at
    c.part_of-s.ensures.0 c.part_of-t.ensures.0 c.part_of-u.ensures.0 c.part_of-v.ensures.0
