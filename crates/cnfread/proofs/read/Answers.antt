-- `cnfread::read` meets its contract: the heading, then the table. Assumes nothing.
use Rattle.cnfread.proofs.Reading.{no-heading, heading_starts, turned_away}
use Rattle.cnfread.proofs.read.Goals as goal

pub returns-in_default : goal.returns-in_default
returns-in_default c = turned_away c.args.text.now c.args.buf.now (λ i. (c.type_inv.buf i).fits) _ (no-heading c.find_heading.ensures c.in_default.is)

pub build_table-requires : goal.build_table-requires
build_table-requires c = heading_starts c.find_heading.ensures _ c.in-Some.is

pub returns : goal.returns
returns c = c.build_table.ensures
