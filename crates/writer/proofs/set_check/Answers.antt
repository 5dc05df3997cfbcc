-- `writer::set_check` meets its contract: two stores are the check at the end. Assumes nothing.
use Rattle.writer.proofs.Seals.{check-stored}
use Rattle.writer.proofs.set_check.Goals as goal

pub returns : goal.returns
returns c = check-stored _ c.check_of-c.ensures c.requires
