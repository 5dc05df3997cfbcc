-- `cnfread::first_refusal` meets its contract: the text's own refusal, or the one given. Assumes nothing.
use Rattle.cnfread.proofs.Reading.{first-given}
use Rattle.cnfread.proofs.first_refusal.Goals as goal

pub returns-in-Ok : goal.returns-in-Ok
returns-in-Ok c = first-given c.args.r (c.scan.ensures.fine _ c.in-Ok.is).file
