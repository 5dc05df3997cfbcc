-- `roomareas::take_up_at` meets its contract: question i's parts are lent, and come back. Assumes nothing.
use Rattle.roomareas.proofs.Lends.{made_at}
use Rattle.roomareas.proofs.Parts.{lent}
use Rattle.roomareas.proofs.take_up_at.Goals as goal

pub returns : goal.returns
returns c = rw (← lent 32768 c.args.i c.args.work.now)
    (made_at c.requires.lendable c.take_up.auto.work c.take_up.auto.masks c.take_up.auto.opens c.take_up.ensures)
