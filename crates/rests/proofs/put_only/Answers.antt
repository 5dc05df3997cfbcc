-- `rests::put_only` meets its contract. Assumes nothing.
use Rattle.rests.proofs.Words.{put_only as law}
use Rattle.rests.proofs.put_only.Goals as goal

pub returns : goal.returns
returns c = rw (c.word_of-first.ensures, c.word_of-second.ensures) (law c.args.m.now c.args.q c.requires c.args.d)
