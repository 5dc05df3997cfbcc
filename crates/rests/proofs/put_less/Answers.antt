-- `rests::put_less` meets its contract. Assumes nothing.
use Rattle.rests.proofs.Words.{first_fits, second_fits, put-less as law}
use Rattle.rests.proofs.put_less.Goals as goal

pub overflow_sub-first : goal.overflow_sub-first
overflow_sub-first c = rw c.word_of-left.ensures
    (first_fits c.args.m.now c.args.q c.requires.there.0 c.args.p c.args.d c.requires.d_value)

pub overflow_sub-second : goal.overflow_sub-second
overflow_sub-second c = rw c.word_of-right.ensures
    (second_fits c.args.m.now c.args.q c.requires.there.0 c.args.p c.args.d c.requires.d_value)

pub returns : goal.returns
returns c = rw (c.word_of-left.ensures, c.word_of-right.ensures)
    (law c.args.m.now c.args.q c.requires.there.0 c.args.p c.args.d c.requires.d_value)
