-- `growing::room_of` meets its contract: by whether the buffer is shorter than the longest table. Assumes nothing.
use borrow.Author.Tests.{lt-ltb, le-ltb}
use Rattle.growing.specs.Growing.{room_of}
use Rattle.growing.proofs.room_of.Goals as goal

pub returns-then-len-lt16384 : goal.returns-then-len-lt16384
unfolding room_of
returns-then-len-lt16384 c = rw (lt-ltb _ _ c.if-len-lt16384.true)

pub returns : goal.returns
unfolding room_of
returns c = rw (le-ltb _ _ c.if-len-lt16384.false)
