-- `rests::word_of` meets its contract. Assumes nothing.
use Rattle.rests.proofs.Words.{shifted_one, word_here, word_none}
use mathlib.Core.Path.{◌∙◌}
use Rattle.rests.proofs.word_of.Goals as goal

pub returns-then-d-k : goal.returns-then-d-k
returns-then-d-k c = shifted_one c.args.d ∙ word_here c.args.k c.args.d c.if-d-k.true

pub returns-else-d-k : goal.returns-else-d-k
returns-else-d-k c = word_none c.args.k c.args.d c.if-d-k.false
