-- `clause::negated` meets its contract. Assumes nothing.
use Rattle.clause.proofs.Signs.{xor_neg}
use Rattle.clause.proofs.negated.Goals as goal

pub returns : goal.returns
returns c = xor_neg c.args.l
