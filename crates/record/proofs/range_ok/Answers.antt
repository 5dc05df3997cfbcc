-- `record::range_ok` meets its contract: each way through the code is a case of `range_ok`. Assumes nothing.
use Rattle.record.proofs.Cases.{range_true, range_atom, range-a, range_b, range-two, range-c}
use Rattle.record.proofs.range_ok.Goals as goal

pub returns-then-x-lt2 : goal.returns-then-x-lt2
returns-then-x-lt2 c = range_true _ _ c.if-x-lt2.true

pub returns-then-x-eq2 : goal.returns-then-x-eq2
returns-then-x-eq2 c = range_atom _ c.args.n c.if-x-eq2.true

pub returns-then-n-x : goal.returns-then-n-x
returns-then-n-x c = range-a _ _ c.if-x-lt2.false c.if-x-eq2.false c.if-n-x.true

pub returns-then-n-x-2 : goal.returns-then-n-x-2
returns-then-n-x-2 c = range_b _ _ c.if-x-lt2.false c.if-x-eq2.false c.if-n-x.false c.if-n-x-2.true

pub returns-then-x-lt7 : goal.returns-then-x-lt7
returns-then-x-lt7 c = range-two _ _ c.if-x-lt2.false c.if-x-eq2.false c.if-n-x.false c.if-n-x-2.false c.if-x-lt7.true

pub returns : goal.returns
returns c = range-c _ _ c.if-x-lt2.false c.if-x-eq2.false c.if-n-x.false c.if-n-x-2.false c.if-x-lt7.false
