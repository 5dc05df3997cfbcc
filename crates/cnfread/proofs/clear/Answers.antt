-- `cnfread::clear` meets its contract: the marks of the first i are gone. Assumes nothing.
use Rattle.cnfread.proofs.Keeping.{clear_more, clear_all}
use Rattle.cnfread.proofs.clear.Goals as goal

pub loop-i-preserved : goal.loop-i-preserved
loop-i-preserved c = clear_more c.loop-i.invariant c.loop-i-test.true

pub returns : goal.returns
returns c = clear_all c.loop-i.invariant c.loop-i-test.false
