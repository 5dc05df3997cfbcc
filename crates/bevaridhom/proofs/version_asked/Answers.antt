-- `bevaridhom::version_asked` meets its contract. Assumes nothing.
use Rattle.bevaridhom.proofs.Hosts.{asked-one, asked-two}
use Rattle.bevaridhom.proofs.version_asked.Goals as goal

pub returns-then-wanted-eq0 : goal.returns-then-wanted-eq0
returns-then-wanted-eq0 c = asked-one _ c.if-wanted-eq0.true

pub returns-else-wanted-eq0 : goal.returns-else-wanted-eq0
returns-else-wanted-eq0 c = asked-two _ c.if-wanted-eq0.false
