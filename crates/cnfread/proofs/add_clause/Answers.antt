-- `cnfread::add_clause` meets its contract: TRUE or the OR. Assumes nothing.
use lib.ListN.{take}
use Rattle.growing.specs.Growing.{state}
use Rattle.cnffold.proofs.Built.{grows_as}
use Rattle.cnfread.proofs.Joining.{folded-true}
use Rattle.cnfread.proofs.add_clause.Goals as goal

pub returns-then-both : goal.returns-then-both
returns-then-both c = record {
  grows = grows_as (λ buf q. folded-true (state 0 c.args.nodes.now buf) (take c.args.count c.args.held.now) c.if-both.true) c.add_true.ensures.grows;
  adds = c.add_true.ensures.adds;
}
