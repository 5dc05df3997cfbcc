-- `cnfread::end_body` meets its contract: TRUE, or the goal so far. Assumes nothing.
use mathlib.Core.Path.{refl}
use Rattle.growing.specs.Growing.{state}
use Rattle.growing.proofs.Nodes.{answer_adds}
use Rattle.cnffold.proofs.Built.{grows_as, grows_answer}
use Rattle.cnfread.proofs.Joining.{ended-none, ended_some}
use Rattle.cnfread.proofs.end_body.Goals as goal

pub returns-then-none : goal.returns-then-none
returns-then-none c = record {
  grows = grows_as (λ buf q. ended-none (state c.args.goal c.args.nodes.now buf) c.if-none.true) c.add_true.ensures.grows;
  adds = c.add_true.ensures.adds;
}

pub returns : goal.returns
returns c = record {
  grows = grows_answer c.requires refl (λ buf q. ended_some (state c.args.goal c.args.nodes.now buf) c.if-none.false);
  adds = answer_adds refl;
}
